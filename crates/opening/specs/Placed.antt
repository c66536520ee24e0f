-- Faults with their places.
use Rattle.std.specs.Prelude.{ℕ, Ok, Err, Result}
use Rattle.tape.specs.Numbers.{tape_number}
use Rattle.calls.specs.Listed.{listed}
use Rattle.opening.specs.declared.fault.At.{At}
use Rattle.opening.specs.declared.fault.StepFault.{StepFault}
use Rattle.opening.specs.declared.fault.StepFault.TheVariants.{Tape, Book}

-- a result whose fault is at a place
abbrev pub placed : {T E : Type 0} → ℕ → Result T E → Result T (At E)
placed place (Ok x) = Ok x
placed place (Err e) = Err (record { place = place; fault = e })

-- the number of a tape's fault or of a book's refusal
abbrev pub step_number : StepFault → ℕ
step_number (Tape at) = tape_number at.fault
step_number (Book at) = (listed at.fault).number
