-- What one command of a tape does to a book.
use Rattle.std.specs.Prelude.{◌≡◌, ℕ, ◌+◌, ◌<◌, cond, ◌&&◌, List, length, drop, Some, None, Ok, Err, Option, Result, nat_le}
use Rattle.ticks.specs.declared.rule.TickRule as TickRule
use Rattle.sheets.specs.declared.sheet.OrderSheet as OrderSheet
use Rattle.tape.specs.declared.fault.TapeFault.{TapeFault}
use Rattle.tape.specs.declared.fault.TapeFault.TheVariants.{OutOfBounds}
use Rattle.tape.specs.Format.{Record, decode, width}
use Rattle.calls.specs.declared.call.Answer.{Answer}
use Rattle.calls.specs.declared.refusal.Refusal.{Refusal}
use Rattle.book.specs.declared.book.Book.{Book}
use Rattle.book.specs.Books.{Takes}
use Rattle.opening.specs.declared.fault.StepFault.{StepFault}
use Rattle.opening.specs.declared.fault.StepFault.TheVariants as fault
use Rattle.opening.specs.Calls.{call_of}

-- a reader at place i of the tape and book b, one command on: the book is given the command's call; at the tape's end and at a fault
-- both stay
abbrev pub Advanced : {R S : Type 0} → TickRule.Ghosts R → OrderSheet.Ghosts S → List ℕ → ℕ → Book R S → Result (Option (Result Answer Refusal)) TapeFault → ℕ → Book R S → Type 0
Advanced rules sheets tape i b (Ok None) i' b' = (i ≡ length tape) × (i' ≡ i) × (b' ≡ b)
Advanced rules sheets tape i b (Ok (Some said)) i' b' =
    (c : Record) × (i < length tape) × (decode (drop i tape) ≡ Ok c) × (i' ≡ i + width c) × Takes rules sheets (call_of c) b said b'
Advanced rules sheets tape i b (Err f) i' b' = (i < length tape) × (decode (drop i tape) ≡ Err f) × (i' ≡ i) × (b' ≡ b)

-- the command at a place of a tape, or the fault there: first a tape over 65,535 bytes or a place past its end
abbrev pub command_at : List ℕ → ℕ → Result Record TapeFault
command_at tape i = cond (nat_le (length tape) 65535 && nat_le i (length tape)) (decode (drop i tape)) (Err OutOfBounds)

-- what the book said, its refusal with the place
abbrev pub said_at : ℕ → Result Answer Refusal → Result Answer StepFault
said_at i (Ok a) = Ok a
said_at i (Err e) = Err (fault.Book (record { place = i; fault = e }))

-- a step at place i that finds a fault of the tape answers it, and the book stays; one that finds a command gives its call to the book
abbrev pub StepOn : {R S : Type 0} → TickRule.Ghosts R → OrderSheet.Ghosts S → Result Record TapeFault → ℕ → Book R S → Result Answer StepFault → Book R S → Type 0
StepOn rules sheets (Err f) i b r b' = (r ≡ Err (fault.Tape (record { place = i; fault = f }))) × (b' ≡ b)
StepOn rules sheets (Ok c) i b r b' = (said : Result Answer Refusal) × Takes rules sheets (call_of c) b said b' × (r ≡ said_at i said)

abbrev pub Stepped : {R S : Type 0} → TickRule.Ghosts R → OrderSheet.Ghosts S → List ℕ → ℕ → Book R S → Result Answer StepFault → Book R S → Type 0
Stepped rules sheets tape i b r b' = StepOn rules sheets (command_at tape i) i b r b'
