-- A tape as a whole: the records that stand on it one after another, and how it ends.
use Rattle.std.specs.Prelude.{◌≡◌, ℕ, ◌+◌, ◌<◌, List, [], ◌∷◌, length, drop, Some, None, Ok, Err, Option}
use Rattle.tape.specs.declared.fault.TapeFault.{TapeFault}
use Rattle.tape.specs.Format.{Record, decode, width}

-- the records stand on the tape from place i up to place j
abbrev pub Stand : List ℕ → ℕ → List Record → ℕ → Type 0
Stand tape i [] j = i ≡ j
Stand tape i (c ∷ cs) j = (decode (drop i tape) ≡ Ok c) × Stand tape (i + width c) cs j

-- place j is the tape's end, or has a fault
abbrev pub Ends : List ℕ → ℕ → Option TapeFault → Type 0
Ends tape j None = j ≡ length tape
Ends tape j (Some f) = (j < length tape) × (decode (drop j tape) ≡ Err f)
