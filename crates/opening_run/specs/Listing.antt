-- What the listing of an opening says: a line for each command, with its ordinal and what the book says to it, and a last line.
use Rattle.std.specs.Prelude.{◌≡◌, ℕ, ◌+◌, List, [], ◌∷◌, ◌++◌, map, length, Some, None, Ok, Err, codes, decimal, MatchBool, Option, Result, nat_le}
use Rattle.tape.specs.declared.fault.TapeFault.{TapeFault}
use Rattle.tape.specs.declared.fault.TapeFault.TheVariants.{OutOfBounds}
use Rattle.tape.specs.Numbers.{tape_number}
use Rattle.tape.specs.Format.{Record}
use Rattle.tape.specs.Sequence.{Stand}
use Rattle.calls.specs.declared.call.Answer.{Answer}
use Rattle.calls.specs.declared.call.Answer.TheVariants.{Started, Entered, Withdrawn, Amended, Shown}
use Rattle.calls.specs.Listed.{Listed}
use Rattle.calls.specs.State.{Setting, State, opened}
use Rattle.calls.specs.Machine.{replies}
use Rattle.opening.specs.declared.runs.Counts.{Counts}
use Rattle.opening.specs.declared.fault.At.{At}
use Rattle.opening.specs.declared.runs.Report.{Report}
use Rattle.opening.specs.Calls.{call_of}
use Rattle.opening.specs.Runs.{accepted, refused, StopsAt}

-- what is said to a command (no command of a tape is answered by Shown)
abbrev pub words : Result Answer Listed → List ℕ
words (Ok Started) = codes "started"
words (Ok (Entered n)) = codes "order " ++ decimal n
words (Ok (Withdrawn q)) = codes "withdrawn " ++ decimal q
words (Ok (Amended n)) = codes "order " ++ decimal n
words (Ok (Shown o)) = codes "shown"
words (Err e) = codes "refused " ++ decimal e.number

-- the line of the k-th command
abbrev pub line : ℕ → Result Answer Listed → List ℕ
line k r = decimal k ++ (codes " " ++ (words r ++ (10 ∷ [])))

-- the lines from the k-th command on
abbrev pub lines : ℕ → List (Result Answer Listed) → List ℕ
lines k [] = []
lines k (r ∷ rs) = line k r ++ lines (k + 1) rs

-- the last line: the counts of accepted and refused commands, or the fault's number and place
abbrev pub ending : Counts → Option (At TapeFault) → List ℕ
ending n None = codes "end " ++ (decimal n.accepted ++ (codes " " ++ decimal n.refused))
ending n (Some at) = codes "fault " ++ (decimal (tape_number at.fault) ++ (codes " at " ++ decimal at.place))

abbrev pub closing : Report → List ℕ
closing r = ending r.counts r.fault

-- the records stand on the tape up to its end or its first fault; the report has the counts of what is said to them, one after another, by a
-- book in setting g and state s, and where and how the run stops
pub record Plays (g : Setting) (s : State) (tape : List ℕ) (records : List Record) (r : Report) : Type 0 where
  pub place : ℕ
  pub stand : Stand tape 0 records place
  pub stops : StopsAt tape 0 place r.fault
  pub accepted : r.counts.accepted ≡ accepted (replies g s (map call_of records))
  pub refused : r.counts.refused ≡ refused (replies g s (map call_of records))

-- the fault of a tape over 65,535 bytes
abbrev pub too_long : Report
too_long = record { counts = record { accepted = 0; refused = 0 }; fault = Some (record { place = 0; fault = OutOfBounds }) }

-- a tape over 65,535 bytes is not read at all
abbrev pub Played : Setting → State → List ℕ → List Record → Report → Type 0
Played g s tape records r = MatchBool (nat_le (length tape) 65535) (Plays g s tape records r) ((records ≡ []) × (r ≡ too_long))

-- text is the listing of the opening of a new book in setting g by a tape
abbrev pub Listing : Setting → List ℕ → List ℕ → Type 0
Listing g tape text =
    (records : List Record) × (r : Report) × Played g opened tape records r × (text ≡ lines 1 (replies g opened (map call_of records)) ++ (closing r ++ (10 ∷ [])))
