-- What a run over a tape does to a book.
use Rattle.std.specs.Prelude.{◌≡◌, ℕ, ◌+◌, List, [], ◌∷◌, map, length, Some, None, Ok, Err, Option, Result}
use Rattle.ticks.specs.declared.rule.TickRule as TickRule
use Rattle.sheets.specs.declared.sheet.OrderSheet as OrderSheet
use Rattle.tape.specs.declared.fault.TapeFault.{TapeFault}
use Rattle.tape.specs.Format.{Record}
use Rattle.tape.specs.Sequence.{Stand, Ends}
use Rattle.calls.specs.declared.call.Answer.{Answer}
use Rattle.calls.specs.Listed.{Listed}
use Rattle.calls.specs.Machine.{replies, next_all}
use Rattle.book.specs.declared.book.Book.{Book}
use Rattle.book.specs.Books.{setting_of, state_of}
use Rattle.opening.specs.declared.runs.Report.{Report}
use Rattle.opening.specs.declared.fault.At.{At}
use Rattle.opening.specs.Calls.{call_of}

-- 1 for a call that is accepted, and 1 for one that is refused
abbrev pub yes_of : {E : Type 0} → Result Answer E → ℕ
yes_of (Ok a) = 1
yes_of (Err e) = 0

abbrev pub no_of : {E : Type 0} → Result Answer E → ℕ
no_of (Ok a) = 0
no_of (Err e) = 1

-- how many replies accept a call, and how many refuse one
abbrev pub accepted : List (Result Answer Listed) → ℕ
accepted [] = 0
accepted (r ∷ rs) = yes_of r + accepted rs

abbrev pub refused : List (Result Answer Listed) → ℕ
refused [] = 0
refused (r ∷ rs) = no_of r + refused rs

-- a run stops at place j of a tape that begins at place `start`: at its end, or at the fault there
abbrev pub StopsAt : List ℕ → ℕ → ℕ → Option (At TapeFault) → Type 0
StopsAt tape start j None = Ends tape j None
StopsAt tape start j (Some at) = (at.place ≡ start + j) × Ends tape j (Some at.fault)

-- book b was run over a tape that begins at place `start`, which gave report r and book b': the records that stand on the tape, up to its end or
-- its first fault, were given to the book one after another, each as a call; the tick rule, the room of the sheet and the number of its rows stay
pub record Ran {R S : Type 0} (rules : TickRule.Ghosts R) (sheets : OrderSheet.Ghosts S) (tape : List ℕ) (start : ℕ) (b : Book R S) (r : Report) (b' : Book R S) : Type 0 where
  pub records : List Record
  pub place : ℕ
  pub stand : Stand tape 0 records place
  pub stops : StopsAt tape start place r.fault
  pub state : state_of sheets b' ≡ next_all (setting_of rules sheets b) (state_of sheets b) (map call_of records)
  pub accepted : r.counts.accepted ≡ accepted (replies (setting_of rules sheets b) (state_of sheets b) (map call_of records))
  pub refused : r.counts.refused ≡ refused (replies (setting_of rules sheets b) (state_of sheets b) (map call_of records))
  pub rule : b'.rule ≡ b.rule
  pub room : sheets.room b'.sheet ≡ sheets.room b.sheet
  pub rows : length (sheets.rows b'.sheet) ≡ length (sheets.rows b.sheet)
