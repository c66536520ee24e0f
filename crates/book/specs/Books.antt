-- What a book's fields mean: its setting and its state, and what a call leaves of the sheet's rows.
use Rattle.std.specs.Prelude.{◌≡◌, List, Ok, Err, Option, Result}
use Rattle.sheets.specs.Rows.{Row, SpareRowsKept}
use Rattle.calls.specs.declared.call.Answer.{Answer}
use Rattle.calls.specs.declared.call.Answer.TheVariants.{Started, Entered, Withdrawn, Amended, Shown}
use Rattle.calls.specs.declared.refusal.Refusal.{Refusal}
use Rattle.calls.specs.declared.call.Call.{Call}
use Rattle.calls.specs.Listed.{Listed}
use Rattle.calls.specs.State.{Rule, Setting, State}
use Rattle.calls.specs.Machine.{due, answer_to, after, Ends}
use Rattle.ticks.specs.declared.rule.TickRule as TickRule
use Rattle.sheets.specs.declared.sheet.OrderSheet as OrderSheet
use Rattle.book.specs.declared.book.Book.{Book}

-- what a tick rule means, by its ghost members
abbrev pub rule_of : {R : Type 0} → TickRule.Ghosts R → R → Rule
rule_of rules r = record { ticks = rules.ticks r; floor = rules.floor r; ceiling = rules.ceiling r }

-- the setting of a book, by the ghost members of its rule and its sheet
abbrev pub setting_of : {R S : Type 0} → TickRule.Ghosts R → OrderSheet.Ghosts S → Book R S → Setting
setting_of rules sheets b = record { rule = rule_of rules b.rule; room = sheets.room b.sheet }

-- the state of a book, by what its sheet means
abbrev pub state_of : {R S : Type 0} → OrderSheet.Ghosts S → Book R S → State
state_of sheets b = record { phase = b.phase; prior = b.prior; last = b.last; used = b.used; sides = sheets.meaning b.sheet }

-- the sheet's rows before and after a call: an order that was entered, withdrawn or amended leaves every row that is spare afterwards
-- as it was; any other answer, and every refusal, leaves all rows as they were
abbrev pub RowsLeft : Result Answer Refusal → List Row → List Row → Type 0
RowsLeft (Ok Started) before after = after ≡ before
RowsLeft (Ok (Entered n)) before after = SpareRowsKept before after
RowsLeft (Ok (Withdrawn q)) before after = SpareRowsKept before after
RowsLeft (Ok (Amended n)) before after = SpareRowsKept before after
RowsLeft (Ok (Shown o)) before after = after ≡ before
RowsLeft (Err e) before after = after ≡ before

-- book b was given call c, said r and became b': the refusal that is due, or the call's answer and what the rules make of the state;
-- the tick rule and the room of the sheet stay
pub record Took {R S : Type 0} (sheets : OrderSheet.Ghosts S) (refused : Option Listed) (c : Call) (b : Book R S) (r : Result Answer Refusal) (b' : Book R S) : Type 0 where
  pub ends : Ends refused (answer_to (state_of sheets b) c) (state_of sheets b) (after (state_of sheets b) c) r (state_of sheets b')
  pub rule : b'.rule ≡ b.rule
  pub room : sheets.room b'.sheet ≡ sheets.room b.sheet
  pub rows : RowsLeft r (sheets.rows b.sheet) (sheets.rows b'.sheet)

-- the same by the rules of the book
abbrev pub Takes : {R S : Type 0} → TickRule.Ghosts R → OrderSheet.Ghosts S → Call → Book R S → Result Answer Refusal → Book R S → Type 0
Takes rules sheets c b r b' = Took sheets (due (setting_of rules sheets b) (state_of sheets b) c) c b r b'
