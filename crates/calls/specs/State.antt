-- What a book stands at.
use Rattle.std.specs.Prelude.{ℕ, List, [], None, Option}
use Rattle.sheets.specs.Sides.{Sides, sides_of}
use Rattle.calls.specs.declared.call.Phase.{Phase}
use Rattle.calls.specs.declared.call.Phase.TheVariants.{Shut}

-- what a tick rule means
pub record Rule : Type 0 where
  pub ticks : List ℕ
  pub floor : ℕ
  pub ceiling : ℕ

-- what a book is made over: its tick rule, and how many orders a side of its sheet can hold
pub record Setting : Type 0 where
  pub rule : Rule
  pub room : ℕ

-- the phase, the prior price, the last sale if there is one, how many ranks are used, and the orders that stand
pub record State : Type 0 where
  pub phase : Phase
  pub prior : ℕ
  pub last : Option ℕ
  pub used : ℕ
  pub sides : Sides

-- a new book: shut, with no ranks used and no orders
abbrev pub opened : State
opened = record { phase = Shut; prior = 0; last = None; used = 0; sides = sides_of [] [] }

-- the state with these ranks used and these orders
abbrev pub with_orders : ℕ → Sides → State → State
with_orders used sides s = record { phase = s.phase; prior = s.prior; last = s.last; used = used; sides = sides }
