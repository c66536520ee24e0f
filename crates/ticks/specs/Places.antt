-- Where a price lies among ticks that go by rows, and what is answered there.
use Rattle.std.specs.Prelude.{◌≡◌, ℕ, ◌+◌, cond, List, Some, None, Ok, Err, Option, Result, ◌==◌}
use Rattle.ticks.specs.declared.rule.Cause.{Cause}
use Rattle.ticks.specs.declared.rule.Cause.TheVariants.{BelowFloor, AboveCeiling, OffTick}
use Rattle.ticks.specs.declared.place.Place.{Place}
use Rattle.ticks.specs.declared.place.Place.TheVariants.{Before, Within, Past}
use Rattle.ticks.specs.Ticks.{admitted, first_above, last_below}
use Rattle.ticks.specs.Steps.{on_step, step_at_most, step_above}

-- whether the price is admitted there
abbrev pub admit_at : Place → Result (Unit {0}) Cause
admit_at (Before first) = Err BelowFloor
admit_at (Within at) = cond (on_step at.row at.price) (Ok tt) (Err OffTick)
admit_at (Past last price) = cond (price == last) (Ok tt) (Err AboveCeiling)

-- the smallest tick greater than the price
abbrev pub above_at : Place → Option ℕ
above_at (Before first) = Some first
above_at (Within at) = Some (step_above at.row at.price)
above_at (Past last price) = None

-- the greatest tick at most at the price
abbrev pub at_most_at : Place → Option ℕ
at_most_at (Before first) = None
at_most_at (Within at) = Some (step_at_most at.row at.price)
at_most_at (Past last price) = Some last

-- the place is that of p among the ticks: what is answered there is what the rule answers
pub record Placed (ts : List ℕ) (floor ceiling p : ℕ) (at : Place) : Type 0 where
  pub admits : admit_at at ≡ admitted ts floor ceiling p
  pub above : above_at at ≡ first_above ts p
  pub below : (x : ℕ) → x ≡ p + 1 → at_most_at at ≡ last_below ts x
