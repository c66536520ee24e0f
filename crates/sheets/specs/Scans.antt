-- A scan for the first order of a side: only the contracts of inner functions cite it.
use Rattle.std.specs.Prelude.{Bool, cond, ◌&&◌, Some, None, Option}
use Rattle.market.specs.declared.order.Order.{Order}
use Rattle.market.specs.declared.order.Side.{Side}
use Rattle.market.specs.declared.priority.Priority.{Priority}
use Rattle.sheets.specs.Sides.{on, outranks, is_behind}

-- the one of x and the first so far that is ahead
abbrev pub beat : {X : Type 0} → (X → X → Bool) → X → Option X → Option X
beat ahead x None = Some x
beat ahead x (Some b) = cond (ahead x b) (Some x) (Some b)

-- the first order of side v behind p so far, with x seen too
abbrev pub first_with : Side → Option Priority → Order → Option Order → Option Order
first_with v p x first = cond (on v x && is_behind v p x) (beat (outranks v) x first) first
