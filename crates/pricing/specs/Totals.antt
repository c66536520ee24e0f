-- Where the limit orders at a price begin in the order of a side's priority. This serves inner functions.
use Rattle.std.specs.Prelude.{ℕ, ◌+◌, ◌-◌, cond, ◌==◌}
use Rattle.market.specs.declared.order.Kind.TheVariants.{Limit, Market}
use Rattle.market.specs.declared.order.Side.{Side}
use Rattle.market.specs.declared.order.Side.TheVariants.{Buy, Offer}
use Rattle.market.specs.declared.priority.Priority.{Priority}

-- the last place there is before the limit orders at p; at the best price of all it is the last among the market orders
abbrev pub edge : Side → ℕ → Priority
edge Buy p = record { kind = cond (p == 4294967295) Market Limit; price = cond (p == 4294967295) 0 (p + 1); rank = 4294967295; number = 4294967295 }
edge Offer p = record { kind = cond (p == 0) Market Limit; price = cond (p == 0) 4294967295 (p - 1); rank = 4294967295; number = 4294967295 }
