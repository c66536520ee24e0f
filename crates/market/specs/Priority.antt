-- Which of two orders of a side comes first.
use Rattle.std.specs.Prelude.{ℕ, Bool, true, false, cond, nat_lt}
use Rattle.std.specs.declared.cmp.Ordering.{Ordering}
use Rattle.std.specs.Ordering.{nat_cmp}
use Rattle.market.specs.declared.order.Kind.{Kind}
use Rattle.market.specs.declared.order.Kind.TheVariants.{Limit, Market}
use Rattle.market.specs.declared.order.Side.{Side}
use Rattle.market.specs.declared.order.Side.TheVariants.{Buy, Offer}
use Rattle.market.specs.declared.order.Order.{Order}
use Rattle.market.specs.declared.priority.Priority.{Priority}

-- the lower of two numbers goes first, and where they are equal what comes next decides
abbrev pub first : ℕ → ℕ → Bool → Bool
first a b next = cond (nat_lt a b) true (cond (nat_lt b a) false next)

-- market orders go before limit orders
abbrev pub level : Kind → ℕ
level Market = 0
level Limit = 1

-- the higher price is the better one for a buy, the lower for an offer
abbrev pub better : Side → ℕ → ℕ → Bool → Bool
better Buy p q next = first q p next
better Offer p q next = first p q next

-- the same as an order of prices
abbrev pub compare_prices : Side → ℕ → ℕ → Ordering
compare_prices Buy p q = nat_cmp q p
compare_prices Offer p q = nat_cmp p q

-- market before limit, then the better price, then the lower rank, then the lower number
abbrev pub leads : Side → Priority → Priority → Bool
leads s x y =
    first (level x.kind) (level y.kind)
    (better s x.price y.price
    (first x.rank y.rank
    (first x.number y.number false)))

-- an order's priority
abbrev pub priority_of : Order → Priority
priority_of o = record { kind = o.kind; price = o.price; rank = o.rank; number = o.number }
