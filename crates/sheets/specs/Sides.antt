-- What an order sheet means: the orders of each side in the order of their priority. No number stands twice (Laws).
use Rattle.std.specs.Prelude.{ℕ, Bool, true, false, cond, not, ◌&&◌, List, ◌++◌, length, Some, None, filter, Option, ◌==◌, nat_le}
use Rattle.std.specs.List.{find, list_any}
use Rattle.ordered.specs.Sorting.{insert_by}
use Rattle.market.specs.declared.order.Order.{Order}
use Rattle.market.specs.declared.order.Side.{Side}
use Rattle.market.specs.declared.order.Side.TheVariants.{Buy, Offer}
use Rattle.market.specs.declared.priority.Priority.{Priority}
use Rattle.market.specs.Priority.{leads, priority_of}

-- the orders that stand on each side
pub record Sides : Type 0 where
  pub buys : List Order
  pub offers : List Order

-- the sides that hold these buys and these offers
abbrev pub sides_of : List Order → List Order → Sides
sides_of xs ys = record { buys = xs; offers = ys }

-- the orders of one side
abbrev pub of_side : Side → Sides → List Order
of_side Buy s = s.buys
of_side Offer s = s.offers

-- the sides with another list on one side
abbrev pub with_side : Side → List Order → Sides → Sides
with_side Buy xs s = sides_of xs s.offers
with_side Offer xs s = sides_of s.buys xs

-- every order that stands
abbrev pub standing : Sides → List Order
standing s = s.buys ++ s.offers

-- whether an order has number n
abbrev pub numbered : ℕ → Order → Bool
numbered n o = o.number == n

-- whether two sides are the same
abbrev pub same_side : Side → Side → Bool
same_side Buy Buy = true
same_side Buy Offer = false
same_side Offer Buy = false
same_side Offer Offer = true

-- whether an order is of side v
abbrev pub on : Side → Order → Bool
on v o = same_side v o.side

-- whether x comes before y on side v
abbrev pub outranks : Side → Order → Order → Bool
outranks v x y = leads v (priority_of x) (priority_of y)

-- ---- the answers

-- find: the order of number n
abbrev pub find_in : ℕ → Sides → Option Order
find_in n s = find (numbered n) (standing s)

-- whether an order of side v comes behind the priority given, if one is
abbrev pub is_behind : Side → Option Priority → Order → Bool
is_behind v None o = true
is_behind v (Some p) o = leads v p (priority_of o)

-- next: the first order of side v, or the first behind the priority given
abbrev pub next_in : Side → Option Priority → Sides → Option Order
next_in v p s = find (is_behind v p) (of_side v s)

-- ---- the changes

-- a list without the orders of number n
abbrev pub without : ℕ → List Order → List Order
without n xs = filter (λ o. not (numbered n o)) xs

-- take: the order of number n leaves, on whichever side it stood
abbrev pub take_from : ℕ → Sides → Sides
take_from n s = sides_of (without n s.buys) (without n s.offers)

-- an order joins the list of side v at its priority, if it is of that side
abbrev pub joined : Side → Order → List Order → List Order
joined v o xs = cond (on v o) (insert_by (outranks v) o xs) xs

-- put: an order stands in place of the one with its number, on whichever side that stood
abbrev pub put_in : Order → Sides → Sides
put_in o s = sides_of (joined Buy o (without o.number s.buys)) (joined Offer o (without o.number s.offers))

-- whether a list holds n orders or more, and none of number k
abbrev pub over : ℕ → ℕ → List Order → Bool
over n k xs = nat_le n (length xs) && not (list_any (numbered k) xs)

-- whether a put is refused, at n orders a side: its number does not stand on its side, which is full
abbrev pub full : ℕ → Order → Sides → Bool
full n o s = over n o.number (of_side o.side s)
