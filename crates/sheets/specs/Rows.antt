-- The rows lent to a sheet: those that hold its orders, and the spare ones.
use Rattle.std.specs.Prelude.{◌≡◌, ℕ, zero, suc, Bool, true, false, cond, List, [], ◌∷◌, filter}
use Rattle.std.specs.List.{AllZip}
use Rattle.ordered.specs.Sorting.{sort_by}
use Rattle.market.specs.declared.order.Order.{Order}
use Rattle.market.specs.declared.order.Side.{Side}
use Rattle.market.specs.declared.order.Side.TheVariants.{Buy, Offer}
use Rattle.sheets.specs.Sides.{Sides, sides_of, on, outranks}

-- what lies in a row, and whether the row is spare: what lies in a spare row does not stand
pub record Row : Type 0 where
  pub spare : Bool
  pub order : Order

-- the first n rows hold orders that stand, the others are spare
abbrev pub marked : ℕ → List Order → List Row
marked n [] = []
marked zero (x ∷ xs) = record { spare = true; order = x } ∷ marked zero xs
marked (suc n) (x ∷ xs) = record { spare = false; order = x } ∷ marked n xs

-- the orders in the rows that are not spare
abbrev pub occupied : List Row → List Order
occupied [] = []
occupied (r ∷ rs) = cond r.spare (occupied rs) (r.order ∷ occupied rs)

-- as many rows as before, and each one that is spare afterwards is as it was before
abbrev pub SpareRowsKept : List Row → List Row → Type 0
SpareRowsKept before after = AllZip (λ b a. a.spare ≡ true → a.order ≡ b.order) before after

-- the orders of side v among orders in any order, by priority
abbrev pub line : Side → List Order → List Order
line v xs = sort_by (outranks v) (filter (on v) xs)

-- the sides that orders in any order make
abbrev pub arranged : List Order → Sides
arranged xs = sides_of (line Buy xs) (line Offer xs)

-- an order in the place of the first one that passes, else behind the last
abbrev pub put_of : (Order → Bool) → Order → List Order → List Order
put_of test o [] = o ∷ []
put_of test o (x ∷ xs) = cond (test x) (o ∷ xs) (x ∷ put_of test o xs)
