-- What holds of every sheet.
use Rattle.std.specs.Prelude.{◌≡◌, ℕ, ◌^◌, ◌<◌, ◌≤◌, List, [], ◌∷◌, length, ◌≢◌}
use Rattle.std.specs.List.{AllByRecursion}
use Rattle.ordered.specs.Sorting.{Sorted}
use Rattle.market.specs.declared.order.Order.{Order}
use Rattle.market.specs.declared.order.Side.{Side}
use Rattle.market.specs.declared.order.Side.TheVariants.{Buy, Offer}
use Rattle.sheets.specs.Sides.{Sides, standing, outranks}

-- no order has number n
abbrev pub Free : ℕ → List Order → Type 0
Free n xs = AllByRecursion (λ o. o.number ≢ n) xs

-- no number twice
abbrev pub Apart : List Order → Type 0
Apart [] = Unit {0}
Apart (x ∷ xs) = Free x.number xs × Apart xs

-- the numbers of an order are 32-bit numbers
pub record Bounded (o : Order) : Type 0 where
  pub number : o.number < 2 ^ 32
  pub price : o.price < 2 ^ 32
  pub rank : o.rank < 2 ^ 32
  pub quantity : o.quantity < 2 ^ 32

-- side v of a sheet of capacity n: at most n orders, all of that side, sorted by priority
pub record LineLaws (v : Side) (n : ℕ) (xs : List Order) : Type 0 where
  pub fits : length xs ≤ n
  pub sided : AllByRecursion (λ o. o.side ≡ v) xs
  pub sorted : Sorted (outranks v) xs
  pub bounded : AllByRecursion Bounded xs

-- a sheet of capacity n, which is at most 2,048
pub record SheetLaws (n : ℕ) (s : Sides) : Type 0 where
  pub small : n ≤ 2048
  pub buys : LineLaws Buy n s.buys
  pub offers : LineLaws Offer n s.offers
  pub apart : Apart (standing s)
