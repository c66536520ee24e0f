-- The laws of a sheet as one test: only the ghost fields of the sheets and the proofs cite it.
use Rattle.std.specs.Prelude.{ℕ, ◌^◌, Bool, true, not, ◌&&◌, List, [], ◌∷◌, length, nat_le, nat_lt}
use Rattle.std.specs.List.{list_all, list_any}
use Rattle.market.specs.declared.order.Order.{Order}
use Rattle.market.specs.declared.order.Side.{Side}
use Rattle.market.specs.declared.order.Side.TheVariants.{Buy, Offer}
use Rattle.sheets.specs.Sides.{Sides, standing, numbered, on, outranks}

-- whether each is ahead of every later one
abbrev pub is_sorted : {X : Type 0} → (X → X → Bool) → List X → Bool
is_sorted ahead [] = true
is_sorted ahead (x ∷ xs) = list_all (ahead x) xs && is_sorted ahead xs

-- whether no number stands twice
abbrev pub is_apart : List Order → Bool
is_apart [] = true
is_apart (x ∷ xs) = not (list_any (numbered x.number) xs) && is_apart xs

-- whether the numbers of an order are 32-bit numbers
abbrev pub is_bounded : Order → Bool
is_bounded o = (nat_lt o.number (2 ^ 32) && nat_lt o.price (2 ^ 32)) && (nat_lt o.rank (2 ^ 32) && nat_lt o.quantity (2 ^ 32))

-- whether a list is side v of a sheet of capacity n
abbrev pub is_line : Side → ℕ → List Order → Bool
is_line v n xs = (nat_le (length xs) n && list_all (on v) xs) && (is_sorted (outranks v) xs && list_all is_bounded xs)

-- whether two lists are the sides of a sheet of capacity n
abbrev pub is_sheet : ℕ → Sides → Bool
is_sheet n s = (nat_le n 2048 && is_apart (standing s)) && (is_line Buy n s.buys && is_line Offer n s.offers)
