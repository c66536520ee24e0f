-- What the orders of a side ask for at a price, and what trades they allow there.
use Rattle.std.specs.Prelude.{◌≡◌, ℕ, ◌<◌, ◌≤◌, min, Bool, true, false, cond, ◌&&◌, ◌||◌, List, ◌==◌, nat_le, sum_by}
use Rattle.std.specs.List.{AllByRecursion, list_any}
use Rattle.market.specs.declared.order.Kind.{Kind}
use Rattle.market.specs.declared.order.Kind.TheVariants.{Limit, Market}
use Rattle.market.specs.declared.order.Order.{Order}
use Rattle.sheets.specs.Sides.{Sides, numbered}

abbrev pub market_kind : Kind → Bool
market_kind Limit = false
market_kind Market = true

abbrev pub is_market : Order → Bool
is_market o = market_kind o.kind

-- whether a buy takes part at price p: a market order, or its limit is p or higher
abbrev pub buys_at : ℕ → Order → Bool
buys_at p o = is_market o || nat_le p o.price

-- whether an offer takes part at price p: a market order, or its limit is p or lower
abbrev pub sells_at : ℕ → Order → Bool
sells_at p o = is_market o || nat_le o.price p

-- the quantity of the orders that pass a test
abbrev pub quantity_of : (Order → Bool) → List Order → ℕ
quantity_of test os = sum_by (λ o. cond (test o) o.quantity 0) os

-- B(p): the quantity of the buys that take part at price p
abbrev pub demand : List Order → ℕ → ℕ
demand buys p = quantity_of (buys_at p) buys

-- S(p): the quantity of the offers that take part at price p
abbrev pub supply : List Order → ℕ → ℕ
supply offers p = quantity_of (sells_at p) offers

-- ---- rivals

-- a buy, an offer, and the quantity that they trade
pub record Trade : Type 0 where
  pub buy : ℕ
  pub offer : ℕ
  pub quantity : ℕ

-- the quantity of a list of trades
abbrev pub moved : List Trade → ℕ
moved ts = sum_by (λ t. t.quantity) ts

-- what the trades give to number n on the side that `who` names
abbrev pub given : (Trade → ℕ) → List Trade → ℕ → ℕ
given who ts n = sum_by (λ t. cond (who t == n) t.quantity 0) ts

-- whether a list has an order of number n that passes a test
abbrev pub takes_part : (Order → Bool) → List Order → ℕ → Bool
takes_part test os n = list_any (λ o. numbered n o && test o) os

-- trades that the orders allow at price p: each buy and each offer stands and takes p, and none is given more than it holds
pub record Rival (s : Sides) (p : ℕ) (ts : List Trade) : Type 0 where
  pub buyers : AllByRecursion (λ t. takes_part (buys_at p) s.buys t.buy ≡ true) ts
  pub sellers : AllByRecursion (λ t. takes_part (sells_at p) s.offers t.offer ≡ true) ts
  pub bought : AllByRecursion (λ o. given (λ t. t.buy) ts o.number ≤ o.quantity) s.buys
  pub sold : AllByRecursion (λ o. given (λ t. t.offer) ts o.number ≤ o.quantity) s.offers

-- ---- what holds of all

-- no limit price from p up to but without q
abbrev pub ClearFrom : ℕ → ℕ → Order → Type 0
ClearFrom p q o = is_market o ≡ false → p ≤ o.price → o.price < q → ⊥

-- no limit price over p up to q
abbrev pub ClearUpto : ℕ → ℕ → Order → Type 0
ClearUpto p q o = is_market o ≡ false → p < o.price → o.price ≤ q → ⊥

abbrev pub DemandFalls : Type 0
DemandFalls = (os : List Order) (p q : ℕ) → p ≤ q → demand os q ≤ demand os p

abbrev pub SupplyRises : Type 0
SupplyRises = (os : List Order) (p q : ℕ) → p ≤ q → supply os p ≤ supply os q

abbrev pub DemandIsFlat : Type 0
DemandIsFlat = (os : List Order) (p q : ℕ) → p ≤ q → AllByRecursion (ClearFrom p q) os → demand os p ≡ demand os q

abbrev pub SupplyIsFlat : Type 0
SupplyIsFlat = (os : List Order) (p q : ℕ) → p ≤ q → AllByRecursion (ClearUpto p q) os → supply os p ≡ supply os q

-- a rival moves at most the smaller of demand and supply at its price
abbrev pub RivalsAreBound : Type 0
RivalsAreBound = (s : Sides) (p : ℕ) (ts : List Trade) → Rival s p ts → moved ts ≤ min (demand s.buys p) (supply s.offers p)
