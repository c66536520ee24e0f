-- Demand and supply one tick further on.
use Rattle.std.specs.Prelude.{◌≡◌, ℕ, ◌+◌, ◌<◌, ◌≤◌, false, not, ◌&&◌, ◌⊎◌, List, ◌==◌}
use Rattle.std.specs.List.{AllByRecursion}
use Rattle.market.specs.declared.order.Order.{Order}
use Rattle.pricing.specs.Curves.{is_market, quantity_of, demand, supply}

-- the quantity of the limit orders at price p
abbrev pub quantity_at : ℕ → List Order → ℕ
quantity_at p os = quantity_of (λ o. not (is_market o) && o.price == p) os

-- no limit price lies between p and q
abbrev pub Neighbours : ℕ → ℕ → List Order → Type 0
Neighbours p q os = AllByRecursion (λ o. is_market o ≡ false → (o.price ≤ p) ⊎ (q ≤ o.price)) os

-- one tick up, demand loses the buys at the tick that is left
abbrev pub DemandGoesOn : Type 0
DemandGoesOn = (buys : List Order) (p q : ℕ) → p < q → Neighbours p q buys → demand buys p ≡ demand buys q + quantity_at p buys

-- and supply gains the offers at the tick that is reached
abbrev pub SupplyGoesOn : Type 0
SupplyGoesOn = (offers : List Order) (p q : ℕ) → p < q → Neighbours p q offers → supply offers q ≡ supply offers p + quantity_at q offers
