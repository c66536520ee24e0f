-- The ladder: the ticks from below the lowest limit price to above the highest.
use Rattle.std.specs.Prelude.{◌≡◌, ℕ, min, max, Bool, not, ◌&&◌, List, [], ◌∷◌, map, filter, fold, unwrap_or, nat_le}
use Rattle.std.specs.List.{AllByRecursion}
use Rattle.market.specs.declared.order.Order.{Order}
use Rattle.ticks.specs.Ticks.{first_above, last_below, Lawful}
use Rattle.ticks.specs.Questions.{Tick}
use Rattle.sheets.specs.Sides.{Sides, standing}
use Rattle.pricing.specs.Curves.{is_market, demand, supply}

-- the limit prices of a list of orders
abbrev pub limits : List Order → List ℕ
limits os = map (λ o. o.price) (filter (λ o. not (is_market o)) os)

abbrev pub lowest : ℕ → List ℕ → ℕ
lowest p ps = fold min p ps

abbrev pub highest : ℕ → List ℕ → ℕ
highest p ps = fold max p ps

-- the ends of a ladder: the tick below its lowest limit price and the tick above its highest, or that price where there is none
abbrev pub bottom : List ℕ → ℕ → ℕ
bottom ticks p = unwrap_or (last_below ticks p) p

abbrev pub top : List ℕ → ℕ → ℕ
top ticks p = unwrap_or (first_above ticks p) p

-- whether t is one of the prices from low to high
abbrev pub between : ℕ → ℕ → ℕ → Bool
between low high t = nat_le low t && nat_le t high

-- the ladder over these limit prices; with none it is the reference price alone
abbrev pub ladder_over : List ℕ → List ℕ → ℕ → List ℕ
ladder_over ticks [] reference = reference ∷ []
ladder_over ticks (p ∷ ps) reference = filter (between (bottom ticks (lowest p ps)) (top ticks (highest p ps))) ticks

-- the ladder of the orders that stand, both sides together
abbrev pub ladder : List ℕ → Sides → ℕ → List ℕ
ladder ticks s reference = ladder_over ticks (limits (standing s)) reference

-- ---- what holds of all

-- u is on the ladder, and demand and supply are there what they are at t
pub record StandsFor (s : Sides) (rungs : List ℕ) (t u : ℕ) : Type 0 where
  pub on : Tick rungs u
  pub demand : demand s.buys u ≡ demand s.buys t
  pub supply : supply s.offers u ≡ supply s.offers t

-- where each limit price is a tick, some price on the ladder stands for each tick of the rule
abbrev pub LadderStandsForAll : Type 0
LadderStandsForAll =
    (ticks : List ℕ) (floor ceiling : ℕ) → Lawful ticks floor ceiling
    → (s : Sides) (reference : ℕ) → AllByRecursion (Tick ticks) (limits (standing s))
    → (t : ℕ) → Tick ticks t → (u : ℕ) × StandsFor s (ladder ticks s reference) t u

-- where the reference price is a tick, each price on the ladder is one
abbrev pub RungsAreTicks : Type 0
RungsAreTicks =
    (ticks : List ℕ) (s : Sides) (reference : ℕ) → Tick ticks reference → (u : ℕ) → Tick (ladder ticks s reference) u → Tick ticks u
