-- The three answers in words, for every lawful rule and every price.
use Rattle.std.specs.Prelude.{◌≡◌, ℕ, ◌<◌, ◌≤◌, true, List, MatchOption, MatchResult}
use Rattle.ticks.specs.declared.rule.Cause.{Cause}
use Rattle.ticks.specs.declared.rule.Cause.TheVariants.{BelowFloor, AboveCeiling, OffTick}
use Rattle.ticks.specs.Ticks.{is_tick, admitted, first_above, last_below, Lawful}

-- t is a tick of the list
abbrev pub Tick : List ℕ → ℕ → Type 0
Tick ts t = is_tick ts t ≡ true

-- q is a tick greater than p, and no smaller tick is
pub record SmallestAbove (ts : List ℕ) (p q : ℕ) : Type 0 where
  pub tick : Tick ts q
  pub greater : p < q
  pub smallest : (t : ℕ) → Tick ts t → p < t → q ≤ t

-- q is a tick smaller than p, and no greater tick is
pub record GreatestBelow (ts : List ℕ) (p q : ℕ) : Type 0 where
  pub tick : Tick ts q
  pub smaller : q < p
  pub greatest : (t : ℕ) → Tick ts t → t < p → t ≤ q

-- above answers the smallest tick greater than p, and none only where no tick is greater
abbrev pub AboveIsSmallest : Type 0
AboveIsSmallest =
    (ts : List ℕ) (floor ceiling : ℕ) → Lawful ts floor ceiling → (p : ℕ)
    → MatchOption (first_above ts p) ((t : ℕ) → Tick ts t → t ≤ p) (λ q. SmallestAbove ts p q)

-- below answers the greatest tick smaller than p, and none only where no tick is smaller
abbrev pub BelowIsGreatest : Type 0
BelowIsGreatest =
    (ts : List ℕ) (floor ceiling : ℕ) → Lawful ts floor ceiling → (p : ℕ)
    → MatchOption (last_below ts p) ((t : ℕ) → Tick ts t → p ≤ t) (λ q. GreatestBelow ts p q)

-- what each cause tells of p
abbrev pub Tells : List ℕ → ℕ → ℕ → ℕ → Cause → Type 0
Tells ts floor ceiling p BelowFloor = p < floor
Tells ts floor ceiling p AboveCeiling = (floor ≤ p) × (ceiling < p)
Tells ts floor ceiling p OffTick = (floor ≤ p) × (p ≤ ceiling) × (Tick ts p → ⊥)

-- admit says yes only to a tick from the floor to the ceiling, and otherwise the first cause that holds
abbrev pub AdmitsInOrder : Type 0
AdmitsInOrder =
    (ts : List ℕ) (floor ceiling p : ℕ)
    → MatchResult (admitted ts floor ceiling p) (λ _. (floor ≤ p) × (p ≤ ceiling) × Tick ts p) (λ c. Tells ts floor ceiling p c)
