-- Steps 1 to 3 over the candidate ticks, and the one pass that finds their answer.
use Rattle.std.specs.Prelude.{◌≡◌, ℕ, ◌<◌, ◌≤◌, min, max, Bool, cond, ◌&&◌, ◌||◌, ◌⊎◌, List, [], ◌∷◌, ℤ, pos, ◌-ℤ◌, unsigned_abs, int_lt, ◌==◌, nat_lt}
use Rattle.std.specs.Int.{abs_diff}
use Rattle.ticks.specs.Questions.{Tick}
use Rattle.sheets.specs.Sides.{Sides}
use Rattle.pricing.specs.Curves.{demand, supply}

-- what a tick is judged by: demand and supply at each price, and the reference price
pub record Interest : Type 0 where
  pub demand : ℕ → ℕ
  pub supply : ℕ → ℕ
  pub reference : ℕ

-- the interest of the orders that stand
abbrev pub interest_of : Sides → ℕ → Interest
interest_of s reference = record { demand = demand s.buys; supply = supply s.offers; reference = reference }

-- what can trade at t: the smaller of the two
abbrev pub volume : Interest → ℕ → ℕ
volume m t = min (m.demand t) (m.supply t)

-- the imbalance at t: demand less supply
abbrev pub imbalance : Interest → ℕ → ℤ
imbalance m t = pos (m.demand t) -ℤ pos (m.supply t)

-- the imbalance without its sign
abbrev pub excess : Interest → ℕ → ℕ
excess m t = abs_diff (m.demand t) (m.supply t)

-- step 1: no candidate has more volume than t
abbrev pub Most : Interest → (ℕ → Type 0) → ℕ → Type 0
Most m Candidate t = Candidate t × ((u : ℕ) → Candidate u → volume m u ≤ volume m t)

-- step 2: of those, none has a smaller imbalance
abbrev pub Least : Interest → (ℕ → Type 0) → ℕ → Type 0
Least m Candidate t = Most m Candidate t × ((u : ℕ) → Most m Candidate u → excess m t ≤ excess m u)

-- of those, all have a positive imbalance, or all a negative one
abbrev pub AllPositive : Interest → (ℕ → Type 0) → Type 0
AllPositive m Candidate = (u : ℕ) → Least m Candidate u → m.supply u < m.demand u

abbrev pub AllNegative : Interest → (ℕ → Type 0) → Type 0
AllNegative m Candidate = (u : ℕ) → Least m Candidate u → m.demand u < m.supply u

-- t is nearer to the reference price than u, or as near and not higher
abbrev pub NearerOrLower : ℕ → ℕ → ℕ → Type 0
NearerOrLower reference t u = (abs_diff reference t < abs_diff reference u) ⊎ ((abs_diff reference t ≡ abs_diff reference u) × (t ≤ u))

-- step 3: of those, the highest if all are positive, the lowest if all are negative, otherwise the nearest, and of two equally near the lower
pub record Chosen (m : Interest) (Candidate : ℕ → Type 0) (t : ℕ) : Type 0 where
  pub kept : Least m Candidate t
  pub highest : AllPositive m Candidate → (u : ℕ) → Least m Candidate u → u ≤ t
  pub lowest : AllNegative m Candidate → (u : ℕ) → Least m Candidate u → t ≤ u
  pub nearest : (AllPositive m Candidate → ⊥) → (AllNegative m Candidate → ⊥) → (u : ℕ) → Least m Candidate u → NearerOrLower m.reference t u

-- ---- the one pass

-- of the ticks so far: the best volume, with it the least imbalance, and of those that have both the lowest, the highest and
-- the nearest, and whether all are positive or all negative
pub record Summary : Type 0 where
  pub best : ℕ
  pub least : ℕ
  pub low : ℕ
  pub high : ℕ
  pub near : ℕ
  pub positive : Bool
  pub negative : Bool

-- the summary of one tick
abbrev pub alone : Interest → ℕ → Summary
alone m t =
    record { best = volume m t; least = excess m t; low = t; high = t; near = t; positive = nat_lt (m.supply t) (m.demand t); negative = nat_lt (m.demand t) (m.supply t) }

-- the nearer of two, and of two equally near the lower
abbrev pub nearer : ℕ → ℕ → ℕ → ℕ
nearer reference s t =
    cond (nat_lt (abs_diff reference t) (abs_diff reference s) || (abs_diff reference t == abs_diff reference s && nat_lt t s)) t s

-- one tick more, of the same volume and imbalance
abbrev pub with_tick : Interest → Summary → ℕ → Summary
with_tick m s t =
    record {
      best = s.best;
      least = s.least;
      low = min s.low t;
      high = max s.high t;
      near = nearer m.reference s.near t;
      positive = s.positive && nat_lt (m.supply t) (m.demand t);
      negative = s.negative && nat_lt (m.demand t) (m.supply t);
    }

-- whether t has more volume, or as much and a smaller imbalance
abbrev pub beats : Interest → Summary → ℕ → Bool
beats m s t = nat_lt s.best (volume m t) || (volume m t == s.best && nat_lt (excess m t) s.least)

-- whether t has the same volume and imbalance
abbrev pub ties : Interest → Summary → ℕ → Bool
ties m s t = volume m t == s.best && excess m t == s.least

abbrev pub next_summary : Interest → Summary → ℕ → Summary
next_summary m s t = cond (beats m s t) (alone m t) (cond (ties m s t) (with_tick m s t) s)

-- the summary after more ticks
abbrev pub sweep : Interest → Summary → List ℕ → Summary
sweep m s [] = s
sweep m s (t ∷ ts) = sweep m (next_summary m s t) ts

-- the tick that a summary chooses
abbrev pub answer : Summary → ℕ
answer s = cond s.positive s.high (cond s.negative s.low s.near)

-- the price that is found on ticks t and ts
abbrev pub price : Interest → ℕ → List ℕ → ℕ
price m t ts = answer (sweep m (alone m t) ts)

-- ---- what holds of all

-- the sign and the size of an imbalance, in demand and supply
pub record ImbalanceAt (m : Interest) (t : ℕ) : Type 0 where
  pub size : unsigned_abs (imbalance m t) ≡ excess m t
  pub positive : int_lt (pos 0) (imbalance m t) ≡ nat_lt (m.supply t) (m.demand t)
  pub negative : int_lt (imbalance m t) (pos 0) ≡ nat_lt (m.demand t) (m.supply t)

abbrev pub EachImbalance : Type 0
EachImbalance = (m : Interest) (t : ℕ) → ImbalanceAt m t

-- the price is a tick that passes steps 1 to 3
abbrev pub PriceIsChosen : Type 0
PriceIsChosen = (m : Interest) (t : ℕ) (ts : List ℕ) → Chosen m (Tick (t ∷ ts)) (price m t ts)

-- no other tick passes them
abbrev pub PriceIsOnly : Type 0
PriceIsOnly = (m : Interest) (t : ℕ) (ts : List ℕ) (u : ℕ) → Chosen m (Tick (t ∷ ts)) u → u ≡ price m t ts
