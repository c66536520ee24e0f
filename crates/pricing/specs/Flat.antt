-- The flat rule: its ladder between two of its ticks, and the ticks next to one.
use Rattle.std.specs.Prelude.{◌≡◌, ℕ, ◌+◌, ◌-◌, ◌*◌, ◌<◌, ◌≤◌, filter, Some, None}
use Rattle.ticks.specs.Ticks.{first_above, last_below, progression}
use Rattle.pricing.specs.Ladder.{between}

-- of its ticks those from tick i to the n-th from there, `high`, are n steps from tick i on
abbrev pub FlatRun : Type 0
FlatRun =
    (first step count i n high : ℕ) → 1 ≤ step → i + n ≤ count → high + step ≡ first + step * (i + n)
    → filter (between (first + step * i) high) (progression first step count) ≡ progression (first + step * i) step n

-- below tick i + 1 stands tick i, also where tick i is the last, and nothing below the first
pub record FlatBelow (first step count : ℕ) : Type 0 where
  pub next : (i : ℕ) → i < count → last_below (progression first step count) (first + step * (i + 1)) ≡ Some (first + step * i)
  pub end : last_below (progression first step count) first ≡ None

-- above tick i stands tick i + 1, and nothing above the last
pub record FlatAbove (first step count : ℕ) : Type 0 where
  pub next : (i : ℕ) → i + 1 < count → first_above (progression first step count) (first + step * i) ≡ Some (first + step * (i + 1))
  pub end : first_above (progression first step count) (first + step * (count - 1)) ≡ None

abbrev pub FlatNeighbours : Type 0
FlatNeighbours = (first step count : ℕ) → 1 ≤ step → 1 ≤ count → FlatBelow first step count × FlatAbove first step count
