-- The flat rule in words.
use Rattle.std.specs.Prelude.{◌≡◌, ℕ, ◌+◌, ◌-◌, ◌*◌, ◌<◌, true, length, is_ok, slice_index_or}
use Rattle.ticks.specs.Ticks.{progression}
use Rattle.ticks.specs.Questions.{Tick}
use Rattle.ticks.specs.Flats.{Sound, flat_check}

-- a flat rule is made exactly where its conditions hold
abbrev pub FlatConditions : Type 0
FlatConditions =
    (first step count : ℕ)
    → (is_ok (flat_check first step count) ≡ true → Sound first step count) × (Sound first step count → is_ok (flat_check first step count) ≡ true)

-- p is the first tick or some steps from it, one of count
abbrev pub OnFlat : ℕ → ℕ → ℕ → ℕ → Type 0
OnFlat first step count p = (k : ℕ) × (k < count) × (p ≡ first + step * k)

-- the ticks are those and no others; floor and ceiling are the first and the last
pub record FlatTicks (first step count : ℕ) : Type 0 where
  pub only : (p : ℕ) → Tick (progression first step count) p → OnFlat first step count p
  pub each : (p : ℕ) → OnFlat first step count p → Tick (progression first step count) p
  pub many : length (progression first step count) ≡ count
  pub floor : slice_index_or (progression first step count) 0 0 ≡ first
  pub ceiling : slice_index_or (progression first step count) (count - 1) 0 ≡ first + step * (count - 1)

-- so it is with every flat rule
abbrev pub FlatLadder : Type 0
FlatLadder = (first step count : ℕ) → Sound first step count → FlatTicks first step count
