-- What a tick rule means: a list of ticks with a floor and a ceiling, and three questions on it.
use Rattle.std.specs.Prelude.{ℕ, zero, suc, ◌+◌, ◌<◌, ◌≤◌, Bool, false, cond, ◌||◌, List, [], ◌∷◌, length, Some, None, Ok, Err, Option, Result, ◌==◌, nat_lt, slice_index}
use Rattle.ticks.specs.declared.rule.Cause.{Cause}
use Rattle.ticks.specs.declared.rule.Cause.TheVariants.{BelowFloor, AboveCeiling, OffTick}

-- p stands in the list
abbrev pub is_tick : List ℕ → ℕ → Bool
is_tick [] p = false
is_tick (t ∷ ts) p = t == p || is_tick ts p

-- F if p is under the floor, otherwise C if over the ceiling, otherwise N if no tick, otherwise yes
abbrev pub admitted : List ℕ → ℕ → ℕ → ℕ → Result (Unit {0}) Cause
admitted ts floor ceiling p =
    cond (nat_lt p floor) (Err BelowFloor) (cond (nat_lt ceiling p) (Err AboveCeiling) (cond (is_tick ts p) (Ok tt) (Err OffTick)))

-- the first tick greater than p
abbrev pub first_above : List ℕ → ℕ → Option ℕ
first_above [] p = None
first_above (t ∷ ts) p = cond (nat_lt p t) (Some t) (first_above ts p)

-- the answer, or t where there is none
abbrev pub or_else : Option ℕ → ℕ → Option ℕ
or_else (Some x) t = Some x
or_else None t = Some t

-- the last tick smaller than p
abbrev pub last_below : List ℕ → ℕ → Option ℕ
last_below [] p = None
last_below (t ∷ ts) p = cond (nat_lt t p) (or_else (last_below ts p) t) (last_below ts p)

-- each tick is greater than every one before it
abbrev pub Rising : List ℕ → Type 0
Rising ts = (i j : ℕ) → i < j → j < length ts → slice_index ts i < slice_index ts j

-- what holds of every rule: 1 to 1,000,000 ticks, strictly rising, each from 1 to 1,000,000,000, and a floor and a ceiling of 32 bits
pub record Lawful (ts : List ℕ) (floor ceiling : ℕ) : Type 0 where
  pub rising : Rising ts
  pub some : 1 ≤ length ts
  pub few : length ts ≤ 1000000
  pub least : (i : ℕ) → i < length ts → 1 ≤ slice_index ts i
  pub most : (i : ℕ) → i < length ts → slice_index ts i ≤ 1000000000
  pub floor-fits : floor < 4294967296
  pub ceiling-fits : ceiling < 4294967296

-- n ticks from a, each s above the one before
abbrev pub progression : ℕ → ℕ → ℕ → List ℕ
progression a s zero = []
progression a s (suc n) = a ∷ progression (a + s) s n
