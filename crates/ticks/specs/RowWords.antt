-- The banded rule in words.
use Rattle.std.specs.Prelude.{◌≡◌, ℕ, suc, ◌+◌, ◌-◌, ◌*◌, ◌%◌, ◌<◌, ◌≤◌, true, List, length, is_ok, slice_index_or}
use Rattle.ticks.specs.declared.row.Row.{Row}
use Rattle.ticks.specs.Ticks.{Rising}
use Rattle.ticks.specs.Questions.{Tick}
use Rattle.ticks.specs.Rows.{ladder, start_at, step_at, load_check}

-- what a load must keep
pub record Conditions (rows : List Row) (end : ℕ) : Type 0 where
  pub some : 1 ≤ length rows
  pub fit : length rows ≤ 16
  pub first : 1 ≤ start_at rows 0
  pub rising : (i : ℕ) → suc i < length rows → start_at rows i < start_at rows (suc i)
  pub steps : (i : ℕ) → i < length rows → 1 ≤ step_at rows i
  pub ends : (i : ℕ) → suc i ≡ length rows → start_at rows i ≤ end
  pub high : end ≤ 1000000000
  pub even : (i : ℕ) → suc i < length rows → (start_at rows (suc i) - start_at rows i) % step_at rows i ≡ 0
  pub last : (i : ℕ) → suc i ≡ length rows → (end - start_at rows i) % step_at rows i ≡ 0
  pub few : length (ladder rows end) ≤ 1000000

-- a load is accepted exactly where its conditions hold
abbrev pub LoadConditions : Type 0
LoadConditions =
    (rows : List Row) (end : ℕ)
    → (is_ok (load_check rows end) ≡ true → Conditions rows end) × (Conditions rows end → is_ok (load_check rows end) ≡ true)

-- p is the start of row i or some steps from it, below the next start; in the last row up to and including the end
pub record OnRow (rows : List Row) (end p i : ℕ) : Type 0 where
  pub row : i < length rows
  pub step : (k : ℕ) × (p ≡ start_at rows i + step_at rows i * k)
  pub next : suc i < length rows → p < start_at rows (suc i)
  pub last : suc i ≡ length rows → p ≤ end

-- the ticks rise strictly, are those of the rows and no others; floor and ceiling are the first and the last
pub record RowTicks (rows : List Row) (end : ℕ) : Type 0 where
  pub rising : Rising (ladder rows end)
  pub only : (p : ℕ) → Tick (ladder rows end) p → (i : ℕ) × OnRow rows end p i
  pub each : (p i : ℕ) → OnRow rows end p i → Tick (ladder rows end) p
  pub floor : slice_index_or (ladder rows end) 0 0 ≡ start_at rows 0
  pub ceiling : slice_index_or (ladder rows end) (length (ladder rows end) - 1) 0 ≡ end

-- so it is with every load that is accepted
abbrev pub RowLadder : Type 0
RowLadder = (rows : List Row) (end : ℕ) → Conditions rows end → RowTicks rows end
