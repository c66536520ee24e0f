-- What the rows of a banded table mean, and what a load is refused for.
use Rattle.std.specs.Prelude.{ℕ, ◌+◌, ◌-◌, ◌/◌, ◌%◌, ◌≤◌, cond, List, [], ◌∷◌, ◌++◌, length, None, Option, Ok, Err, Result, nat_le, nat_lt, slice_index_or}
use Rattle.std.specs.List.{last_or, take_while}
use Rattle.ticks.specs.declared.row.Row.{Row}
use Rattle.ticks.specs.declared.banded.fault.BandedFault.{BandedFault}
use Rattle.ticks.specs.declared.banded.fault.BandedFault.TheVariants.{NoRows, TooManyRows, StartNotRising, StepIsZero, EndBelowStart, EndTooHigh, UnevenDistance, TooManyTicks}
use Rattle.ticks.specs.Ticks.{progression}

-- where the first of the rows starts, and the end where there is none
abbrev pub start_of : List Row → ℕ → ℕ
start_of [] end = end
start_of (r ∷ rs) end = r.start

-- the start of a row and every step from it below `next`
abbrev pub stretch : Row → ℕ → List ℕ
stretch r next = progression r.start r.step ((next - r.start) / r.step)

-- each row's ticks below the start of the next row, or below the end; and the end
abbrev pub ladder : List Row → ℕ → List ℕ
ladder [] end = end ∷ []
ladder (r ∷ rs) end = stretch r (start_of rs end) ++ ladder rs end

-- the last of the rows, from the first on, that start at most at p, if there is one
abbrev pub row_at : List Row → ℕ → Option Row
row_at rows p = last_or None (take_while (λ r. nat_le r.start p) rows)

-- no row
abbrev pub blank : Row
blank = record { start = 0; step = 0 }

-- the start of row i
abbrev pub start_at : List Row → ℕ → ℕ
start_at rows i = (slice_index_or rows i blank).start

-- the step of row i
abbrev pub step_at : List Row → ℕ → ℕ
step_at rows i = (slice_index_or rows i blank).step

-- nothing is broken, or the first condition that is
abbrev pub Checked : Type 0
Checked = Result (Unit {0}) BandedFault

-- the first check's fault, or else the second's
abbrev pub and_then : Checked → Checked → Checked
and_then (Ok _) next = next
and_then (Err fault) next = Err fault

-- starts rise strictly above `low`, and steps are at least 1; i is the place of the first of the rows
abbrev pub rows_check : ℕ → ℕ → List Row → Checked
rows_check i low [] = Ok tt
rows_check i low (r ∷ rs) =
    cond (nat_le r.start low) (Err (StartNotRising i)) (cond (nat_lt r.step 1) (Err (StepIsZero i)) (rows_check (i + 1) r.start rs))

-- the distance from each start to the next, or from the last to the end, is a multiple of the row's step
abbrev pub distances_check : ℕ → List Row → ℕ → Checked
distances_check i [] end = Ok tt
distances_check i (r ∷ rs) end =
    cond (nat_lt 0 ((start_of rs end - r.start) % r.step)) (Err (UnevenDistance i)) (distances_check (i + 1) rs end)

-- the first condition that the rows and the end break, if any is broken
abbrev pub load_check : List Row → ℕ → Checked
load_check rows end =
    cond (nat_lt (length rows) 1) (Err NoRows)
    (cond (nat_lt 16 (length rows)) (Err TooManyRows)
    (and_then (rows_check 0 0 rows)
    (cond (nat_lt end (start_at rows (length rows - 1))) (Err EndBelowStart)
    (cond (nat_lt 1000000000 end) (Err EndTooHigh)
    (and_then (distances_check 0 rows end)
    (cond (nat_lt 1000000 (length (ladder rows end))) (Err TooManyTicks)
    (Ok tt)))))))

-- the number of the refusal
abbrev pub banded_number : BandedFault → ℕ
banded_number fault = 16

-- steps are at least 1, and no start is over the next one or the end
abbrev pub Ordered : List Row → ℕ → Type 0
Ordered [] end = Unit {0}
Ordered (r ∷ rs) end = (1 ≤ r.step) × (r.start ≤ start_of rs end) × Ordered rs end
