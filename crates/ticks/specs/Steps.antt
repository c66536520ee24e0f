-- The whole steps from the start of a row.
use Rattle.std.specs.Prelude.{ℕ, ◌+◌, ◌-◌, ◌*◌, ◌/◌, ◌%◌, Bool, ◌==◌}
use Rattle.ticks.specs.declared.row.Row.{Row}

-- p is a whole number of steps from the start
abbrev pub on_step : Row → ℕ → Bool
on_step r p = (p - r.start) % r.step == 0

-- the last whole number of steps at most at p
abbrev pub step_at_most : Row → ℕ → ℕ
step_at_most r p = r.start + r.step * ((p - r.start) / r.step)

-- the next whole number of steps above p
abbrev pub step_above : Row → ℕ → ℕ
step_above r p = r.start + r.step * ((p - r.start) / r.step + 1)
