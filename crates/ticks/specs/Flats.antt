-- What a flat rule may hold, and what it is refused for.
use Rattle.std.specs.Prelude.{ℕ, ◌+◌, ◌-◌, ◌*◌, ◌≤◌, cond, Ok, Err, Result, nat_lt}
use Rattle.ticks.specs.declared.flat.FlatFault.{FlatFault}
use Rattle.ticks.specs.declared.flat.FlatFault.TheVariants.{FirstIsZero, StepIsZero, CountIsZero, TooManyTicks, LastTooHigh}

-- first tick and step are at least 1, the count is 1 to 1,000,000, and the last tick is at most 1,000,000,000
abbrev pub Sound : ℕ → ℕ → ℕ → Type 0
Sound first step count =
    (1 ≤ first) × (1 ≤ step) × (1 ≤ count) × (count ≤ 1000000) × (first + step * (count - 1) ≤ 1000000000)

-- the first condition that is broken, if any is
abbrev pub flat_check : ℕ → ℕ → ℕ → Result (Unit {0}) FlatFault
flat_check first step count =
    cond (nat_lt first 1) (Err FirstIsZero)
    (cond (nat_lt step 1) (Err StepIsZero)
    (cond (nat_lt count 1) (Err CountIsZero)
    (cond (nat_lt 1000000 count) (Err TooManyTicks)
    (cond (nat_lt 1000000000 (first + step * (count - 1))) (Err LastTooHigh)
    (Ok tt)))))

-- the number of the refusal
abbrev pub flat_number : FlatFault → ℕ
flat_number fault = 15
