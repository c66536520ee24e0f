-- The letters of the causes.
use Rattle.std.specs.Prelude.{ℕ}
use Rattle.ticks.specs.declared.rule.Cause.{Cause}
use Rattle.ticks.specs.declared.rule.Cause.TheVariants.{BelowFloor, AboveCeiling, OffTick}

-- the letter's code: F, C or N
abbrev pub letter_of : Cause → ℕ
letter_of BelowFloor = 70
letter_of AboveCeiling = 67
letter_of OffTick = 78
