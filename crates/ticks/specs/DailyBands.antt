-- The meaning of a daily band, from that of the rule below it.
use Rattle.std.specs.Prelude.{ℕ, min, max, List}
use Rattle.ticks.specs.declared.band.DailyBand.{DailyBand}

-- the ticks below it
abbrev pub band_ticks : {R : Type 0} → (R → List ℕ) → DailyBand R → List ℕ
band_ticks ticks b = ticks b.rule

-- the larger of the two floors
abbrev pub band_floor : {R : Type 0} → (R → ℕ) → DailyBand R → ℕ
band_floor floor b = max (floor b.rule) b.lower

-- the smaller of the two ceilings
abbrev pub band_ceiling : {R : Type 0} → (R → ℕ) → DailyBand R → ℕ
band_ceiling ceiling b = min (ceiling b.rule) b.upper
