-- The meaning of a flat rule.
use Rattle.std.specs.Prelude.{ℕ, ◌+◌, ◌-◌, ◌*◌, List}
use Rattle.ticks.specs.declared.flat.Flat.{Flat}
use Rattle.ticks.specs.Ticks.{progression}

-- its ticks
abbrev pub flat_ticks : Flat → List ℕ
flat_ticks f = progression f.first f.step f.count

-- its first tick
abbrev pub flat_floor : Flat → ℕ
flat_floor f = f.first

-- its last tick
abbrev pub flat_ceiling : Flat → ℕ
flat_ceiling f = f.first + f.step * (f.count - 1)
