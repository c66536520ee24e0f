-- The meaning of a banded rule.
use Rattle.std.specs.Prelude.{ℕ, List, take}
use Rattle.ticks.specs.declared.row.Row.{Row}
use Rattle.ticks.specs.declared.banded.table.Banded.{Banded}
use Rattle.ticks.specs.Rows.{ladder, start_of}

-- the rows in use
abbrev pub banded_rows : Banded → List Row
banded_rows b = take b.used b.rows

-- its ticks
abbrev pub banded_ticks : Banded → List ℕ
banded_ticks b = ladder (banded_rows b) b.end

-- its first tick
abbrev pub banded_floor : Banded → ℕ
banded_floor b = start_of (banded_rows b) b.end

-- its last tick
abbrev pub banded_ceiling : Banded → ℕ
banded_ceiling b = b.end
