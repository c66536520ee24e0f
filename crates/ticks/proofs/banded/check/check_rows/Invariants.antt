use Rattle.std.proofs.Common.{◌≡◌, drop}
use Rattle.ticks.specs.Rows.{rows_check}
use Rattle.ticks.proofs.banded.check.check_rows.Given as goal

abbrev pub invariant-loop-i : goal.invariant-loop-i
invariant-loop-i l = rows_check l.i l.low (drop l.i l.rows) ≡ rows_check 0 0 l.rows
