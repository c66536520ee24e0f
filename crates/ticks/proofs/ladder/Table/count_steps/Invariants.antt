use Rattle.std.proofs.Common.{◌≡◌, ◌+◌, ◌≤◌, length, drop}
use Rattle.ticks.specs.Rows.{start_of, ladder, distances_check, Ordered}
use Rattle.ticks.proofs.ladder.Table.count_steps.Given as goal

abbrev pub invariant-loop-i : goal.invariant-loop-i
invariant-loop-i l = record {
  ordered : Ordered (drop l.i l.rows) l.end;
  even : distances_check l.i (drop l.i l.rows) l.end ≡ distances_check 0 l.rows l.end;
  count : l.n + length (ladder (drop l.i l.rows) l.end) ≡ length (ladder l.rows l.end);
  fits : l.n ≤ start_of (drop l.i l.rows) l.end;
}
