use Rattle.std.proofs.Common.{◌-◌}
use Rattle.tick_ladder.proofs.print_ladder.Given as goal

abbrev pub decreases-loop-tick : goal.decreases-loop-tick
decreases-loop-tick g l = 4294967296 - l.at
