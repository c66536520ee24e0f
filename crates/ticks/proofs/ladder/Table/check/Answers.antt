use Rattle.std.proofs.Common.{sym, arith}
use Rattle.std.proofs.lemmas.Grind.{common_steps}
use Rattle.ticks.specs.Evidence.{ordered}
use Rattle.ticks.proofs.ladder.Table.check.Goals as goal

pub count_steps-requires : goal.count_steps-requires
count_steps-requires c = ordered 0 0 c.args.self.now.rows.now c.args.self.now.end (sym c.in_ok-check_rows.ensures) (grind (arith, common_steps))
