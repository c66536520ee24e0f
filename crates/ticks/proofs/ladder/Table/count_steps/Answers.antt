use Rattle.std.proofs.Common.{arith, length-append, ℕ, div-le_self}
use Rattle.std.proofs.lemmas.Grind.{common_steps}
use Rattle.ticks.specs.Evidence.{length-progression}
use Rattle.ticks.proofs.ladder.Table.count_steps.Goals as goal

pub loop-i-preserved : goal.loop-i-preserved
loop-i-preserved c = grind (arith, common_steps, length-append {A = ℕ}, length-progression, div-le_self)
