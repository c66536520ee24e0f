use Rattle.std.proofs.Common.{arith}
use Rattle.std.proofs.lemmas.Grind.{common_steps}
use Rattle.ticks.proofs.AtIndex.{last_below-first}
use Rattle.ticks.proofs.flat.asked.FlatTickRule.below.Goals as goal

pub returns : goal.returns
returns c = grind (arith, common_steps, last_below-first)
