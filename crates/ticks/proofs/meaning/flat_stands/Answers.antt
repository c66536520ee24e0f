use Rattle.ticks.proofs.FlatHolds.{flat_conditions, flat_ladder}
use Rattle.ticks.proofs.meaning.flat_stands.Goals as goal

pub returns : goal.returns
returns c = record { conditions = flat_conditions; ladder = flat_ladder }
