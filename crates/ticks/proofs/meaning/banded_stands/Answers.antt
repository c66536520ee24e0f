use Rattle.ticks.proofs.RowsHold.{load-conditions, row-ladder}
use Rattle.ticks.proofs.meaning.banded_stands.Goals as goal

pub returns : goal.returns
returns c = record { conditions = load-conditions; ladder = row-ladder }
