use Rattle.pricing.proofs.Ladder.{stands-for-all, rungs-ticks}
use Rattle.pricing.proofs.meaning.ladder_stands.Goals as goal

pub returns : goal.returns
returns c = record { all = stands-for-all; ticks = rungs-ticks }
