use Rattle.pricing.proofs.Walk.{demand-goes-on, supply-goes-on}
use Rattle.pricing.proofs.meaning.walk_stands.Goals as goal

pub returns : goal.returns
returns c = record { demand = demand-goes-on; supply = supply-goes-on }
