use Rattle.pricing.proofs.Curves.{demand-falls, supply-rises, demand-flat, supply-flat, rivals-bound}
use Rattle.pricing.proofs.meaning.curves_stand.Goals as goal

pub returns : goal.returns
returns c = record { falls = demand-falls; rises = supply-rises; demand_flat = demand-flat; supply_flat = supply-flat; rivals = rivals-bound }
