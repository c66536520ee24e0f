use Rattle.pricing.proofs.Imbalance.{each-imbalance}
use Rattle.pricing.proofs.Pricing.{price-chosen, price-only}
use Rattle.pricing.proofs.meaning.pricing_stands.Goals as goal

pub returns : goal.returns
returns c = record { imbalance = each-imbalance; chosen = price-chosen; only = price-only }
