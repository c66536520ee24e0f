use Rattle.pricing.proofs.Flat.{flat-run, flat-neighbours}
use Rattle.pricing.proofs.meaning.flat_stands.Goals as goal

pub returns : goal.returns
returns c = record { run = flat-run; neighbours = flat-neighbours }
