use Rattle.calls.proofs.Reaches.{each-reached}
use Rattle.calls.proofs.meaning.calls_stand.Goals as goal

pub returns : goal.returns
returns c = each-reached
