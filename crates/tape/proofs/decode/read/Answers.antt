use Rattle.tape.proofs.Places.{writing}
use Rattle.tape.proofs.decode.read.Goals as goal

pub returns-clause-writing : goal.returns-clause-writing
returns-clause-writing c = search (writing, c.type_inv.bytes, c.split.ensures)
