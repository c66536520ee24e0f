use Rattle.std.proofs.Common.{◌≡◌, ◌-◌, List, length, Result}
use Rattle.calls.specs.declared.call.Answer.{Answer}
use Rattle.calls.specs.Listed.{Listed}
use Rattle.opening.proofs.Going.{Going}
use Rattle.opening.proofs.runs.run_all.Given as goal

abbrev pub invariant-commands : goal.invariant-commands
invariant-commands g l =
    (l.reader.tape.now ≡ l.tape)
    × ((rs : List (Result Answer Listed)) × Going g.R.TickRule g.S.OrderSheet l.tape l.initial.book rs l.reader.place l.book l.counts)

abbrev pub decreases-commands : goal.decreases-commands
decreases-commands g l = length l.tape - l.reader.place
