use Rattle.std.proofs.Common.{◌≡◌, ◌-◌, List, ◌++◌, length, Result, string_bytes}
use Rattle.calls.specs.declared.call.Answer.{Answer}
use Rattle.calls.specs.Listed.{Listed}
use Rattle.opening.proofs.Going.{Going}
use Rattle.opening_run.specs.Listing.{lines}
use Rattle.opening_run.proofs.listing.add_lines.Given as goal

abbrev pub invariant-commands : goal.invariant-commands
invariant-commands g l =
    (l.reader.tape.now ≡ l.tape)
    × ((rs : List (Result Answer Listed)) × Going g.R.TickRule g.S.OrderSheet l.tape l.initial.book rs l.reader.place l.book l.counts
    × (string_bytes l.text ≡ string_bytes l.initial.text ++ lines 1 rs))

abbrev pub decreases-commands : goal.decreases-commands
decreases-commands g l = length l.tape - l.reader.place
