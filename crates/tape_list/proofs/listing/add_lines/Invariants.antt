use Rattle.std.proofs.Common.{◌≡◌, ◌-◌, ◌≤◌, length, string_bytes}
use Rattle.tape_list.proofs.Lines.{Told}
use Rattle.tape_list.proofs.listing.add_lines.Given as goal

abbrev pub invariant-commands : goal.invariant-commands
invariant-commands l =
    (l.reader.tape.now ≡ l.tape) × (l.count ≤ l.reader.place)
    × Told l.tape (string_bytes l.initial.text) (string_bytes l.text) l.count l.reader.place

abbrev pub decreases-commands : goal.decreases-commands
decreases-commands l = length l.tape - l.reader.place
