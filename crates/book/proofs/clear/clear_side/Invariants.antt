use Rattle.std.proofs.Common.{◌≡◌, [], length}
use Rattle.sheets.specs.Sides.{of_side, with_side}
use Rattle.book.proofs.clear.clear_side.Given as goal

abbrev pub invariant-loop-order : goal.invariant-loop-order
invariant-loop-order g l =
    (with_side l.side [] (g.S.OrderSheet.meaning l.sheet) ≡ with_side l.side [] (g.S.OrderSheet.meaning l.initial.sheet))
    × (g.S.OrderSheet.room l.sheet ≡ g.S.OrderSheet.room l.initial.sheet)
    × (length (g.S.OrderSheet.rows l.sheet) ≡ length (g.S.OrderSheet.rows l.initial.sheet))

abbrev pub decreases-loop-order : goal.decreases-loop-order
decreases-loop-order g l = length (of_side l.side (g.S.OrderSheet.meaning l.sheet))
