use Rattle.std.proofs.Common.{Some, length}
use Rattle.sheets.specs.Sides.{of_side}
use Rattle.pricing.proofs.Walks.{rest}
use Rattle.pricing.proofs.Counts.{Counting}
use Rattle.pricing.proofs.totals.quantity_at.Given as goal

abbrev pub invariant-loop-order : goal.invariant-loop-order
invariant-loop-order g l =
    let os = of_side l.side (g.S.OrderSheet.meaning l.sheet) in
    Counting l.side l.price l.total (rest l.side (Some l.behind) os) os

abbrev pub decreases-loop-order : goal.decreases-loop-order
decreases-loop-order g l = length (rest l.side (Some l.behind) (of_side l.side (g.S.OrderSheet.meaning l.sheet)))
