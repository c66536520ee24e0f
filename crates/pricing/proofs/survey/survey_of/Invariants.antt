use Rattle.std.proofs.Common.{length}
use Rattle.sheets.specs.Sides.{of_side}
use Rattle.pricing.proofs.Walks.{rest}
use Rattle.pricing.proofs.Surveys.{Seen}
use Rattle.pricing.proofs.survey.survey_of.Given as goal

abbrev pub invariant-loop-order : goal.invariant-loop-order
invariant-loop-order g l =
    let os = of_side l.side (g.S.OrderSheet.meaning l.sheet) in
    Seen l.seen (rest l.side l.behind os) os

abbrev pub decreases-loop-order : goal.decreases-loop-order
decreases-loop-order g l = length (rest l.side l.behind (of_side l.side (g.S.OrderSheet.meaning l.sheet)))
