use Rattle.std.proofs.Common.{◌≡◌, ◌+◌, ◌-◌, map, filter, fold}
use Rattle.pricing.specs.Ladder.{between}
use Rattle.pricing.specs.Pricing.{interest_of}
use Rattle.pricing.specs.Passes.{tally_over}
use Rattle.pricing.specs.Tallies.{rung_at, next_of}
use Rattle.pricing.proofs.pass.climb.Given as goal

abbrev pub invariant-loop-at : goal.invariant-loop-at
invariant-loop-at g l =
    let ticks = g.R.TickRule.ticks l.rule in
    let m = interest_of (g.S.OrderSheet.meaning l.sheet) l.reference in
    (l.at ≡ rung_at m l.at.price) × (fold (next_of l.reference) l.tally (map (rung_at m) (filter (between (l.at.price + 1) l.top) ticks)) ≡ tally_over ticks m l.fn.first.price l.top)

abbrev pub decreases-loop-at : goal.decreases-loop-at
decreases-loop-at g l = l.top - l.at.price
