use Rattle.std.proofs.Common.{◌≡◌, Some, sym, ap, ◌∙◌, arith}
use Rattle.pricing.specs.Pricing.{interest_of}
use Rattle.pricing.proofs.Climbs.{climb-next, climb-none, climb-end, above-is, above-upto, bid-covers, rung-above}
use Rattle.ticks.specs.Ticks.{first_above}
use Rattle.pricing.proofs.Bounds.{ask-small}
use Rattle.pricing.proofs.Passes.{rung-on, pass-start, pass-more, pass-done}
use Rattle.pricing.proofs.pass.climb.Goals as goal

pub loop-at-init : goal.loop-at-init
loop-at-init g c = (c.requires.rung, pass-start (g.R.TickRule.ticks c.args.rule.now) (interest_of (g.S.OrderSheet.meaning c.args.sheet.now) c.args.reference) c.args.first c.alone-tally.result c.args.top c.requires.rung c.alone-tally.ensures)

pub overflow_sub-bid : goal.overflow_sub-bid
overflow_sub-bid g c =
    let rule = c.args.rule.now in
    let s = g.S.OrderSheet.meaning c.args.sheet.now in
    let here = ap (λ r. r.bid) c.loop-at.invariant.0 in
    omega (arith, here, c.quantity_at.ensures, bid-covers (g.R.TickRule.ticks rule) s c.loop-at.at.price c.in-Some.price (g.R.TickRule.laws rule).rising c.requires.limits (sym c.above.ensures ∙ c.in-Some.is))

pub overflow_add-ask : goal.overflow_add-ask
overflow_add-ask g c =
    let rule = c.args.rule.now in
    let s = g.S.OrderSheet.meaning c.args.sheet.now in
    let l = g.S.OrderSheet.laws c.args.sheet.now in
    let here = ap (λ r. r.ask) c.loop-at.invariant.0 in
    omega (arith, here, c.quantity_at-in-loop-at.ensures, ask-small _ s l (g.R.TickRule.ticks rule) c.loop-at.at.price c.in-Some.price (g.R.TickRule.laws rule).rising c.requires.limits (sym c.above.ensures ∙ c.in-Some.is))

pub loop-at-smaller : goal.loop-at-smaller
loop-at-smaller g c =
    let rule = c.args.rule.now in
    omega (arith, c.loop-at-test.true, (above-is (g.R.TickRule.ticks rule) c.loop-at.at.price c.in-Some.price (g.R.TickRule.laws rule).rising (sym c.above.ensures ∙ c.in-Some.is)).greater)

pub loop-at-preserved : goal.loop-at-preserved
loop-at-preserved g c =
    let rule = c.args.rule.now in
    let ticks = g.R.TickRule.ticks rule in
    let up = (g.R.TickRule.laws rule).rising in
    let s = g.S.OrderSheet.meaning c.args.sheet.now in
    let m = interest_of s c.args.reference in
    let p = c.loop-at.at.price in
    let q = c.in-Some.price in
    let e : first_above ticks p ≡ Some q = sym c.above.ensures ∙ c.in-Some.is in
    let le = above-upto ticks p q c.args.top up c.requires.end c.loop-at-test.true e in
    let here = rung-on s c.args.reference c.loop-at.at q c.quantity_at.result c.quantity_at-in-loop-at.result c.loop-at.invariant.0 c.quantity_at.ensures c.quantity_at-in-loop-at.ensures (rung-above ticks s p q up c.requires.limits e c.args.reference) in
    (here, pass-more m q _ _ c.loop-at.tally c.next-tally.result _ _ (climb-next ticks p q c.args.top up e le) here c.next-tally.ensures c.loop-at.invariant.1)

pub returns-after-loop-at : goal.returns-after-loop-at
returns-after-loop-at g c =
    let ticks = g.R.TickRule.ticks c.args.rule.now in
    pass-done (interest_of (g.S.OrderSheet.meaning c.args.sheet.now) c.args.reference) _ c.loop-at.tally _ (climb-end ticks c.loop-at.at.price c.args.top (omega arith)) c.loop-at.invariant.1

pub returns-in_default : goal.returns-in_default
returns-in_default g c =
    let ticks = g.R.TickRule.ticks c.args.rule.now in
    pass-done (interest_of (g.S.OrderSheet.meaning c.args.sheet.now) c.args.reference) _ c.loop-at.tally _ (climb-none ticks c.loop-at.at.price c.args.top (sym c.above.ensures ∙ c.in_default.is)) c.loop-at.invariant.1
