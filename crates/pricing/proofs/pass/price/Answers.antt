use Rattle.std.proofs.Common.{◌+◌, [], filter, sym, ap, subst, ◌∙◌, arith}
use Rattle.sheets.specs.Sides.{standing}
use Rattle.pricing.specs.Ladder.{limits, between}
use Rattle.pricing.specs.Passes.{auction_on}
use Rattle.pricing.specs.Pricing.{interest_of, alone, sweep}
use Rattle.pricing.specs.Tallies.{IsSmall, alone_of, answer_of, auction_of}
use Rattle.pricing.proofs.Bounds.{rung-small, answer-small}
use Rattle.pricing.proofs.Climbs.{sweep-tallied}
use Rattle.pricing.proofs.Ends.{no-ends}
use Rattle.pricing.proofs.Passes.{surveys-span, only-rung, starts, auction-same}
use Rattle.pricing.proofs.pass.price.Goals as goal

pub auction-requires : goal.auction-requires
auction-requires g c =
    let s = g.S.OrderSheet.meaning c.args.sheet.now in
    let l = g.S.OrderSheet.laws c.args.sheet.now in
    let p = c.args.reference in
    let only = only-rung s p p c.survey_of-buys.result c.survey_of-offers.result c.survey_of-buys.ensures c.survey_of-offers.ensures (sym c.joined.ensures ∙ c.in_default.is) in
    subst (λ t. IsSmall (answer_of t)) (sym (c.alone.ensures ∙ ap alone_of only)) (answer-small _ s l p (alone (interest_of s p) p))

pub returns-in_default : goal.returns-in_default
returns-in_default g c =
    let ticks = g.R.TickRule.ticks c.args.rule.now in
    let s = g.S.OrderSheet.meaning c.args.sheet.now in
    let p = c.args.reference in
    let b = c.survey_of-buys in
    let a = c.survey_of-offers in
    let none = sym c.joined.ensures ∙ c.in_default.is in
    let only = only-rung s p p b.result a.result b.ensures a.ensures none in
    c.auction.ensures ∙ ap auction_of (c.alone.ensures ∙ ap alone_of only) ∙ auction-same (interest_of s p) p []
    ∙ sym (ap (auction_on (interest_of s p)) (no-ends ticks (limits (standing s)) p (sym (surveys-span s b.result a.result b.ensures a.ensures) ∙ none)))

pub overflow_add-first : goal.overflow_add-first
overflow_add-first g c =
    let rule = c.args.rule.now in
    let s = g.S.OrderSheet.meaning c.args.sheet.now in
    let l = g.S.OrderSheet.laws c.args.sheet.now in
    let p = c.args.reference in
    let at = starts (g.R.TickRule.ticks rule) _ _ s p c.survey_of-buys.result c.survey_of-offers.result _ c.in-Some.field-0 _ _ c.unwrap_or-low.result c.unwrap_or-high.result c.quantity_at.result
    (g.R.TickRule.laws rule) c.requires c.survey_of-buys.ensures c.survey_of-offers.ensures c.joined.ensures c.in-Some.is c.below.ensures c.unwrap_or-low.ensures c.above.ensures c.unwrap_or-high.ensures c.quantity_at.ensures in
    omega (arith, ap (λ r. r.ask) at.here, (rung-small _ s l p c.unwrap_or-low.result).1)

pub climb-requires-clause-rung : goal.climb-requires-clause-rung
climb-requires-clause-rung g c =
    let rule = c.args.rule.now in
    let s = g.S.OrderSheet.meaning c.args.sheet.now in
    let l = g.S.OrderSheet.laws c.args.sheet.now in
    let p = c.args.reference in
    let at = starts (g.R.TickRule.ticks rule) _ _ s p c.survey_of-buys.result c.survey_of-offers.result _ c.in-Some.field-0 _ _ c.unwrap_or-low.result c.unwrap_or-high.result c.quantity_at.result
    (g.R.TickRule.laws rule) c.requires c.survey_of-buys.ensures c.survey_of-offers.ensures c.joined.ensures c.in-Some.is c.below.ensures c.unwrap_or-low.ensures c.above.ensures c.unwrap_or-high.ensures c.quantity_at.ensures in
    at.here

pub climb-requires-clause-end : goal.climb-requires-clause-end
climb-requires-clause-end g c =
    let rule = c.args.rule.now in
    let s = g.S.OrderSheet.meaning c.args.sheet.now in
    let l = g.S.OrderSheet.laws c.args.sheet.now in
    let p = c.args.reference in
    let at = starts (g.R.TickRule.ticks rule) _ _ s p c.survey_of-buys.result c.survey_of-offers.result _ c.in-Some.field-0 _ _ c.unwrap_or-low.result c.unwrap_or-high.result c.quantity_at.result
    (g.R.TickRule.laws rule) c.requires c.survey_of-buys.ensures c.survey_of-offers.ensures c.joined.ensures c.in-Some.is c.below.ensures c.unwrap_or-low.ensures c.above.ensures c.unwrap_or-high.ensures c.quantity_at.ensures in
    at.end

pub auction-requires-2 : goal.auction-requires-2
auction-requires-2 g c =
    let rule = c.args.rule.now in
    let s = g.S.OrderSheet.meaning c.args.sheet.now in
    let l = g.S.OrderSheet.laws c.args.sheet.now in
    let p = c.args.reference in
    let m = interest_of s p in
    let low = c.unwrap_or-low.result in
    let ts = filter (between (low + 1) c.unwrap_or-high.result) (g.R.TickRule.ticks rule) in
    subst (λ t. IsSmall (answer_of t)) (sym (c.climb.ensures ∙ sweep-tallied m (alone m low) ts)) (answer-small _ s l p (sweep m (alone m low) ts))

pub returns : goal.returns
returns g c =
    let rule = c.args.rule.now in
    let s = g.S.OrderSheet.meaning c.args.sheet.now in
    let l = g.S.OrderSheet.laws c.args.sheet.now in
    let p = c.args.reference in
    let at = starts (g.R.TickRule.ticks rule) _ _ s p c.survey_of-buys.result c.survey_of-offers.result _ c.in-Some.field-0 _ _ c.unwrap_or-low.result c.unwrap_or-high.result c.quantity_at.result
    (g.R.TickRule.laws rule) c.requires c.survey_of-buys.ensures c.survey_of-offers.ensures c.joined.ensures c.in-Some.is c.below.ensures c.unwrap_or-low.ensures c.above.ensures c.unwrap_or-high.ensures c.quantity_at.ensures in
    let m = interest_of s p in
    let low = c.unwrap_or-low.result in
    let ts = filter (between (low + 1) c.unwrap_or-high.result) (g.R.TickRule.ticks rule) in
    c.auction-2.ensures ∙ ap auction_of c.climb.ensures ∙ auction-same m low ts ∙ sym (ap (auction_on m) at.rungs)
