use Rattle.std.proofs.Common.{sym, ◌∙◌, refl}
use Rattle.market.specs.Priority.{priority_of}
use Rattle.sheets.specs.Sides.{of_side}
use Rattle.pricing.proofs.Walks.{rest-none, next-stop, goes-on, goes-shorter}
use Rattle.pricing.proofs.Surveys.{seen-none, seen-more, seen-fits, seen-all}
use Rattle.pricing.proofs.survey.survey_of.Goals as goal

pub loop-order-init : goal.loop-order-init
loop-order-init g c =
    let os = of_side c.args.side (g.S.OrderSheet.meaning c.args.sheet.now) in
    seen-none c.default-seen.result os _ (λ i. record { market = c.default-seen.ensures.0 i; all = c.default-seen.ensures.1.0 i; limits = c.default-seen.ensures.1.1 i }) (rest-none c.args.side os)

pub with-seen-requires-clause-market : goal.with-seen-requires-clause-market
with-seen-requires-clause-market g c =
    let v = c.args.side in
    let l = g.S.OrderSheet.laws c.args.sheet.now in
    let o = c.in-Some.order in
    (seen-fits v _ _ c.loop-order.seen o _ _ (goes-on v _ _ c.loop-order.behind o (priority_of o) l (sym c.next.ensures ∙ c.in-Some.is) refl) c.loop-order.invariant l).0

pub with-seen-requires-clause-all : goal.with-seen-requires-clause-all
with-seen-requires-clause-all g c =
    let v = c.args.side in
    let l = g.S.OrderSheet.laws c.args.sheet.now in
    let o = c.in-Some.order in
    (seen-fits v _ _ c.loop-order.seen o _ _ (goes-on v _ _ c.loop-order.behind o (priority_of o) l (sym c.next.ensures ∙ c.in-Some.is) refl) c.loop-order.invariant l).1

pub loop-order-smaller : goal.loop-order-smaller
loop-order-smaller g c =
    let v = c.args.side in
    let l = g.S.OrderSheet.laws c.args.sheet.now in
    goes-shorter c.in-Some.order _ _ (goes-on v _ _ c.loop-order.behind c.in-Some.order c.priority.result l (sym c.next.ensures ∙ c.in-Some.is) c.priority.ensures)

pub loop-order-preserved : goal.loop-order-preserved
loop-order-preserved g c =
    let v = c.args.side in
    let l = g.S.OrderSheet.laws c.args.sheet.now in
    let step = goes-on v _ _ c.loop-order.behind c.in-Some.order c.priority.result l (sym c.next.ensures ∙ c.in-Some.is) c.priority.ensures in
    rw c.with-seen.ensures (seen-more c.loop-order.seen c.in-Some.order _ _ _ step c.loop-order.invariant)

pub returns : goal.returns
returns g c =
    let v = c.args.side in
    let os = of_side v (g.S.OrderSheet.meaning c.args.sheet.now) in
    seen-all c.loop-order.seen _ os (next-stop v c.loop-order.behind os (sym c.next.ensures ∙ c.in_default.is)) c.loop-order.invariant
