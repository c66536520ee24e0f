use Rattle.std.proofs.Common.{Some, sym, ◌∙◌, refl, arith}
use Rattle.market.specs.Priority.{priority_of}
use Rattle.sheets.specs.Sides.{of_side}
use Rattle.sheets.proofs.Tops.{side_laws}
use Rattle.pricing.proofs.Walks.{next-stop, goes-on, goes-shorter}
use Rattle.pricing.proofs.Counts.{counting-none, counting-more, counting-past, counting-all, counting-fits}
use Rattle.pricing.proofs.totals.quantity_at.Goals as goal

pub loop-order-init : goal.loop-order-init
loop-order-init g c =
    let v = c.args.side in
    let l = g.S.OrderSheet.laws c.args.sheet.now in
    counting-none v c.args.price _ _ (omega arith) (side_laws v _ _ l).bounded c.just_before-behind.ensures

pub overflow_add-total : goal.overflow_add-total
overflow_add-total g c =
    let v = c.args.side in
    let l = g.S.OrderSheet.laws c.args.sheet.now in
    let o = c.in-Some.order in
    let step = goes-on v _ _ (Some c.loop-order.behind) o (priority_of o) l (sym c.next.ensures ∙ c.in-Some.is) refl in
    omega (arith, c.from-total.ensures, counting-fits v c.args.price c.loop-order.total _ o _ _ _ step c.if-order-price.false c.loop-order.invariant l)

pub loop-order-smaller : goal.loop-order-smaller
loop-order-smaller g c =
    let v = c.args.side in
    let l = g.S.OrderSheet.laws c.args.sheet.now in
    goes-shorter c.in-Some.order _ _ (goes-on v _ _ (Some c.loop-order.behind) c.in-Some.order c.priority-behind.result l (sym c.next.ensures ∙ c.in-Some.is) c.priority-behind.ensures)

pub loop-order-preserved : goal.loop-order-preserved
loop-order-preserved g c =
    let v = c.args.side in
    let l = g.S.OrderSheet.laws c.args.sheet.now in
    let step = goes-on v _ _ (Some c.loop-order.behind) c.in-Some.order c.priority-behind.result l (sym c.next.ensures ∙ c.in-Some.is) c.priority-behind.ensures in
    rw c.from-total.ensures (counting-more v c.args.price c.loop-order.total c.in-Some.order _ _ _ step c.if-order-price.false c.loop-order.invariant)

pub returns-then-order-price : goal.returns-then-order-price
returns-then-order-price g c =
    let v = c.args.side in
    let l = g.S.OrderSheet.laws c.args.sheet.now in
    let o = c.in-Some.order in
    let step = goes-on v _ _ (Some c.loop-order.behind) o (priority_of o) l (sym c.next.ensures ∙ c.in-Some.is) refl in
    counting-past v c.args.price c.loop-order.total o _ _ step c.if-order-price.true c.loop-order.invariant

pub returns-in_default : goal.returns-in_default
returns-in_default g c =
    let v = c.args.side in
    let os = of_side v (g.S.OrderSheet.meaning c.args.sheet.now) in
    counting-all v c.args.price c.loop-order.total _ os (next-stop v (Some c.loop-order.behind) os (sym c.next.ensures ∙ c.in_default.is)) c.loop-order.invariant
