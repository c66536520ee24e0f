use Rattle.std.proofs.Common.{◌∙◌, arith}
use Rattle.sheets.proofs.Tops.{Turn, turn, emptied}
use Rattle.book.proofs.Clears.{as_many}
use Rattle.book.proofs.clear.clear_side.Goals as goal

pub loop-order-smaller : goal.loop-order-smaller
loop-order-smaller g c =
    let m = g.S.OrderSheet in
    let t : Turn c.args.side (m.meaning c.loop-order.sheet) (m.meaning c.take.new.self) =
    turn c.args.side (m.room c.loop-order.sheet) (m.meaning c.loop-order.sheet) (m.meaning c.take.new.self) c.in-Some.order (m.laws c.loop-order.sheet) c.in-Some.ensures c.take.ensures.after in
    omega (arith, t.shorter)

pub loop-order-preserved : goal.loop-order-preserved
loop-order-preserved g c =
    let m = g.S.OrderSheet in
    let t : Turn c.args.side (m.meaning c.loop-order.sheet) (m.meaning c.take.new.self) =
    turn c.args.side (m.room c.loop-order.sheet) (m.meaning c.loop-order.sheet) (m.meaning c.take.new.self) c.in-Some.order (m.laws c.loop-order.sheet) c.in-Some.ensures c.take.ensures.after in (
      t.rest ∙ c.loop-order.invariant.0,
      c.take.ensures.size ∙ c.loop-order.invariant.1,
      as_many _ _ _ c.take.ensures.rows ∙ c.loop-order.invariant.2,
    )

pub returns : goal.returns
returns g c =
    let m = g.S.OrderSheet in
    record {
      after = emptied c.args.side (m.meaning c.args.sheet.now) (m.meaning c.loop-order.sheet) c.loop-order.invariant.0 c.in_default.ensures;
      size = c.loop-order.invariant.1;
      rows = c.loop-order.invariant.2;
    }
