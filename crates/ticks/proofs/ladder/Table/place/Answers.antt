use Rattle.std.proofs.Common.{sym, refl, ◌∙◌, arith}
use Rattle.ticks.proofs.Spans.{placed-before, answers-within, placed-within, placed_past}
use Rattle.ticks.specs.Evidence.{found}
use Rattle.ticks.proofs.ladder.Table.place.Goals as goal

pub returns-in-None : goal.returns-in-None
returns-in-None c =
    rw c.start.ensures (placed-before c.args.self.now.rows.now c.args.self.now.end c.requires c.args.p (sym c.row_at.ensures ∙ c.in-None.is))

pub invariant_of-result : goal.invariant_of-result
invariant_of-result c =
    let at = answers-within c.args.self.now.rows.now c.args.self.now.end c.requires c.args.p c.in-Some.row (sym c.row_at.ensures ∙ c.in-Some.is) c.if-p-self.false in
    let high = (found c.args.self.now.rows.now c.args.self.now.end c.requires).high in
    record { positive = at.pos; from_start = at.low; room = omega (arith, at.up, high) }

pub returns-in-Some : goal.returns-in-Some
returns-in-Some c =
    placed-within c.args.self.now.rows.now c.args.self.now.end c.requires c.args.p _ (sym c.row_at.ensures ∙ c.in-Some.is) refl c.if-p-self.false

pub returns-then-p-self : goal.returns-then-p-self
returns-then-p-self c = placed_past c.args.self.now.rows.now c.args.self.now.end c.requires c.args.p c.if-p-self.true
