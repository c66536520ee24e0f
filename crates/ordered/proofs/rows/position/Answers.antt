use Rattle.std.proofs.Common.{◌<◌, length, sym, ap, ◌∙◌, arith, below_more}
use Rattle.std.proofs.lemmas.List.{get_or_read}
use Rattle.ordered.proofs.Indexes.{call-computes, rows-found, rows-missing}
use Rattle.ordered.proofs.rows.position.Goals as goal

pub returns-then-test : goal.returns-then-test
returns-then-test g c passes computes =
    rows-found passes c.args.rows.now c.loop-i.i c.args.len c.index-rows-i.result c.requires.fits c.loop-i-test.true
    (c.loop-i.invariant passes computes)
    (ap passes (sym c.index-rows-i.is) ∙ sym (call-computes g.F.Fn passes c.args.test _ _ computes ((g.met.F.FnMut.1.post_iff _ _ _).0 c.if-test.ensures)))

pub loop-i-preserved : goal.loop-i-preserved
loop-i-preserved g c passes computes k d h =
    let xs = c.args.rows.now in
    let le = c.requires.fits in
    let lt : c.loop-i.i < length xs = omega arith in
    below_more _ _
    (λ k h. c.loop-i.invariant passes computes k d h)
    (ap passes (sym (get_or_read xs c.loop-i.i c.index-rows-i.result lt c.index-rows-i.is d)) ∙ sym (call-computes g.F.Fn passes c.args.test _ _ computes ((g.met.F.FnMut.1.post_iff _ _ _).0 c.if-test.ensures)))
    k h

pub returns : goal.returns
returns g c passes computes = rows-missing passes c.args.rows.now c.args.len c.requires.fits (λ k d h. c.loop-i.invariant passes computes k d (omega arith))
