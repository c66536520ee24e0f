use Rattle.std.proofs.Common.{sym, ap, ◌∙◌, subst}
use Rattle.ordered.specs.Meaning.{held}
use Rattle.ordered.specs.Sorting.{ranked, insert_by, in_order, Sorted}
use Rattle.ordered.proofs.Sorts.{insert_placed, sorted_insert, order_from, order_insert, order_is}
use Rattle.ordered.proofs.list.OrderedList.insert.Goals as goal

pub invariant_of-self : goal.invariant_of-self
invariant_of-self g c =
    let r = g.R.Ranking in
    let l = g.met.R.Ranking in
    let s = c.args.self.now in
    let xs = held s in
    let p = c.place-at.ensures in
    let ahead = ranked {E = g.row.E.Denot} (r.ahead s.ranking) (r.key_of s.ranking) in
    record {
      ordered = ap (in_order ahead) (c.insert.ensures.entries ∙ insert_placed (r.ahead s.ranking) (r.key_of s.ranking) c.args.entry c.key.result xs c.place-at.result c.key.ensures p.past p.here)
          ∙ order_is ahead (insert_by ahead c.args.entry xs)
          (order_insert ahead (λ x. l.irreflexive s.ranking (r.key_of s.ranking x)) (λ x y z. l.transitive s.ranking (r.key_of s.ranking x) (r.key_of s.ranking y) (r.key_of s.ranking z)) c.args.entry xs
          (order_from ahead xs s.ordered));
    }

pub returns-clause-held : goal.returns-clause-held
returns-clause-held g c =
    let r = g.R.Ranking in
    let s = c.args.self.now in
    let p = c.place-at.ensures in
    c.insert.ensures.entries ∙ insert_placed (r.ahead s.ranking) (r.key_of s.ranking) c.args.entry c.key.result (held s) c.place-at.result c.key.ensures p.past p.here

pub returns-clause-sorted : goal.returns-clause-sorted
returns-clause-sorted g c new sorted =
    let r = g.R.Ranking in
    let l = g.met.R.Ranking in
    let s = c.args.self.now in
    let p = c.place-at.ensures in
    let ahead = ranked {E = g.row.E.Denot} (r.ahead s.ranking) (r.key_of s.ranking) in
    subst (Sorted ahead)
    (sym (c.insert.ensures.entries ∙ insert_placed (r.ahead s.ranking) (r.key_of s.ranking) c.args.entry c.key.result (held s) c.place-at.result c.key.ensures p.past p.here))
    (sorted_insert ahead (r.key_of s.ranking) (λ x y z. l.transitive s.ranking (r.key_of s.ranking x) (r.key_of s.ranking y) (r.key_of s.ranking z)) (λ x y. l.total s.ranking (r.key_of s.ranking x) (r.key_of s.ranking y))
    c.args.entry (held s) new sorted)
