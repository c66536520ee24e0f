use Rattle.std.proofs.Common.{sym, ap, ◌∙◌, subst}
use Rattle.std.specs.List.{remove}
use Rattle.ordered.specs.Meaning.{held}
use Rattle.ordered.specs.Sorting.{ranked, in_order, Sorted}
use Rattle.ordered.proofs.Sorts.{order_from, order_removed, order_is, sorted-removed}
use Rattle.ordered.proofs.list.OrderedList.remove.Goals as goal

pub invariant_of-self : goal.invariant_of-self
invariant_of-self g c =
    let r = g.R.Ranking in
    let s = c.args.self.now in
    let ahead = ranked {E = g.row.E.Denot} (r.ahead s.ranking) (r.key_of s.ranking) in
    record { ordered = ap (in_order ahead) c.remove.ensures.entries ∙ order_is ahead (remove (held s) c.args.at) (order_removed ahead (held s) c.args.at (order_from ahead (held s) s.ordered)) }

pub returns-clause-sorted : goal.returns-clause-sorted
returns-clause-sorted g c order sorted = subst (Sorted order) (sym c.remove.ensures.entries) (sorted-removed order (held c.args.self.now) c.args.at sorted)
