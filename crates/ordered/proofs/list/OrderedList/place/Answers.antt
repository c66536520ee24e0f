use Rattle.std.proofs.Common.{◌≡◌, Bool, true, false, List, not, sym, subst, rules, arith}
use Rattle.std.proofs.lemmas.Bool.{not-true, not-false}
use Rattle.std.proofs.lemmas.List.Sorted.{IsPartitionPoint-from_clause}
use Rattle.std.specs.List.Sorted.{IsPartitionPoint, IsPartitionedBy}
use Rattle.ordered.specs.Meaning.{held}
use Rattle.ordered.specs.Sorting.{ranked}
use Rattle.ordered.proofs.Sorts.{order_from, parted}
use Rattle.ordered.proofs.list.OrderedList.place.Goals as goal

pub returns : goal.returns
returns g c =
    let r = g.R.Ranking in
    let l = g.met.R.Ranking in
    let s = c.args.self.now in
    let k = c.args.key.now in
    let test : g.row.E.Denot → Bool = λ x. not (r.ahead s.ranking k (r.key_of s.ranking x)) in
    let whole : IsPartitionedBy test c.as_slice.result.now =
    subst (IsPartitionedBy test) (sym c.as_slice.ensures)
    (parted (r.ahead s.ranking) (r.key_of s.ranking) (l.transitive s.ranking) (l.total s.ranking) k (held s) (order_from (ranked (r.ahead s.ranking) (r.key_of s.ranking)) (held s) s.ordered)) in
    let parts : IsPartitionPoint (λ y. test y ≡ true) (λ y. test y ≡ false) (held s) c.partition_point.result =
    subst (λ (xs : List g.row.E.Denot). IsPartitionPoint (λ y. test y ≡ true) (λ y. test y ≡ false) xs c.partition_point.result) c.as_slice.ensures
    (IsPartitionPoint-from_clause test c.as_slice.result.now c.partition_point.result c.partition_point.ensures.partitioned whole (λ a b q e. (search rules, search rules))) in
    record {
      within = search rules;
      past = λ j d h. not-true _ (parts.0 j d (omega arith) h);
      here = λ d h. not-false _ (parts.1 c.partition_point.result d (omega arith) h);
    }
