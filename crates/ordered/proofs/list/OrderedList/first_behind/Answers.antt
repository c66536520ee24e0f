use Rattle.std.proofs.Common.{◌∙◌, List, subst}
use Rattle.std.specs.Slice.{IsItemAt}
use Rattle.ordered.specs.Meaning.{held}
use Rattle.ordered.proofs.Sorts.{get-first}
use Rattle.ordered.proofs.Searches.{copied-item}
use Rattle.ordered.proofs.list.OrderedList.first_behind.Goals as goal

pub returns : goal.returns
returns g c =
    let r = g.R.Ranking in
    let s = c.args.self.now in
    let item : IsItemAt (held s) c.place.result c.get.result = subst (λ (xs : List g.row.E.Denot). IsItemAt xs c.place.result c.get.result) c.as_slice.ensures c.get.ensures.lookup in
    c.copied.ensures ∙ copied-item (held s) c.place.result c.get.result item
    ∙ get-first {X = g.row.E.Denot} (λ x. r.ahead s.ranking c.args.key.now (r.key_of s.ranking x)) (held s) c.place.result c.place.ensures.past c.place.ensures.here
