use Rattle.std.proofs.Common.{◌≡◌, Some, None, sym, ap, ◌∙◌, position, take, rules}
use Rattle.std.specs.List.{slice_get}
use Rattle.std.specs.Option.{option_and_then}
use Rattle.ordered.proofs.Indexes.{find-position}
use Rattle.ordered.proofs.Searches.{copied-item}
use Rattle.ordered.proofs.rows.find.Goals as goal

pub returns-in_err-at : goal.returns-in_err-at
returns-in_err-at g c passes computes =
    let xs = take c.args.len c.args.rows.now in
    let none : position passes xs ≡ None = sym (c.position.ensures passes computes) ∙ search rules in
    let answer : c.from_residual.result ≡ None = search rules in
    answer ∙ sym (find-position passes xs ∙ ap (option_and_then (slice_get xs)) none)

pub returns : goal.returns
returns g c passes computes =
    let xs = take c.args.len c.args.rows.now in
    let some : position passes xs ≡ Some c.in_ok-at.at = sym (c.position.ensures passes computes) ∙ search rules in
    c.copied.ensures ∙ copied-item xs c.in_ok-at.at c.get.result c.get.ensures.lookup
    ∙ sym (find-position passes xs ∙ ap (option_and_then (slice_get xs)) some)
