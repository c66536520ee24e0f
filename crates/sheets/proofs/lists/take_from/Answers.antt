use Rattle.std.proofs.Common.{◌≡◌, Some, None, sym, ◌∙◌}
use Rattle.std.specs.List.{position}
use Rattle.ordered.specs.Meaning.{held}
use Rattle.sheets.specs.Sides.{numbered}
use Rattle.sheets.proofs.Numbers.{removed_is, missing-is, first_found, first-missing}
use Rattle.sheets.proofs.Places.{found}
use Rattle.sheets.proofs.lists.take_from.Goals as goal

pub remove-requires : goal.remove-requires
remove-requires c =
    let xs = held c.args.list.now in
    let at : Some c.in_ok-at.at ≡ position (numbered c.args.number) xs = sym c.in_ok-at.was ∙ c.index.ensures in
    (found (numbered c.args.number) xs c.in_ok-at.at at).within

pub returns-in_err-at-clause-value : goal.returns-in_err-at-clause-value
returns-in_err-at-clause-value c =
    let xs = held c.args.list.now in
    let none : None ≡ position (numbered c.args.number) xs = sym c.in_err-at.was ∙ c.index.ensures in
    c.from_residual.ensures ∙ first-missing (numbered c.args.number) xs none

pub returns-in_err-at-clause-held : goal.returns-in_err-at-clause-held
returns-in_err-at-clause-held c =
    let xs = held c.args.list.now in
    let none : None ≡ position (numbered c.args.number) xs = sym c.in_err-at.was ∙ c.index.ensures in
    missing-is c.args.number xs none

pub returns-clause-value : goal.returns-clause-value
returns-clause-value c =
    let xs = held c.args.list.now in
    let at : Some c.in_ok-at.at ≡ position (numbered c.args.number) xs = sym c.in_ok-at.was ∙ c.index.ensures in
    first_found (numbered c.args.number) xs c.in_ok-at.at c.remove.result at c.remove.ensures.value

pub returns-clause-held : goal.returns-clause-held
returns-clause-held c =
    let xs = held c.args.list.now in
    let at : Some c.in_ok-at.at ≡ position (numbered c.args.number) xs = sym c.in_ok-at.was ∙ c.index.ensures in
    c.remove.ensures.held ∙ removed_is c.args.number xs c.in_ok-at.at c.requires at
