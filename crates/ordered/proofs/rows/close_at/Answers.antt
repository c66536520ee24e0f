use Rattle.std.proofs.Common.{◌≡◌, ◌-◌, ◌∙◌, ap, sym, subst, take, rules}
use Rattle.std.specs.List.{remove}
use Rattle.ordered.specs.Sorting.{Sorted}
use Rattle.ordered.proofs.Edits.{take-closed}
use Rattle.ordered.proofs.Sorts.{sorted-removed}
use Rattle.ordered.proofs.rows.close_at.Goals as goal

pub returns-clause-held : goal.returns-clause-held
returns-clause-held g c =
    ap (take (c.args.len - 1)) c.copy_within.ensures.after ∙ take-closed c.args.rows.now c.args.at c.args.len (search rules) (search rules)

pub returns-clause-sorted : goal.returns-clause-sorted
returns-clause-sorted g c order sorted =
    let held : take (c.args.len - 1) c.copy_within.new.self ≡ remove (take c.args.len c.args.rows.now) c.args.at =
    ap (take (c.args.len - 1)) c.copy_within.ensures.after ∙ take-closed c.args.rows.now c.args.at c.args.len (search rules) (search rules) in
    subst (Sorted order) (sym held) (sorted-removed order (take c.args.len c.args.rows.now) c.args.at sorted)
