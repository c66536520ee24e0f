use Rattle.std.proofs.Common.{◌+◌, List, ◌∙◌, ap, take, set, rules}
use Rattle.std.specs.List.{copy_within}
use Rattle.ordered.proofs.Edits.{take-opened}
use Rattle.ordered.proofs.lent.LentList.insert.Goals as goal

pub returns-clause-entries : goal.returns-clause-entries
returns-clause-entries g c =
    let l = c.args.self.now in
    ap (λ (ys : List g.row.E.Denot). take (l.len + 1) (set ys c.args.at c.args.entry)) {y = copy_within l.rows.now c.args.at l.len (c.args.at + 1)} c.copy_within.ensures.after
    ∙ take-opened l.rows.now c.args.at l.len c.args.entry (search rules) (search rules)
