use Rattle.std.proofs.Common.{None, ◌∙◌, rules, tests}
use Rattle.std.proofs.lemmas.Iterator.Adapters.{YieldsList-from_rev_slice}
use Rattle.std.proofs.lemmas.Iterator.Consumers.{fold_from_yields_List}
use Rattle.sheets.specs.Scans.{first_with}
use Rattle.sheets.specs.Evidence.{apart_from}
use Rattle.sheets.proofs.Lines.{scanned}
use Rattle.sheets.proofs.scans.first_in.Goals as goal

pub returns : goal.returns
returns c =
    let xs = c.args.orders.now in
    fold_from_yields_List _ (λ first x. first_with c.args.side c.args.behind x first) None _ c.fold.ensures.ran (YieldsList-from_rev_slice xs (cc)) (λ b x r q k. search (rules, tests))
    ∙ scanned c.args.side c.args.behind xs (apart_from xs c.requires)
