use Rattle.std.proofs.Common.{◌∙◌, rules}
use Rattle.std.proofs.lemmas.Fn.{always_returns_same}
use Rattle.sheets.specs.Sides.{numbered}
use Rattle.sheets.specs.Held.{arrivals}
use Rattle.sheets.proofs.Lines.{find-arranged}
use Rattle.sheets.proofs.Arrivals.{apart-arrivals}
use Rattle.sheets.proofs.arrival.ArrivalSheetOrderSheet.find.Goals as goal

pub returns : goal.returns
returns c =
    let s = c.args.self.now in
    c.find.ensures (numbered c.args.number) (always_returns_same _ _ _ (λ a r f' q. (search rules, search rules))) ∙ find-arranged c.args.number (arrivals s) (apart-arrivals s)
