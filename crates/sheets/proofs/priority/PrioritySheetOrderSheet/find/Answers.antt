use Rattle.std.proofs.Common.{◌≡◌, Some, None, sym, ◌∙◌, rules}
use Rattle.std.specs.List.{find}
use Rattle.std.proofs.lemmas.Fn.{always_returns_same}
use Rattle.ordered.specs.Meaning.{held}
use Rattle.sheets.specs.Sides.{numbered}
use Rattle.sheets.proofs.Numbers.{first-left, first-right, first-none-some}
use Rattle.sheets.proofs.priority.PrioritySheetOrderSheet.find.Goals as goal

pub returns-in-Some : goal.returns-in-Some
returns-in-Some c =
    let s = c.args.self.now in
    let k = c.args.number in
    let found : Some c.in-Some.order ≡ find (numbered k) (held s.buys) = sym c.in-Some.is ∙ c.find.ensures (numbered k) (always_returns_same _ _ _ (λ a r f' q. (search rules, search rules))) in
    first-left (numbered k) (held s.buys) (held s.offers) c.in-Some.order found

pub returns : goal.returns
returns c =
    let s = c.args.self.now in
    let k = c.args.number in
    let none : None ≡ find (numbered k) (held s.buys) = sym c.in_default.is ∙ c.find.ensures (numbered k) (always_returns_same _ _ _ (λ a r f' q. (search rules, search rules))) in
    c.find-2.ensures (numbered k) (always_returns_same _ _ _ (λ a r f' q. (search rules, search rules)))
    ∙ sym (first-right (numbered k) (held s.buys) (held s.offers) (first-none-some (numbered k) (held s.buys) none))
