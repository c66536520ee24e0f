use Rattle.std.proofs.Common.{◌≡◌, rules, tests}
use Rattle.std.specs.List.{list_any}
use Rattle.std.proofs.lemmas.Iterator.{YieldsList-from_slice}
use Rattle.std.proofs.lemmas.Iterator.Search.{any_from_yields_List}
use Rattle.sheets.specs.Sides.{numbered}
use Rattle.sheets.proofs.Keeps.{over-found}
use Rattle.sheets.proofs.lists.is_over.Goals as goal

pub returns-then-orders-capacity : goal.returns-then-orders-capacity
returns-then-orders-capacity c =
    let k = c.args.number in
    let xs = c.args.orders.now in
    let any : c.any.result ≡ list_any (numbered k) xs = any_from_yields_List (numbered k) _ _ c.any.result c.any.ensures.ran (YieldsList-from_slice xs (cc)) (λ x b q e. search (rules, tests)) in
    over-found c.args.capacity k xs c.any.result c.if-orders-capacity.true any
