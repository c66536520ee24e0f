use Rattle.std.proofs.Common.{◌≡◌, ◌&&◌, sym, ◌∙◌, rules, tests, arith}
use Rattle.std.specs.List.{list_any}
use Rattle.std.proofs.lemmas.Iterator.{YieldsList-from_slice}
use Rattle.std.proofs.lemmas.Iterator.Search.{any_from_yields_List}
use Rattle.market.specs.declared.order.Order.{Order}
use Rattle.sheets.specs.Sides.{numbered, on}
use Rattle.sheets.specs.Rows.{line}
use Rattle.sheets.proofs.Keeps.{over-found, over-less}
use Rattle.sheets.proofs.Lines.{some-line, some-both, length-line}
use Rattle.sheets.proofs.scans.is_side_over.Goals as goal

pub returns-then-count_on-capacity : goal.returns-then-count_on-capacity
returns-then-count_on-capacity c =
    let k = c.args.number in
    let v = c.args.side in
    let xs = c.args.orders.now in
    let any : c.any.result ≡ list_any (λ (x : Order). on v x && numbered k x) xs =
    any_from_yields_List (λ (x : Order). on v x && numbered k x) _ _ c.any.result c.any.ensures.ran (YieldsList-from_slice xs (cc)) (λ x b q e. search (rules, tests)) in
    over-found c.args.capacity k (line v xs) c.any.result (let t = c.if-count_on-capacity.true in omega (arith, c.count_on.ensures, length-line v xs)) (any ∙ sym (some-line (numbered k) v xs ∙ some-both (on v) (numbered k) xs))

pub returns-else-count_on-capacity : goal.returns-else-count_on-capacity
returns-else-count_on-capacity c =
    let v = c.args.side in
    let xs = c.args.orders.now in
    over-less c.args.capacity c.args.number c.count_on.result (line v xs) (c.count_on.ensures ∙ sym (length-line v xs)) c.if-count_on-capacity.false
