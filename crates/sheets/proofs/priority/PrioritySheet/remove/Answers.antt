use Rattle.std.proofs.Common.{◌≡◌, is_some, Some, None, sym, refl, ap, ◌∙◌, ap₂}
use Rattle.std.specs.List.{find}
use Rattle.ordered.specs.Meaning.{held, lent}
use Rattle.sheets.specs.Sides.{sides_of, numbered, take_from, find_in}
use Rattle.sheets.specs.Tests.{is_sheet}
use Rattle.sheets.specs.Held.{held_by_priority}
use Rattle.sheets.specs.Evidence.{priority_laws}
use Rattle.sheets.proofs.Numbers.{apart-left, apart-right, first_some, first-none-some, first-left, first-right, taken-left}
use Rattle.sheets.proofs.Keeps.{tested, take-lawful}
use Rattle.sheets.proofs.PriorityLists.{kept_same, lists-rows, lists-kept}
use Rattle.sheets.proofs.Spares.{when_some, when_either}
use Rattle.sheets.proofs.priority.PrioritySheet.remove.Goals as goal

pub take_from-requires : goal.take_from-requires
take_from-requires c = let s = c.args.self.now in apart-left (held s.buys) (held s.offers) (priority_laws s).apart

pub invariant_of-self : goal.invariant_of-self
invariant_of-self c =
    let s = c.args.self.now in
    let k = c.args.number in
    let r = c.take_from.ensures in
    let found : Some c.in-Some.order ≡ find (numbered k) (held s.buys) = sym c.in-Some.is ∙ r.value in
    let after : sides_of (held c.take_from.new.list) (held s.offers) ≡ take_from k (held_by_priority s) =
    taken-left k (held s.buys) (held s.offers) (held c.take_from.new.list) (priority_laws s).apart (first_some (numbered k) (held s.buys) c.in-Some.order found) r.held in
    record {
      buys_by = r.ranking ∙ s.buys_by;
      offers_by = s.offers_by;
      buys_rows = r.rows.size ∙ s.buys_rows;
      offers_rows = s.offers_rows;
      lawful = ap (is_sheet s.capacity) after ∙ tested s.capacity (take_from k (held_by_priority s)) (take-lawful s.capacity k (held_by_priority s) (priority_laws s));
    }

pub returns-in-Some : goal.returns-in-Some
returns-in-Some c =
    let s = c.args.self.now in
    let k = c.args.number in
    let r = c.take_from.ensures in
    let found : Some c.in-Some.order ≡ find (numbered k) (held s.buys) = sym c.in-Some.is ∙ r.value in
    let value : Some c.in-Some.order ≡ find_in k (held_by_priority s) = first-left (numbered k) (held s.buys) (held s.offers) c.in-Some.order found in
    record {
      value = value;
      after = taken-left k (held s.buys) (held s.offers) (held c.take_from.new.list) (priority_laws s).apart (first_some (numbered k) (held s.buys) c.in-Some.order found) r.held;
      size = refl;
      rows = when_some _ _ (find_in k (held_by_priority s)) c.in-Some.order value (lists-kept (lent c.take_from.new.list) (lent s.offers) s r.rows (kept_same (lent s.offers)));
      spare = (r.rows, kept_same (lent s.offers));
    }

pub take_from-requires-2 : goal.take_from-requires-2
take_from-requires-2 c = let s = c.args.self.now in apart-right (held s.buys) (held s.offers) (priority_laws s).apart

pub invariant_of-self-2 : goal.invariant_of-self-2
invariant_of-self-2 c =
    let s = c.args.self.now in
    let k = c.args.number in
    let r = c.take_from.ensures in
    let t = c.take_from-2.ensures in
    let after : sides_of (held c.take_from.new.list) (held c.take_from-2.new.list) ≡ take_from k (held_by_priority s) = ap₂ sides_of r.held t.held in
    record {
      buys_by = r.ranking ∙ s.buys_by;
      offers_by = t.ranking ∙ s.offers_by;
      buys_rows = r.rows.size ∙ s.buys_rows;
      offers_rows = t.rows.size ∙ s.offers_rows;
      lawful = ap (is_sheet s.capacity) after ∙ tested s.capacity (take_from k (held_by_priority s)) (take-lawful s.capacity k (held_by_priority s) (priority_laws s));
    }

pub returns : goal.returns
returns c =
    let s = c.args.self.now in
    let k = c.args.number in
    let r = c.take_from.ensures in
    let t = c.take_from-2.ensures in
    let none : None ≡ find (numbered k) (held s.buys) = sym c.in_default.is ∙ r.value in
    let value : c.take_from-2.result ≡ find_in k (held_by_priority s) = t.value ∙ sym (first-right (numbered k) (held s.buys) (held s.offers) (first-none-some (numbered k) (held s.buys) none)) in
    record {
      value = value;
      after = ap₂ sides_of r.held t.held;
      size = refl;
      rows = when_either _ _ (find_in k (held_by_priority s))
          (lists-kept (lent c.take_from.new.list) (lent c.take_from-2.new.list) s r.rows t.rows)
          (λ n. lists-rows (lent c.take_from.new.list) (lent c.take_from-2.new.list) s (ap lent (r.absent (ap is_some c.in_default.is))) (ap lent (t.absent (ap is_some (value ∙ n)))));
      spare = (r.rows, t.rows);
    }
