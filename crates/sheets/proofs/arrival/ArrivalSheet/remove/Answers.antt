use Rattle.std.proofs.Common.{◌≡◌, Some, None, refl, sym, ap, ◌∙◌}
use Rattle.std.specs.List.{position}
use Rattle.ordered.specs.Lent.{entries}
use Rattle.sheets.specs.Sides.{numbered, without, find_in}
use Rattle.sheets.specs.Rows.{arranged}
use Rattle.sheets.specs.Held.{arrivals, held_by_arrival}
use Rattle.sheets.proofs.Numbers.{removed_is, missing-is, first_found, first-missing}
use Rattle.sheets.proofs.Spares.{kept_rows, when_some, when_none}
use Rattle.sheets.proofs.Lines.{find-arranged, arranged-take}
use Rattle.sheets.proofs.Arrivals.{apart-arrivals, lawful_take}
use Rattle.sheets.proofs.arrival.ArrivalSheet.remove.Goals as goal

pub returns-in_err-at : goal.returns-in_err-at
returns-in_err-at c =
    let s = c.args.self.now in
    let k = c.args.number in
    let none : None ≡ position (numbered k) (arrivals s) = sym c.in_err-at.was ∙ c.index.ensures in
    let value : None ≡ find_in k (held_by_arrival s) = first-missing (numbered k) (arrivals s) none ∙ find-arranged k (arrivals s) (apart-arrivals s) in
    let left = missing-is k (arrivals s) none in
    record {
      value = c.from_residual.ensures ∙ value;
      after = ap arranged left ∙ arranged-take k (arrivals s) (apart-arrivals s);
      size = refl;
      rows = when_none _ _ (find_in k (held_by_arrival s)) value refl;
      order = left;
    }

pub invariant_of-self : goal.invariant_of-self
invariant_of-self c =
    let s = c.args.self.now in
    let k = c.args.number in
    let r = c.remove.ensures in
    let left : entries c.remove.new.self ≡ without k (arrivals s) = r.entries ∙ removed_is k (arrivals s) c.in_ok-at.at (apart-arrivals s) (sym c.in_ok-at.was ∙ c.index.ensures) in
    let l = lawful_take s c.remove.new.self k left in
    record { both = r.rows.size ∙ s.both; apart = l.apart; lawful = l.sheet }

pub returns : goal.returns
returns c =
    let s = c.args.self.now in
    let k = c.args.number in
    let r = c.remove.ensures in
    let at : Some c.in_ok-at.at ≡ position (numbered k) (arrivals s) = sym c.in_ok-at.was ∙ c.index.ensures in
    let left : entries c.remove.new.self ≡ without k (arrivals s) = r.entries ∙ removed_is k (arrivals s) c.in_ok-at.at (apart-arrivals s) at in
    let value : Some c.remove.result ≡ find_in k (held_by_arrival s) = first_found (numbered k) (arrivals s) c.in_ok-at.at c.remove.result at r.value ∙ find-arranged k (arrivals s) (apart-arrivals s) in
    record {
      value = value;
      after = ap arranged left ∙ arranged-take k (arrivals s) (apart-arrivals s);
      size = refl;
      rows = when_some _ _ (find_in k (held_by_arrival s)) c.remove.result value (kept_rows s.orders c.remove.new.self r.rows);
      order = left;
    }
