use Rattle.std.proofs.Common.{◌≡◌, List, refl, ap, ◌∙◌, arith}
use Rattle.ordered.specs.Meaning.{held, lent}
use Rattle.ordered.specs.Sorting.{insert_by}
use Rattle.market.specs.declared.order.Order.{Order}
use Rattle.market.specs.declared.order.Side.{Side}
use Rattle.market.specs.declared.order.Side.TheVariants.{Buy, Offer}
use Rattle.sheets.specs.Sides.{outranks, with_side}
use Rattle.sheets.specs.Laws.{Bounded}
use Rattle.sheets.specs.Held.{held_by_priority}
use Rattle.sheets.specs.Evidence.{priority_laws}
use Rattle.sheets.proofs.Keeps.{still-added, added-at}
use Rattle.sheets.proofs.PriorityLists.{kept_same, place-at, longer}
use Rattle.sheets.proofs.priority.PrioritySheet.add.Goals as goal

pub invariant_of-self : goal.invariant_of-self
invariant_of-self c =
    let s = c.args.self.now in
    let o = c.args.order in
    let r = c.insert.ensures in
    let small : Bounded o = record { number = omega arith; price = omega arith; rank = omega arith; quantity = omega arith } in
    let held_is : held c.insert.new.self ≡ insert_by (outranks Buy) o (held s.buys) = r.held ∙ ap (λ (v : Side). insert_by (outranks v) o (held s.buys)) s.buys_by in
    record {
      buys_by = r.ranking ∙ s.buys_by;
      offers_by = s.offers_by;
      buys_rows = r.rows.size ∙ s.buys_rows;
      offers_rows = s.offers_rows;
      lawful = still-added Buy s.capacity o (held_by_priority s) (held c.insert.new.self) c.in-Buy.is small c.requires.fresh (place-at Buy o s c.in-Buy.is c.requires.place) (priority_laws s) held_is;
    }

pub returns-in-Buy : goal.returns-in-Buy
returns-in-Buy c =
    let s = c.args.self.now in
    let o = c.args.order in
    let r = c.insert.ensures in
    let held_is : held c.insert.new.self ≡ insert_by (outranks Buy) o (held s.buys) = r.held ∙ ap (λ (v : Side). insert_by (outranks v) o (held s.buys)) s.buys_by in
    record {
      after = ap (λ (xs : List Order). with_side Buy xs (held_by_priority s)) held_is ∙ added-at Buy o (held_by_priority s) c.in-Buy.is;
      size = refl;
      spare = (r.rows, kept_same (lent s.offers));
      longer = (longer (outranks Buy) o (lent s.buys) (lent c.insert.new.self) held_is, omega arith);
    }

pub invariant_of-self-in-Offer : goal.invariant_of-self-in-Offer
invariant_of-self-in-Offer c =
    let s = c.args.self.now in
    let o = c.args.order in
    let r = c.insert-in-Offer.ensures in
    let small : Bounded o = record { number = omega arith; price = omega arith; rank = omega arith; quantity = omega arith } in
    let held_is : held c.insert-in-Offer.new.self ≡ insert_by (outranks Offer) o (held s.offers) = r.held ∙ ap (λ (v : Side). insert_by (outranks v) o (held s.offers)) s.offers_by in
    record {
      buys_by = s.buys_by;
      offers_by = r.ranking ∙ s.offers_by;
      buys_rows = s.buys_rows;
      offers_rows = r.rows.size ∙ s.offers_rows;
      lawful = still-added Offer s.capacity o (held_by_priority s) (held c.insert-in-Offer.new.self) c.in-Offer.is small c.requires.fresh (place-at Offer o s c.in-Offer.is c.requires.place) (priority_laws s) held_is;
    }

pub returns-in-Offer : goal.returns-in-Offer
returns-in-Offer c =
    let s = c.args.self.now in
    let o = c.args.order in
    let r = c.insert-in-Offer.ensures in
    let held_is : held c.insert-in-Offer.new.self ≡ insert_by (outranks Offer) o (held s.offers) = r.held ∙ ap (λ (v : Side). insert_by (outranks v) o (held s.offers)) s.offers_by in
    record {
      after = ap (λ (xs : List Order). with_side Offer xs (held_by_priority s)) held_is ∙ added-at Offer o (held_by_priority s) c.in-Offer.is;
      size = refl;
      spare = (kept_same (lent s.buys), r.rows);
      longer = (omega arith, longer (outranks Offer) o (lent s.offers) (lent c.insert-in-Offer.new.self) held_is);
    }
