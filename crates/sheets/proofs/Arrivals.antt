-- What an edit of its orders leaves of an arrival sheet.
use Rattle.std.proofs.Common.{◌≡◌, true, false, List, ap, ◌∙◌}
use Rattle.ordered.specs.declared.lent.LentList.{LentList}
use Rattle.ordered.specs.Lent.{entries}
use Rattle.market.specs.declared.order.Order.{Order}
use Rattle.sheets.specs.declared.arrival.ArrivalSheet.{ArrivalSheet}
use Rattle.sheets.specs.Sides.{numbered, without, take_from, put_in, full}
use Rattle.sheets.specs.Rows.{arranged, put_of}
use Rattle.sheets.specs.Tests.{is_apart, is_sheet}
use Rattle.sheets.specs.Laws.{Apart, Bounded}
use Rattle.sheets.specs.Held.{arrivals, held_by_arrival}
use Rattle.sheets.specs.Evidence.{apart_from, arrival_laws}
use Rattle.sheets.proofs.Numbers.{apart-kept}
use Rattle.sheets.proofs.Keeps.{tested, take-lawful, put-lawful, apart-to}
use Rattle.sheets.proofs.Lines.{arranged-take, arranged-put, apart-put}

pub apart-arrivals : (s : ArrivalSheet) → Apart (arrivals s)
apart-arrivals s = apart_from (arrivals s) s.apart

module _ (s : ArrivalSheet) (l : LentList Order) where
  pub record Lawful : Type 0 where
    pub apart : is_apart (entries l) ≡ true
    pub sheet : is_sheet s.capacity (arranged (entries l)) ≡ true

  pub lawful_put : (o : Order) → full s.capacity o (held_by_arrival s) ≡ false → Bounded o → entries l ≡ put_of (numbered o.number) o (arrivals s) → Lawful
  lawful_put o f small e =
      record {
        apart = ap is_apart e ∙ apart-to (put_of (numbered o.number) o (arrivals s)) (apart-put o (arrivals s) (apart-arrivals s));
        sheet = ap (λ (xs : List Order). is_sheet s.capacity (arranged xs)) e ∙ ap (is_sheet s.capacity) (arranged-put o (arrivals s) (apart-arrivals s))
            ∙ tested s.capacity (put_in o (held_by_arrival s)) (put-lawful s.capacity o (held_by_arrival s) (arrival_laws s) small f);
      }

  pub lawful_take : (k : _) → entries l ≡ without k (arrivals s) → Lawful
  lawful_take k e =
      record {
        apart = ap is_apart e ∙ apart-to (without k (arrivals s)) (apart-kept k (arrivals s) (apart-arrivals s));
        sheet = ap (λ (xs : List Order). is_sheet s.capacity (arranged xs)) e ∙ ap (is_sheet s.capacity) (arranged-take k (arrivals s) (apart-arrivals s))
            ∙ tested s.capacity (take_from k (held_by_arrival s)) (take-lawful s.capacity k (held_by_arrival s) (arrival_laws s));
      }
