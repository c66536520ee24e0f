use Rattle.std.proofs.Common.{◌≡◌, ◌+◌, ◌<◌, length, refl, sym, ap, ◌∙◌, arith}
use Rattle.ordered.specs.Lent.{entries}
use Rattle.sheets.specs.Sides.{numbered}
use Rattle.sheets.specs.Rows.{arranged, put_of}
use Rattle.sheets.specs.Laws.{Bounded}
use Rattle.sheets.specs.Held.{arrivals}
use Rattle.sheets.specs.Evidence.{arrival_laws}
use Rattle.sheets.proofs.Numbers.{any-missing}
use Rattle.sheets.proofs.Places.{row_put, row-behind}
use Rattle.sheets.proofs.Lines.{arranged-put, place-rows}
use Rattle.sheets.proofs.Arrivals.{apart-arrivals, lawful_put}
use Rattle.sheets.proofs.Spares.{kept_rows}
use Rattle.sheets.proofs.arrival.ArrivalSheet.accept.Goals as goal

pub invariant_of-self : goal.invariant_of-self
invariant_of-self c =
    let s = c.args.self.now in
    let o = c.args.order in
    let r = c.set.ensures in
    let small : Bounded o = record { number = omega arith; price = omega arith; rank = omega arith; quantity = omega arith } in
    let l = lawful_put s c.set.new.self o c.requires small (r.entries ∙ row_put (numbered o.number) o (arrivals s) c.in-Some.at (sym c.in-Some.is ∙ c.index.ensures)) in
    record { both = r.rows.size ∙ s.both; apart = l.apart; lawful = l.sheet }

pub push-requires : goal.push-requires
push-requires c =
    let s = c.args.self.now in
    let o = c.args.order in
    let room : length (arrivals s) < s.capacity + s.capacity = place-rows s.capacity o (arrivals s) (arrival_laws s) c.requires (any-missing (numbered o.number) (arrivals s) (sym c.in-None.is ∙ c.index.ensures)) in
    omega (arith, room, s.both)

pub invariant_of-self-in-None : goal.invariant_of-self-in-None
invariant_of-self-in-None c =
    let s = c.args.self.now in
    let o = c.args.order in
    let r = c.push.ensures in
    let small : Bounded o = record { number = omega arith; price = omega arith; rank = omega arith; quantity = omega arith } in
    let l = lawful_put s c.push.new.self o c.requires small (r.entries ∙ row-behind (numbered o.number) o (arrivals s) (any-missing (numbered o.number) (arrivals s) (sym c.in-None.is ∙ c.index.ensures))) in
    record { both = r.rows.size ∙ s.both; apart = l.apart; lawful = l.sheet }

pub returns-in-Some : goal.returns-in-Some
returns-in-Some c =
    let s = c.args.self.now in
    let o = c.args.order in
    let r = c.set.ensures in
    let put : entries c.set.new.self ≡ put_of (numbered o.number) o (arrivals s) = r.entries ∙ row_put (numbered o.number) o (arrivals s) c.in-Some.at (sym c.in-Some.is ∙ c.index.ensures) in
    record { after = ap arranged put ∙ arranged-put o (arrivals s) (apart-arrivals s); size = refl; rows = kept_rows s.orders c.set.new.self r.rows; order = put }

pub returns-in-None : goal.returns-in-None
returns-in-None c =
    let s = c.args.self.now in
    let o = c.args.order in
    let r = c.push.ensures in
    let put : entries c.push.new.self ≡ put_of (numbered o.number) o (arrivals s) =
    r.entries ∙ row-behind (numbered o.number) o (arrivals s) (any-missing (numbered o.number) (arrivals s) (sym c.in-None.is ∙ c.index.ensures)) in
    record { after = ap arranged put ∙ arranged-put o (arrivals s) (apart-arrivals s); size = refl; rows = kept_rows s.orders c.push.new.self r.rows; order = put }
