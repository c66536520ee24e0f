use Rattle.std.proofs.Common.{◌≡◌, ◌<◌, length, sym, ap, subst, arith}
use Rattle.ordered.specs.Meaning.{lent}
use Rattle.sheets.specs.Sides.{Sides, of_side, standing, take_from}
use Rattle.sheets.specs.Laws.{Free}
use Rattle.sheets.specs.Held.{held_by_priority}
use Rattle.sheets.specs.Evidence.{priority_laws}
use Rattle.sheets.proofs.Keeps.{taken_free, taken-place}
use Rattle.sheets.proofs.PriorityLists.{lists-kept, lists-further}
use Rattle.sheets.proofs.priority.PrioritySheet.accept.Goals as goal

pub add-requires : goal.add-requires
add-requires c =
    let s = c.args.self.now in
    let o = c.args.order in
    let e = c.remove.ensures.after in
    let same : length (of_side o.side (held_by_priority c.remove.new.self)) ≡ length (of_side o.side (take_from o.number (held_by_priority s))) = ap (λ (m : Sides). length (of_side o.side m)) e in
    let place : length (of_side o.side (take_from o.number (held_by_priority s))) < s.capacity = taken-place s.capacity o (held_by_priority s) (priority_laws s) c.requires in
    record {
      fresh = subst (λ (m : Sides). Free o.number (standing m)) (sym e) (taken_free o.number (held_by_priority s));
      place = omega (arith, c.remove.ensures.size);
    }

pub returns-clause-rows : goal.returns-clause-rows
returns-clause-rows c =
    let s = c.args.self.now in
    let r = c.remove.ensures in
    let a = c.add.ensures in
    let t = c.add.new.self in
    let k = lists-further s c.remove.new.self t r.spare a.spare a.longer in
    lists-kept (lent t.buys) (lent t.offers) s k.0 k.1
