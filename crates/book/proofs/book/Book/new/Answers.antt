use Rattle.std.proofs.Common.{None, refl, ap}
use Rattle.calls.specs.declared.call.Phase.TheVariants.{Shut}
use Rattle.sheets.specs.Sides.{Sides}
use Rattle.book.proofs.Clears.{all-spare}
use Rattle.book.proofs.book.Book.new.Goals as goal

pub returns : goal.returns
returns g c =
    let m = g.S.OrderSheet in
    let s = c.clear.new.sheet in
    record {
      state = ap (λ (x : Sides). record { phase = Shut; prior = 0; last = None; used = 0; sides = x }) c.clear.ensures.after;
      rule = refl;
      size = c.clear.ensures.size;
      rows = c.clear.ensures.rows;
      spare = all-spare (m.rows s) (m.meaning s) (m.stored s) c.clear.ensures.after;
    }
