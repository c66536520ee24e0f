use Rattle.std.proofs.Common.{List, ℕ, subst, ◌+◌, ◌-◌, ◌*◌}
use Rattle.ticks.specs.Places.{Placed}
use Rattle.ticks.proofs.OneRow.{load-one, ladder-one}
use Rattle.ticks.proofs.flat.Flat.place.Goals as goal

pub place-requires : goal.place-requires
place-requires c =
    let f = c.args.self.now in
    load-one f.first f.step f.count f.sound

pub returns : goal.returns
returns c =
    let f = c.args.self.now in
    subst (λ (ts : List ℕ). Placed ts f.first (f.first + f.step * (f.count - 1)) c.args.p c.place.result) (ladder-one f.first f.step f.count f.sound) c.place.ensures
