use Rattle.std.proofs.Common.{[], ◌∷◌, ◌++◌, length, ap, ◌∙◌, arith}
use Rattle.calls.specs.Listed.{told}
use Rattle.opening.proofs.Going.{going_more, both-counted}
use Rattle.opening.proofs.runs.run_all.Goals as goal

pub note-requires : goal.note-requires
note-requires g c =
    let was = c.commands.invariant.1 in
    let r = c.commands.reader in
    let long = ap length c.commands.invariant.0 in
    omega (arith, was.1.few, was.1.accepts, was.1.refuses, both-counted was.0, c.requires, r.within)

pub commands-preserved : goal.commands-preserved
commands-preserved g c =
    let was = c.commands.invariant.1 in
    let said = c.in-Ok-Some.said in (
      ap (λ x. x.now) c.advance.ensures.tape ∙ c.commands.invariant.0,
      (
        was.0 ++ told said ∷ [],
        going_more g.R.TickRule g.S.OrderSheet c.args.tape.now c.args.book.now was.0 c.commands.reader.place _ c.commands.book _ c.commands.counts _ c.commands.reader.tape.now said was.1 c.commands.invariant.0
            (rw c.in-Ok-Some.field-0-is at c.in-Ok-Some.ensures.step)
            c.note.ensures.accepted
            c.note.ensures.refused,
      ),
    )
