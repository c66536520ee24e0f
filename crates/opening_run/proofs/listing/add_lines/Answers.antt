use Rattle.std.proofs.Common.{◌≡◌, ◌+◌, [], ◌∷◌, ◌++◌, length, string_bytes, ap, ◌∙◌, sym, rules, arith, append_assoc}
use Rattle.calls.specs.Listed.{told}
use Rattle.opening.proofs.Going.{going_more, both-counted, one-counted}
use Rattle.opening_run.specs.Listing.{line, lines}
use Rattle.opening_run.proofs.Lines.{lines-push, lines-told}
use Rattle.opening_run.proofs.listing.add_lines.Goals as goal

pub note-requires : goal.note-requires
note-requires g c =
    let was = c.commands.invariant.1 in
    let r = c.commands.reader in
    let long = ap length c.commands.invariant.0 in
    omega (arith, was.1.few, was.1.accepts, was.1.refuses, both-counted was.0, c.requires, r.within)

pub overflow_add-counts : goal.overflow_add-counts
overflow_add-counts g c =
    let was = c.commands.invariant.1 in
    let r = c.commands.reader in
    let long = ap length c.commands.invariant.0 in
    omega (arith, c.requires, r.within, was.1.few, both-counted was.0, one-counted c.in-Ok-Some.said, was.1.accepts, was.1.refuses, c.note.ensures.accepted, c.note.ensures.refused)

pub commands-preserved : goal.commands-preserved
commands-preserved g c =
    let was = c.commands.invariant.1 in
    let said = c.in-Ok-Some.said in
    let ordinal = c.note.new.self.accepted + c.note.new.self.refused in
    let next : ordinal ≡ 1 + length was.0 = omega (arith, was.1.accepts, was.1.refuses, both-counted was.0, one-counted said, c.note.ensures.accepted, c.note.ensures.refused) in
    let before = string_bytes c.args.text.now in
    let more : before ++ lines 1 (was.0 ++ told said ∷ []) ≡ (before ++ lines 1 was.0) ++ line ordinal (told said) = grind (arith, append_assoc, lines-push 1 ordinal was.0 (told said) next) in (
      ap (λ x. x.now) c.advance.ensures.tape ∙ c.commands.invariant.0,
      (
        was.0 ++ told said ∷ [],
        going_more g.R.TickRule g.S.OrderSheet c.args.tape.now c.args.book.now was.0 c.commands.reader.place _ c.commands.book _ c.commands.counts _ c.commands.reader.tape.now said was.1 c.commands.invariant.0
            (rw c.in-Ok-Some.field-0-is at c.in-Ok-Some.ensures.step)
            c.note.ensures.accepted
            c.note.ensures.refused,
        c.in_ok-add_line-in-Ok-Some.ensures ∙ ap (λ t. t ++ line ordinal (told said)) was.2 ∙ sym more,
      ),
    )

pub returns-in-Ok-None : goal.returns-in-Ok-None
returns-in-Ok-None g c =
    let was = c.commands.invariant.1 in
    (search rules, lines-told was.1 (string_bytes c.args.text.now) was.2)

pub returns-in-Err : goal.returns-in-Err
returns-in-Err g c =
    let was = c.commands.invariant.1 in
    (search rules, lines-told was.1 (string_bytes c.args.text.now) was.2)
