use Rattle.std.proofs.Common.{◌≡◌, ◌++◌, drop, Ok, sym, ap, ◌∙◌, arith, rules}
use Rattle.tape.specs.Format.{amend, encode, decode}
use Rattle.tape.specs.Views.{view}
use Rattle.tape.proofs.Codec.{round_trip}
use Rattle.tape.proofs.encode.write.Goals as goal

pub returns-in-Amend-clause-back : goal.returns-in-Amend-clause-back
returns-in-Amend-clause-back c ok =
    let r = amend c.in-Amend.number c.in-Amend.price c.in-Amend.quantity in
    let after : c.put-in-Amend.new.out ≡ encode r ++ drop 13 c.args.out.now = search rules in
    ap decode after ∙ round_trip r (drop 13 c.args.out.now) (omega arith, omega arith, omega arith) ∙ ap (λ k. Ok (view k)) (sym c.in-Amend.is)
