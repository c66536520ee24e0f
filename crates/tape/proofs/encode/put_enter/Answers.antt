use Rattle.std.proofs.Common.{◌≡◌, ◌++◌, drop, ap, ◌∙◌, arith, rules}
use Rattle.tape.specs.Format.{encode, decode}
use Rattle.tape.specs.Views.{entered}
use Rattle.tape.proofs.Codec.{round_trip, eight}
use Rattle.tape.proofs.encode.put_enter.Goals as goal

pub returns-clause-after : goal.returns-clause-after
returns-clause-after c = let e = eight c.args.terms.now.account.now (omega arith) in search rules

pub returns-clause-back : goal.returns-clause-back
returns-clause-back c ok =
    let account = eight c.args.terms.now.account.now (omega arith) in
    let after : c.put.new.out ≡ encode (entered c.args.terms.now) ++ drop 19 c.args.out.now = search rules in
    ap decode after ∙ round_trip (entered c.args.terms.now) (drop 19 c.args.out.now) (omega arith, omega arith, omega arith)
