use Rattle.std.proofs.Common.{rules}
use Rattle.std.proofs.lemmas.Fn.{always_returns_same}
use Rattle.sheets.specs.Sides.{numbered}
use Rattle.sheets.proofs.lists.index.Goals as goal

pub returns : goal.returns
returns c = c.position.ensures (numbered c.args.number) (always_returns_same _ _ _ (λ a r f' q. (search rules, search rules)))
