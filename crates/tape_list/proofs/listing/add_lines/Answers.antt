use Rattle.std.proofs.Common.{arith, rules}
use Rattle.tape.specs.Views.{view}
use Rattle.tape.proofs.Sequence.{width_some}
use Rattle.tape_list.proofs.Lines.{told-more}
use Rattle.tape_list.proofs.listing.add_lines.Goals as goal

pub commands-preserved : goal.commands-preserved
commands-preserved c =
    let k = view c.in-Ok-Some.command in (
      search rules,
      grind (arith, width_some k),
      told-more _ _ _ _ _ c.commands.reader.place _ k c.commands.invariant.2 (search rules) (search rules) (search rules),
    )
