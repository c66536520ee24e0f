use Rattle.std.proofs.Common.{sym, arith}
use Rattle.ticks.proofs.AnswersHold.{above-some}
use Rattle.tick_ladder.proofs.print_ladder.Goals as goal

pub loop-tick-smaller : goal.loop-tick-smaller
loop-tick-smaller g c =
    let a = above-some (g.R.TickRule.ticks c.args.rule.now) c.loop-tick.at c.in-Some.tick (sym c.in-Some.ensures) in
    omega (arith, a.3)
