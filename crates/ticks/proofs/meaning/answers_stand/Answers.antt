use Rattle.ticks.proofs.AnswersHold.{admits-in-order, above-smallest, below-greatest}
use Rattle.ticks.proofs.meaning.answers_stand.Goals as goal

pub returns : goal.returns
returns c = record { admit = admits-in-order; above = above-smallest; below = below-greatest }
