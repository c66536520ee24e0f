-- The tally of rungs is the summary of their ticks.
use Rattle.std.proofs.Common.{◌≡◌, ℕ, refl, arith}
use Rattle.std.proofs.lemmas.Grind.{common_steps}
use Rattle.pricing.specs.Pricing.{Interest, Summary, alone, next_summary}
use Rattle.pricing.specs.Tallies.{rung_at, tally_of, alone_of, next_of}

pub alone-tallied : (m : Interest) (t : ℕ) → alone_of (rung_at m t) ≡ tally_of m (alone m t)
alone-tallied m t = refl

pub next-tallied : (m : Interest) (s : Summary) (t : ℕ) → next_of m.reference (tally_of m s) (rung_at m t) ≡ tally_of m (next_summary m s t)
next-tallied m s t = grind (arith, common_steps)
