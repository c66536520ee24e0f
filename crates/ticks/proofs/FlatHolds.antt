-- The flat rule in words.
use Rattle.std.proofs.Common.{◌-◌, ◌<◌, sym, ◌∙◌, mul-zero, arith}
use Rattle.std.proofs.lemmas.Grind.{common_steps}
use Rattle.ticks.specs.Ticks.{progression}
use Rattle.ticks.specs.FlatWords.{FlatConditions, FlatLadder}
use Rattle.ticks.specs.Evidence.{length-progression, slice_index-progression}
use Rattle.ticks.proofs.AnswersHold.{tick-place}
use Rattle.ticks.proofs.Progress.{tick-yes}

pub flat_conditions : FlatConditions
flat_conditions first step count = (λ e. grind (arith, common_steps), λ s. grind (arith, common_steps))

pub flat_ladder : FlatLadder
flat_ladder first step count s = record {
  only = λ p h.
      let k = tick-place (progression first step count) p h in
      let m : k.0 < count = omega (arith, k.1, length-progression first step count) in
      (k.0, m, sym k.2 ∙ slice_index-progression first step count k.0 m);
  each = λ p h. tick-yes first step count p h.0 (sym h.2) h.1;
  many = length-progression first step count;
  floor = slice_index-progression first step count 0 s.2 ∙ omega (arith, mul-zero step);
  ceiling = slice_index-progression first step count (count - 1) (omega arith);
}
