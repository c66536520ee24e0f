-- What admit answers under the floor, from floor to ceiling, and from the ceiling on.
use Rattle.std.proofs.Common.{◌≡◌, ℕ, ◌<◌, ◌≤◌, Bool, true, cond, eqb, List, Ok, Err, arith}
use Rattle.std.proofs.lemmas.Grind.{common_steps}
use Rattle.ticks.specs.declared.rule.Cause.TheVariants.{BelowFloor, AboveCeiling, OffTick}
use Rattle.ticks.specs.Ticks.{is_tick, admitted}

module _ (ts : List ℕ) (floor ceiling p : ℕ) where
  pub admit_before : p < floor → Err BelowFloor ≡ admitted ts floor ceiling p
  admit_before l = grind (arith, common_steps)

  pub admit_mid : floor ≤ p → p ≤ ceiling → (b : Bool) → is_tick ts p ≡ b → cond b (Ok tt) (Err OffTick) ≡ admitted ts floor ceiling p
  admit_mid l m b e = grind (arith, common_steps)

  pub admit_past : floor ≤ ceiling → ceiling ≤ p → is_tick ts ceiling ≡ true → cond (eqb p ceiling) (Ok tt) (Err AboveCeiling) ≡ admitted ts floor ceiling p
  admit_past l m e = grind (arith, common_steps)
