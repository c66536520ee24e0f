-- The questions on two lists in a row.
use Rattle.std.proofs.Common.{◌≡◌, ℕ, Bool, cond, ◌||◌, ltb, List, [], ◌∷◌, ◌++◌, None, Option, refl, arith}
use Rattle.std.specs.Option.{option_or}
use Rattle.std.proofs.lemmas.Grind.{common_steps}
use Rattle.ticks.specs.Ticks.{is_tick, first_above, last_below, or_else}

pub above-append : (xs ys : List ℕ) (p : ℕ) → first_above (xs ++ ys) p ≡ option_or (first_above xs p) (first_above ys p)
above-append [] ys p = refl
above-append (x ∷ xs) ys p = let e = above-append xs ys p in grind (arith, common_steps)

or_none : (o : Option ℕ) → o ≡ option_or o None
or_none o = grind (arith, common_steps)

below_step : (b : Bool) (x : ℕ) (all one other : Option ℕ) → all ≡ option_or other one → cond b (or_else all x) all ≡ option_or other (cond b (or_else one x) one)
below_step b x all one other e = grind (arith, common_steps)

pub below-append : (xs ys : List ℕ) (p : ℕ) → last_below (xs ++ ys) p ≡ option_or (last_below ys p) (last_below xs p)
below-append [] ys p = or_none (last_below ys p)
below-append (x ∷ xs) ys p = below_step (ltb x p) x _ _ (last_below ys p) (below-append xs ys p)

pub tick-append : (xs ys : List ℕ) (p : ℕ) → is_tick (xs ++ ys) p ≡ (is_tick xs p || is_tick ys p)
tick-append [] ys p = refl
tick-append (x ∷ xs) ys p = let e = tick-append xs ys p in grind (arith, common_steps)
