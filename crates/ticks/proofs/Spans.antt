-- What the questions answer on the ticks of rows, and where a price lies there.
use Rattle.std.specs.List.{last_or, take_while}
use Rattle.std.proofs.lemmas.Grind.{common_steps}
use Rattle.std.proofs.Math.Nat.{mul-div-le, lt-mul-div-succ}
use Rattle.std.proofs.Common.{leb, length, Option, ◌≡◌, ℕ, zero, suc, ◌+◌, ◌-◌, ◌*◌, ◌/◌, ◌%◌, ◌<◌, ◌≤◌, true, false, eqb, List, [], ◌∷◌, ◌++◌, is_ok, Some, None, sym, refl, ap, ◌∙◌, ⊎_elim, mul-le-mul_left, mul-zero, mul-add, arith}
use native.Mathlib.Nat.{div-add-mod, lt_of_mul-lt-mul_left}
use Rattle.std.proofs.lemmas.Bool.{cases_lt, cases_eq}
use Rattle.ticks.specs.Ticks.{is_tick, first_above, last_below, progression}
use Rattle.ticks.specs.Evidence.{at_place}
use Rattle.ticks.proofs.AtIndex.{first_above-none, last_below-none, is_tick-none}
use Rattle.ticks.proofs.Progress.{above-mid, above-high as past_row, tick-yes, tick-not, below-mid}
use Rattle.ticks.specs.declared.row.Row.{Row}
use Rattle.ticks.specs.Rows.{start_of, stretch, ladder, row_at, load_check}
use Rattle.ticks.specs.Places.{Placed}
use Rattle.ticks.specs.declared.in_row.InRow.{InRow}
use Rattle.ticks.specs.declared.place.Place.TheVariants.{Before, Within, Past}
use Rattle.ticks.specs.Evidence.{Chain, found, climbs, climbs-least, tops, start-end}
use Rattle.ticks.proofs.Admits.{admit_before, admit_mid, admit_past}
use Rattle.ticks.proofs.Appends.{above-append, below-append, tick-append}

-- the answers at p, in the numbers of the row r
pub record At (r : Row) (ts : List ℕ) (end p : ℕ) : Type 0 where
  pub pos : 1 ≤ r.step
  pub low : r.start ≤ p
  pub up : r.start + r.step * ((p - r.start) / r.step + 1) ≤ end
  pub above : first_above ts p ≡ Some (r.start + r.step * ((p - r.start) / r.step + 1))
  pub tick : is_tick ts p ≡ eqb ((p - r.start) % r.step) 0
  pub below : (x : ℕ) → x ≡ p + 1 → last_below ts x ≡ Some (r.start + r.step * ((p - r.start) / r.step))

-- one row: n ticks from a, then others from a + s * n on
module _ (a s n p : ℕ) (ts : List ℕ) (pos' : 1 ≤ s) where
  -- p lies in the row
  module _ (lo : a ≤ p) (hi : p < a + s * n) where
    in_row : (p - a) / s < n
    in_row = let t : s * ((p - a) / s) < s * n = omega (arith, mul-div-le (p - a) s) in lt_of_mul-lt-mul_left s t

    under : a + s * ((p - a) / s) ≤ p
    under = omega (arith, mul-div-le (p - a) s)

    over : p < a + s * ((p - a) / s + 1)
    over = omega (arith, lt-mul-div-succ (p - a) pos')

    here-up : a + s * ((p - a) / s + 1) ≤ a + s * n
    here-up = let t : (p - a) / s + 1 ≤ n = omega (arith, in_row) in omega (arith, mul-le-mul_left s t)

    here-above : first_above ts p ≡ Some (a + s * n) → first_above (progression a s n ++ ts) p ≡ Some (a + s * ((p - a) / s + 1))
    here-above head =
        let e = above-append (progression a s n) ts p in
        ⊎_elim
        (λ l. let m = above-mid a s n p ((p - a) / s) under over l in grind (arith, common_steps))
        (λ l.
        let m = past_row a s n p ((p - a) / s) under over l in
        let same : n ≡ (p - a) / s + 1 = omega (arith, in_row) in
        grind (arith, common_steps))
        (cases_lt ((p - a) / s + 1) n)

    pub row-tick : is_tick (progression a s n) p ≡ eqb ((p - a) % s) 0
    row-tick =
        ⊎_elim
        (λ e. let t = tick-yes a s n p ((p - a) / s) (omega (arith, div-add-mod (p - a) s)) in_row in grind (arith, common_steps))
        (λ e. let t = tick-not a s n p ((p - a) / s) under over (omega (arith, div-add-mod (p - a) s)) in grind (arith, common_steps))
        (cases_eq ((p - a) % s) 0)

    pub here-tick : is_tick ts p ≡ false → is_tick (progression a s n ++ ts) p ≡ eqb ((p - a) % s) 0
    here-tick none =
        let e = tick-append (progression a s n) ts p in
        let m = row-tick in
        grind (arith, common_steps)

    here-below : (x : ℕ) → x ≡ p + 1 → last_below ts x ≡ None → last_below (progression a s n ++ ts) x ≡ Some (a + s * ((p - a) / s))
    here-below x e none =
        let f = below-append (progression a s n) ts x in
        let m = below-mid a s n x ((p - a) / s) in_row (omega (arith, under)) (omega (arith, over)) in
        grind (arith, common_steps)

  -- p lies past the row
  module _ (hi : a + s * n ≤ p) where
    there_above : first_above (progression a s n ++ ts) p ≡ first_above ts p
    there_above =
        let e = above-append (progression a s n) ts p in
        let m = first_above-none (progression a s n) p (λ j l. at_place a s n (λ x. x ≤ p) j l
        (λ m. let t : j ≤ n = omega arith in omega (arith, mul-le-mul_left s t))) in
        grind (arith, common_steps)

    pub there_tick : is_tick (progression a s n ++ ts) p ≡ is_tick ts p
    there_tick =
        let e = tick-append (progression a s n) ts p in
        let m = is_tick-none (progression a s n) p (λ j l. at_place a s n (λ x. x ≡ p → ⊥) j l
        (λ m e. let t : j + 1 ≤ n = omega arith in omega (arith, mul-le-mul_left s t, mul-add s j 1))) in
        grind (arith, common_steps)

  there_below : (x q : ℕ) → last_below ts x ≡ Some q → last_below (progression a s n ++ ts) x ≡ Some q
  there_below x q e = let f = below-append (progression a s n) ts x in grind (arith, common_steps)

  headed : p < a → (p < a + s * n → first_above ts p ≡ Some (a + s * n)) → first_above (progression a s n ++ ts) p ≡ Some a
  headed l f = head_of n f
    where
      head_of : (k : ℕ) → (p < a + s * k → first_above ts p ≡ Some (a + s * k)) → first_above (progression a s k ++ ts) p ≡ Some a
      head_of zero g = g (omega arith) ∙ ap Some (omega (arith, mul-zero s))
      head_of (suc k) g = grind (arith, common_steps)

-- from the first start on
pub above-first : (rs : List Row) (end p : ℕ) → Chain rs end → p < start_of rs end → first_above (ladder rs end) p ≡ Some (start_of rs end)
above-first [] end p c l = grind (arith, common_steps)
above-first (r ∷ rs) end p c l =
    headed r.start r.step _ p _ c.0 l (λ m. above-first rs end p c.3 (omega (arith, c.2)) ∙ ap Some (sym c.2))

pub tick-before : (rs : List Row) (end p : ℕ) → Chain rs end → p < start_of rs end → is_tick (ladder rs end) p ≡ false
tick-before rs end p c l = is_tick-none _ p (λ j m e. let k = climbs-least _ _ (climbs rs end c) j m in omega (arith, k))

pub below-first : (rs : List Row) (end p : ℕ) → Chain rs end → p ≤ start_of rs end → last_below (ladder rs end) p ≡ None
below-first rs end p c l = last_below-none _ p (λ j m. let k = climbs-least _ _ (climbs rs end c) j m in omega (arith, k))

-- at the end and past it
pub above-end : (rs : List Row) (end p : ℕ) → Chain rs end → end ≤ p → first_above (ladder rs end) p ≡ None
above-end rs end p c l = first_above-none _ p (λ j m. let k = tops rs end c j m in omega (arith, k))

pub tick-end : (rs : List Row) (end : ℕ) → is_tick (ladder rs end) end ≡ true
tick-end [] end = grind (arith, common_steps)
tick-end (r ∷ rs) end =
    let e = tick-append (stretch r (start_of rs end)) (ladder rs end) end in
    let m = tick-end rs end in
    grind (arith, common_steps)

pub below_end : (rs : List Row) (end p : ℕ) → end < p → last_below (ladder rs end) p ≡ Some end
below_end [] end p l = grind (arith, common_steps)
below_end (r ∷ rs) end p l =
    let e = below-append (stretch r (start_of rs end)) (ladder rs end) p in
    let m = below_end rs end p l in
    grind (arith, common_steps)

-- the rows that start at most at p
abbrev rows_to : List Row → ℕ → List Row
rows_to rs p = take_while (λ r. leb r.start p) rs

module _ (p : ℕ) where
  some_to : (r : Row) (rs : List Row) → r.start ≤ p → rows_to (r ∷ rs) p ≡ r ∷ rows_to rs p
  some_to r rs l = grind (arith, common_steps)

  none_to : (r : Row) (rs : List Row) → p < r.start → rows_to (r ∷ rs) p ≡ []
  none_to r rs l = grind (arith, common_steps)

  found_some : (r : Row) (rs : List Row) → last_or (Some r) rs ≡ None → ⊥
  found_some r [] e = cc
  found_some r (s ∷ rs) e = found_some s rs e

some_none : (r : Row) → ◌≡◌ {A = Option Row} None (Some r) → ⊥
some_none r e = cc

under_first : (rs : List Row) (end p : ℕ) → 1 ≤ length rs → row_at rs p ≡ None → p < start_of rs end
under_first [] end p h e = absurd (omega arith)
under_first (r ∷ rs) end p h e =
    ⊎_elim (λ l. l) (λ l. absurd (found_some p r (rows_to rs p) (sym (ap (last_or None) (some_to p r rs l)) ∙ e))) (cases_lt p r.start)

from_first : (rs : List Row) (end p : ℕ) (x : Row) → row_at rs p ≡ Some x → start_of rs end ≤ p
from_first [] end p x e = absurd (some_none x e)
from_first (r ∷ rs) end p x e =
    ⊎_elim (λ l. absurd (some_none x (sym (ap (last_or None) (none_to p r rs l)) ∙ e))) (λ l. l) (cases_lt p r.start)

-- between: the row where p lies answers
module _ (end p : ℕ) (more : p < end) where
  at_here : (r : Row) (rs : List Row) → Chain (r ∷ rs) end → r.start ≤ p → p < start_of rs end → At r (ladder (r ∷ rs) end) end p
  at_here r rs c lo hi =
      let n = (start_of rs end - r.start) / r.step in
      let hi' : p < r.start + r.step * n = omega (arith, c.2) in
      let ts = ladder rs end in
      record {
        pos = c.0;
        low = lo;
        up = omega (arith, here-up r.start r.step n p ts c.0 lo hi', c.2, start-end rs end c.3);
        above = here-above r.start r.step n p ts c.0 lo hi' (above-first rs end p c.3 hi ∙ ap Some (sym c.2));
        tick = here-tick r.start r.step n p ts c.0 lo hi' (tick-before rs end p c.3 hi);
        below = λ x e. here-below r.start r.step n p ts c.0 lo hi' x e (below-first rs end x c.3 (omega arith));
      }

  at_there : (r at : Row) (rs : List Row) → Chain (r ∷ rs) end → start_of rs end ≤ p → At at (ladder rs end) end p → At at (ladder (r ∷ rs) end) end p
  at_there r at rs c hi f =
      let n = (start_of rs end - r.start) / r.step in
      let hi' : r.start + r.step * n ≤ p = omega (arith, c.2) in
      let ts = ladder rs end in
      record {
        pos = f.pos;
        low = f.low;
        up = f.up;
        above = there_above r.start r.step n p ts c.0 hi' ∙ f.above;
        tick = there_tick r.start r.step n p ts c.0 hi' ∙ f.tick;
        below = λ x e. there_below r.start r.step n p ts c.0 x _ (f.below x e);
      }

  -- the last row from r on that starts at most at p
  at_row : (r : Row) (rs : List Row) → Chain (r ∷ rs) end → r.start ≤ p → (x : Row) × (last_or (Some r) (rows_to rs p) ≡ Some x) × At x (ladder (r ∷ rs) end) end p
  at_row r [] c lo = (r, refl, at_here r [] c lo more)
  at_row r (s ∷ rs) c lo =
      ⊎_elim
      (λ l. (r, ap (last_or (Some r)) (none_to p s rs l), at_here r (s ∷ rs) c lo l))
      (λ l.
      let k = at_row s rs c.3 l in
      (k.0, ap (last_or (Some r)) (some_to p s rs l) ∙ k.1, at_there r k.0 (s ∷ rs) c l k.2))
      (cases_lt p s.start)

  pub answers : (rs : List Row) (x : Row) → Chain rs end → row_at rs p ≡ Some x → At x (ladder rs end) end p
  answers [] x c e = absurd (some_none x e)
  answers (r ∷ rs) x c e =
      ⊎_elim
      (λ l. absurd (some_none x (sym (ap (last_or None) (none_to p r rs l)) ∙ e)))
      (λ l.
      let k = at_row r rs c l in
      let both = sym k.1 ∙ sym (ap (last_or None) (some_to p r rs l)) ∙ e in
      let same : x ≡ k.0 = cc both in
      rw same k.2)
      (cases_lt p r.start)

-- the place that the code finds
module _ (rs : List Row) (end : ℕ) (ok : is_ok (load_check rs end) ≡ true) (p : ℕ) where
  pub placed-before : row_at rs p ≡ None → Placed (ladder rs end) (start_of rs end) end p (Before (start_of rs end))
  placed-before e =
      let f = found rs end ok in
      let l = under_first rs end p f.some e in
      record {
        admits = admit_before _ _ _ p l;
        above = sym (above-first rs end p f.chain l);
        below = λ x e'. sym (below-first rs end x f.chain (omega arith));
      }

  pub answers-within : (r : Row) → row_at rs p ≡ Some r → p < end → At r (ladder rs end) end p
  answers-within r e m = answers end p m rs r (found rs end ok).chain e

  pub placed-within : (at : InRow) → row_at rs p ≡ Some at.row → at.price ≡ p → p < end → Placed (ladder rs end) (start_of rs end) end p (Within at)
  placed-within at e i m =
      let a = answers-within at.row e m in
      record {
        admits = rw i (admit_mid _ _ _ p (from_first rs end p at.row e) (omega arith) _ a.tick);
        above = rw i (sym a.above);
        below = λ x e'. rw i (sym (a.below x e'));
      }

  pub placed_past : end ≤ p → Placed (ladder rs end) (start_of rs end) end p (Past end p)
  placed_past l =
      let c = (found rs end ok).chain in
      record {
        admits = admit_past _ _ _ p (start-end rs end c) l (tick-end rs end);
        above = sym (above-end rs end p c l);
        below = λ x e. sym (below_end rs end x (omega arith));
      }
