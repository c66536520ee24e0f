-- A row of numbers at equal distances: its places, and what the questions answer on it.
use Rattle.std.proofs.Common.{◌≡◌, ℕ, ◌+◌, ◌-◌, ◌*◌, ◌<◌, ◌≤◌, true, false, get_or, Some, None, ap, ◌∙◌, mul-le-mul_left, mul-zero, arith}
use native.Mathlib.Nat.{lt_of_mul-lt-mul_left}
use Rattle.ticks.specs.Ticks.{is_tick, first_above, last_below, progression}
use Rattle.ticks.specs.Evidence.{length-progression, slice_index-progression, at_place}
use Rattle.ticks.proofs.AtIndex.{first_above-at, first_above-none, last_below-at, last_below-none, is_tick-at, is_tick-none}

-- each place j of it holds a + s * j, and there are n
module _ (a s n : ℕ) where
  pub above_low : (p : ℕ) → 1 ≤ n → p < a → first_above (progression a s n) p ≡ Some a
  above_low p some low =
      let e : get_or (progression a s n) 0 0 ≡ a = slice_index-progression a s n 0 some ∙ omega (arith, mul-zero s) in
      first_above-at (progression a s n) 0 p (omega (arith, length-progression a s n)) (omega (arith, e)) (λ j l. absurd (omega arith)) ∙ ap Some e

  -- q is the quotient of p - a by s
  module _ (p q : ℕ) (under : a + s * q ≤ p) (over : p < a + s * (q + 1)) where
    pub above-mid : q + 1 < n → first_above (progression a s n) p ≡ Some (a + s * (q + 1))
    above-mid h =
        let e : get_or (progression a s n) (q + 1) 0 ≡ a + s * (q + 1) = slice_index-progression a s n (q + 1) h in
        first_above-at (progression a s n) (q + 1) p (omega (arith, length-progression a s n)) (omega (arith, e))
        (λ j l. at_place a s n (λ x. x ≤ p) j (omega (arith, length-progression a s n))
        (λ m. let k : j ≤ q = omega arith in omega (arith, mul-le-mul_left s k)))
        ∙ ap Some e

    pub above-high : n ≤ q + 1 → first_above (progression a s n) p ≡ None
    above-high h =
        first_above-none (progression a s n) p
        (λ j l. at_place a s n (λ x. x ≤ p) j l
        (λ m. let k : j ≤ q = omega arith in omega (arith, mul-le-mul_left s k)))

    pub tick-not : a + s * q < p → is_tick (progression a s n) p ≡ false
    tick-not strict =
        is_tick-none (progression a s n) p
        (λ j l. at_place a s n (λ x. x ≡ p → ⊥) j l
        (λ m e.
        let u : s * q < s * j = omega arith in
        let v : s * j < s * (q + 1) = omega arith in
        let x : q < j = lt_of_mul-lt-mul_left s u in
        let y : j < q + 1 = lt_of_mul-lt-mul_left s v in
        omega arith))

  pub tick-yes : (p q : ℕ) → a + s * q ≡ p → q < n → is_tick (progression a s n) p ≡ true
  tick-yes p q e h = is_tick-at (progression a s n) q p (omega (arith, length-progression a s n)) (slice_index-progression a s n q h ∙ e)

  pub below-low : (p : ℕ) → p ≤ a → last_below (progression a s n) p ≡ None
  below-low p low = last_below-none (progression a s n) p (λ j l. at_place a s n (λ x. p ≤ x) j l (λ m. omega arith))

  pub below-mid : (p k : ℕ) → k < n → a + s * k < p → p ≤ a + s * (k + 1) → last_below (progression a s n) p ≡ Some (a + s * k)
  below-mid p k h under over =
      let e : get_or (progression a s n) k 0 ≡ a + s * k = slice_index-progression a s n k h in
      last_below-at (progression a s n) k p (omega (arith, length-progression a s n)) (omega (arith, e))
      (λ j l m. at_place a s n (λ x. p ≤ x) j m
      (λ _. let t : k + 1 ≤ j = omega arith in omega (arith, mul-le-mul_left s t)))
      ∙ ap Some e

  pub below-high : (p : ℕ) → 1 ≤ n → a + s * (n - 1) < p → last_below (progression a s n) p ≡ Some (a + s * (n - 1))
  below-high p h under =
      let e : get_or (progression a s n) (n - 1) 0 ≡ a + s * (n - 1) = slice_index-progression a s n (n - 1) (omega arith) in
      last_below-at (progression a s n) (n - 1) p (omega (arith, length-progression a s n)) (omega (arith, e))
      (λ j l m. absurd (omega (arith, length-progression a s n)))
      ∙ ap Some e
