-- The three answers in words.
use Rattle.std.proofs.Common.{◌≡◌, ℕ, zero, suc, ◌<◌, ◌≤◌, cond, eqb, ltb, List, [], ◌∷◌, length, get_or, Some, None, Option, refl, ap, ⊎_elim, arith, MatchOption}
use Rattle.std.proofs.lemmas.Bool.{eqb-true, cases_lt, cases_order, or_cases}
use Rattle.std.proofs.lemmas.Grind.{common_steps}
use Rattle.ticks.specs.Ticks.{first_above, last_below, or_else, Rising}
use Rattle.ticks.specs.Questions.{Tick, SmallestAbove, GreatestBelow, AboveIsSmallest, BelowIsGreatest, AdmitsInOrder}
use Rattle.ticks.proofs.AtIndex.{is_tick-at}

-- a tick stands at a place of the list
pub tick-place : (ts : List ℕ) (t : ℕ) → Tick ts t → (k : ℕ) × (k < length ts) × (get_or ts k 0 ≡ t)
tick-place [] t e = cc
tick-place (x ∷ xs) t e =
    ⊎_elim
    (λ a. (0, omega arith, eqb-true x t a))
    (λ b. let r = tick-place xs t b in (suc r.0, omega (arith, r.1), r.2))
    (or_cases (eqb x t) _ e)

-- the tick above p: its place, and what stands before it
pub above-some : (ts : List ℕ) (p q : ℕ) → first_above ts p ≡ Some q → (k : ℕ) × (k < length ts) × (get_or ts k 0 ≡ q) × (p < q) × ((j : ℕ) → j < k → get_or ts j 0 ≤ p)
above-some [] p q e = cc
above-some (t ∷ ts) p q e =
    ⊎_elim
    (λ l. let m : t ≡ q = grind (arith, common_steps) in (0, omega arith, m, omega arith, λ j h. absurd (omega arith)))
    (λ l.
    let m : first_above ts p ≡ Some q = grind (arith, common_steps) in
    let r = above-some ts p q m in
    (suc r.0, omega (arith, r.1), r.2, r.3, before t ts p r.0 l r.4))
    (cases_lt p t)
  where
    before : (t : ℕ) (ts : List ℕ) (p k : ℕ) → t ≤ p → ((j : ℕ) → j < k → get_or ts j 0 ≤ p) → (j : ℕ) → j < suc k → get_or (t ∷ ts) j 0 ≤ p
    before t ts p k l f zero h = l
    before t ts p k l f (suc j) h = f j (omega arith)

pub above-none : (ts : List ℕ) (p : ℕ) → first_above ts p ≡ None → (j : ℕ) → j < length ts → get_or ts j 0 ≤ p
above-none [] p e j h = absurd (omega arith)
above-none (t ∷ ts) p e zero h = grind (arith, common_steps)
above-none (t ∷ ts) p e (suc j) h =
    let m : first_above ts p ≡ None = grind (arith, common_steps) in
    above-none ts p m j (omega arith)

above-by : (ts : List ℕ) (p : ℕ) (r : Option ℕ) → Rising ts → first_above ts p ≡ r → MatchOption r ((t : ℕ) → Tick ts t → t ≤ p) (λ q. SmallestAbove ts p q)
above-by ts p None up e = λ t h. let k = tick-place ts t h in omega (arith, k.2, above-none ts p e k.0 k.1)
above-by ts p (Some q) up e =
    let a = above-some ts p q e in
    record {
      tick = is_tick-at ts a.0 q a.1 a.2;
      greater = a.3;
      smallest = λ t h more.
          let k = tick-place ts t h in
          ⊎_elim
          (λ same. omega (arith, a.2, k.2, ap (λ i. get_or ts i 0) same))
          (λ apart. ⊎_elim
          (λ low. omega (arith, k.2, a.4 k.0 low))
          (λ high. omega (arith, a.2, k.2, up a.0 k.0 high k.1))
          apart)
          (cases_order k.0 a.0);
    }

pub above-smallest : AboveIsSmallest
above-smallest ts floor ceiling l p = above-by ts p (first_above ts p) l.rising refl

-- the tick below p: its place, and what stands after it
pub below_none : (ts : List ℕ) (p : ℕ) → last_below ts p ≡ None → (j : ℕ) → j < length ts → p ≤ get_or ts j 0
below_none [] p e j h = absurd (omega arith)
below_none (t ∷ ts) p e zero h = grind (arith, common_steps)
below_none (t ∷ ts) p e (suc j) h =
    let m : last_below ts p ≡ None = grind (arith, common_steps) in
    below_none ts p m j (omega arith)

-- the place k of q in a list: it is smaller than p, and what stands after it is not
abbrev pub Last : List ℕ → ℕ → ℕ → Type 0
Last ts p q = (k : ℕ) × (k < length ts) × (get_or ts k 0 ≡ q) × (q < p) × ((j : ℕ) → k < j → j < length ts → p ≤ get_or ts j 0)

some_at : (t p q : ℕ) (ts : List ℕ) (o : Option ℕ) → (o ≡ Some q → Last ts p q) → (o ≡ None → (j : ℕ) → j < length ts → p ≤ get_or ts j 0) → cond (ltb t p) (or_else o t) o ≡ Some q → Last (t ∷ ts) p q
some_at t p q ts (Some y) f g e =
    let r = f (grind (arith, common_steps)) in
    (suc r.0, omega (arith, r.1), r.2, r.3, λ j a b. after t ts p r.0 r.4 j a b)
  where
    after : (t : ℕ) (ts : List ℕ) (p k : ℕ) → ((j : ℕ) → k < j → j < length ts → p ≤ get_or ts j 0) → (j : ℕ) → suc k < j → j < length (t ∷ ts) → p ≤ get_or (t ∷ ts) j 0
    after t ts p k f zero a b = absurd (omega arith)
    after t ts p k f (suc j) a b = f j (omega arith) (omega arith)
some_at t p q ts None f g e =
    let m : t ≡ q = grind (arith, common_steps) in
    let l : t < p = grind (arith, common_steps) in
    (0, omega arith, m, omega arith, after t ts p (g refl))
  where
    after : (t : ℕ) (ts : List ℕ) (p : ℕ) → ((j : ℕ) → j < length ts → p ≤ get_or ts j 0) → (j : ℕ) → 0 < j → j < length (t ∷ ts) → p ≤ get_or (t ∷ ts) j 0
    after t ts p f zero a b = absurd (omega arith)
    after t ts p f (suc j) a b = f j (omega arith)

pub below-some : (ts : List ℕ) (p q : ℕ) → last_below ts p ≡ Some q → Last ts p q
below-some [] p q e = cc
below-some (t ∷ ts) p q e = some_at t p q ts (last_below ts p) (below-some ts p q) (below_none ts p) e

below_by : (ts : List ℕ) (p : ℕ) (r : Option ℕ) → Rising ts → last_below ts p ≡ r → MatchOption r ((t : ℕ) → Tick ts t → p ≤ t) (λ q. GreatestBelow ts p q)
below_by ts p None up e = λ t h. let k = tick-place ts t h in omega (arith, k.2, below_none ts p e k.0 k.1)
below_by ts p (Some q) up e =
    let a = below-some ts p q e in
    record {
      tick = is_tick-at ts a.0 q a.1 a.2;
      smaller = a.3;
      greatest = λ t h less.
          let k = tick-place ts t h in
          ⊎_elim
          (λ same. omega (arith, a.2, k.2, ap (λ i. get_or ts i 0) same))
          (λ apart. ⊎_elim
          (λ low. omega (arith, a.2, k.2, up k.0 a.0 low a.1))
          (λ high. omega (arith, k.2, a.4 k.0 high k.1))
          apart)
          (cases_order k.0 a.0);
    }

pub below-greatest : BelowIsGreatest
below-greatest ts floor ceiling l p = below_by ts p (last_below ts p) l.rising refl

-- admit
pub admits-in-order : AdmitsInOrder
admits-in-order ts floor ceiling p = grind (arith, common_steps)
