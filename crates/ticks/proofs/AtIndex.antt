-- What the questions on a list answer, by the place of the answer.
use Rattle.std.proofs.Common.{◌≡◌, ℕ, zero, suc, ◌<◌, ◌≤◌, true, false, List, [], ◌∷◌, length, get_or, Some, None, sym, refl, arith}
use Rattle.std.proofs.lemmas.Grind.{common_steps}
use Rattle.ticks.specs.Ticks.{is_tick, first_above, last_below}

pub first_above-at : (ts : List ℕ) (k p : ℕ) → k < length ts → p < get_or ts k 0 → ((j : ℕ) → j < k → get_or ts j 0 ≤ p) → first_above ts p ≡ Some (get_or ts k 0)
first_above-at [] k p h a b = absurd (omega arith)
first_above-at (t ∷ ts) zero p h a b = grind (arith, common_steps)
first_above-at (t ∷ ts) (suc k) p h a b =
    let e = first_above-at ts k p (omega arith) a (λ j l. b (suc j) (omega arith)) in
    let l = b 0 (omega arith) in
    grind (arith, common_steps)

pub first_above-none : (ts : List ℕ) (p : ℕ) → ((j : ℕ) → j < length ts → get_or ts j 0 ≤ p) → first_above ts p ≡ None
first_above-none [] p b = refl
first_above-none (t ∷ ts) p b =
    let e = first_above-none ts p (λ j l. b (suc j) (omega arith)) in
    let l = b 0 (omega arith) in
    grind (arith, common_steps)

pub last_below-none : (ts : List ℕ) (p : ℕ) → ((j : ℕ) → j < length ts → p ≤ get_or ts j 0) → last_below ts p ≡ None
last_below-none [] p b = refl
last_below-none (t ∷ ts) p b =
    let e = last_below-none ts p (λ j l. b (suc j) (omega arith)) in
    let l = b 0 (omega arith) in
    grind (arith, common_steps)

pub last_below-at : (ts : List ℕ) (k p : ℕ) → k < length ts → get_or ts k 0 < p → ((j : ℕ) → k < j → j < length ts → p ≤ get_or ts j 0) → last_below ts p ≡ Some (get_or ts k 0)
last_below-at [] k p h a b = absurd (omega arith)
last_below-at (t ∷ ts) zero p h a b =
    let e = last_below-none ts p (λ j l. b (suc j) (omega arith) (omega arith)) in
    grind (arith, common_steps)
last_below-at (t ∷ ts) (suc k) p h a b =
    let e = last_below-at ts k p (omega arith) a (λ j l m. b (suc j) (omega arith) (omega arith)) in
    grind (arith, common_steps)

pub is_tick-at : (ts : List ℕ) (k p : ℕ) → k < length ts → get_or ts k 0 ≡ p → is_tick ts p ≡ true
is_tick-at [] k p h e = absurd (omega arith)
is_tick-at (t ∷ ts) zero p h e = grind (arith, common_steps)
is_tick-at (t ∷ ts) (suc k) p h e =
    let f = is_tick-at ts k p (omega arith) e in
    grind (arith, common_steps)

pub is_tick-none : (ts : List ℕ) (p : ℕ) → ((j : ℕ) → j < length ts → get_or ts j 0 ≡ p → ⊥) → is_tick ts p ≡ false
is_tick-none [] p b = refl
is_tick-none (t ∷ ts) p b =
    let f = is_tick-none ts p (λ j l. b (suc j) (omega arith)) in
    let n = b 0 (omega arith) in
    grind (arith, common_steps)

-- nothing is smaller than 0
pub last_below-first : (ts : List ℕ) (p : ℕ) → p < 1 → None ≡ last_below ts p
last_below-first ts p h = sym (last_below-none ts p (λ j l. omega arith))
