-- The flat rule: its ladder between two of its ticks, and the ticks next to one.
use Rattle.std.proofs.Common.{◌≡◌, ℕ, zero, suc, ◌+◌, ◌-◌, ◌*◌, ◌≤◌, Bool, true, false, List, [], ◌∷◌, ◌++◌, filter, refl, sym, ap, ◌∙◌, append-nil, mul-zero, mul-suc, mul-add, arith}
use Rattle.std.specs.List.{AllByRecursion}
use Rattle.std.proofs.ByRecursion.{All-weaker}
use Rattle.std.proofs.lemmas.Bool.{le-leb, lt-leb, and_from, and_left, and_right}
use Rattle.std.proofs.lemmas.List.Elements.{filter-append}
use Rattle.ticks.specs.Ticks.{progression}
use Rattle.ticks.proofs.Progress.{above-mid, above-high, below-low, below-mid}
use Rattle.pricing.specs.Ladder.{between}
use Rattle.pricing.specs.Flat.{FlatRun, FlatNeighbours}

-- the first a of the ticks, and the others
pub progression-cut : (f s a b : ℕ) → progression f s (a + b) ≡ progression f s a ++ progression (f + s * a) s b
progression-cut f s zero b =
    let e : 0 + b ≡ b = omega arith in
    let z : f + s * 0 ≡ f = omega (arith, mul-zero s) in
    rw (e, z) refl
progression-cut f s (suc a) b =
    let e : suc a + b ≡ suc (a + b) = omega arith in
    let z : f + s * suc a ≡ f + s + s * a = omega (arith, mul-suc s a) in
    rw (e, z) (ap (λ ts. f ∷ ts) (progression-cut (f + s) s a b))

-- each lies in the range of the first a
pub progression-range : (f s n : ℕ) → AllByRecursion (λ t. (f ≤ t) × (t + s ≤ f + s * n)) (progression f s n)
progression-range f s zero = tt
progression-range f s (suc n) =
    let z = mul-suc s n in (
      (omega arith, omega arith),
      All-weaker (λ t. (f + s ≤ t) × (t + s ≤ f + s + s * n)) (λ t. (f ≤ t) × (t + s ≤ f + s * suc n)) (λ t h. (omega (arith, h.0), omega (arith, h.1, z))) (progression (f + s) s n) (progression-range (f + s) s n),
    )

filter-all : (test : ℕ → Bool) (xs : List ℕ) → AllByRecursion (λ x. test x ≡ true) xs → filter test xs ≡ xs
filter-all test [] h = refl
filter-all test (x ∷ xs) h = rw h.0 (ap (λ ys. x ∷ ys) (filter-all test xs h.1))

filter-none : (test : ℕ → Bool) (xs : List ℕ) → AllByRecursion (λ x. test x ≡ false) xs → filter test xs ≡ []
filter-none test [] h = refl
filter-none test (x ∷ xs) h = rw h.0 (filter-none test xs h.1)

-- i ticks, then n from lo to hi, then r more
run-cut : (f s i n r lo hi : ℕ) → 1 ≤ s → lo ≡ f + s * i → hi + s ≡ lo + s * n → filter (between lo hi) (progression f s (i + (n + r))) ≡ progression lo s n
run-cut f s i n r lo hi pos el eh =
    let test : ℕ → Bool = between lo hi in
    let low : filter test (progression f s i) ≡ [] =
    filter-none test (progression f s i) (All-weaker (λ t. (f ≤ t) × (t + s ≤ f + s * i)) (λ t. test t ≡ false) (λ t h. and_left _ _ (lt-leb lo t (omega (arith, h.1)))) (progression f s i) (progression-range f s i)) in
    let mid : filter test (progression lo s n) ≡ progression lo s n =
    filter-all test (progression lo s n) (All-weaker (λ t. (lo ≤ t) × (t + s ≤ lo + s * n)) (λ t. test t ≡ true) (λ t h. and_from _ _ (le-leb lo t h.0) (le-leb t hi (omega (arith, h.1)))) (progression lo s n) (progression-range lo s n)) in
    let high : filter test (progression (lo + s * n) s r) ≡ [] =
    filter-none test (progression (lo + s * n) s r) (All-weaker (λ t. (lo + s * n ≤ t) × (t + s ≤ lo + s * n + s * r)) (λ t. test t ≡ false) (λ t h. and_right _ _ (lt-leb t hi (omega (arith, h.0)))) (progression (lo + s * n) s r) (progression-range (lo + s * n) s r)) in
    rw (progression-cut f s i (n + r), sym el, progression-cut lo s n r, filter-append test (progression f s i) (progression lo s n ++ progression (lo + s * n) s r), filter-append test (progression lo s n) (progression (lo + s * n) s r), low, mid, high) (append-nil _)

pub flat-run : FlatRun
flat-run first step count i n high pos l e =
    let all : count ≡ i + (n + (count - i - n)) = omega arith in
    let last : high + step ≡ first + step * i + step * n = omega (arith, e, mul-add step i n) in
    ap (λ c. filter (between (first + step * i) high) (progression first step c)) all
    ∙ run-cut first step i n (count - i - n) (first + step * i) high pos refl last

pub flat-neighbours : FlatNeighbours
flat-neighbours first step count pos some = (
  record {
    next = λ i l. below-mid first step count (first + step * (i + 1)) i (omega arith) (omega (arith, mul-add step i 1)) (omega arith);
    end = below-low first step count first (omega arith);
  },
  record {
    next = λ i l. above-mid first step count (first + step * i) i (omega arith) (omega (arith, mul-add step i 1)) l;
    end = above-high first step count (first + step * (count - 1)) (count - 1) (omega arith) (omega (arith, mul-add step (count - 1) 1)) (omega arith);
  },
)
