-- The pass keeps a summary of what it has seen, and its answer is the one tick that passes steps 1 to 3.
use Rattle.std.proofs.Common.{◌≡◌, ℕ, ◌<◌, ◌≤◌, min, max, true, false, cond, ◌&&◌, ◌||◌, ◌⊎◌, List, [], ◌∷◌, ◌==◌, nat_lt, refl, subst, inl, inr, ⊎_elim, arith}
use Rattle.std.proofs.lemmas.Bool.{cond_both, cases_lt, and_cases, and_parts, ltb-true, ltb-false}
use Rattle.std.proofs.lemmas.Bool.Decides.{nat_tests}
use Rattle.ticks.specs.Questions.{Tick}
use Rattle.pricing.specs.Pricing.{Interest, volume, excess, Least, AllPositive, AllNegative, NearerOrLower, Chosen, Summary, alone, nearer, with_tick, beats, ties, next_summary, sweep, answer, PriceIsChosen, PriceIsOnly}
use Rattle.pricing.proofs.Rungs.{tick-cases, tick-from, tick-none}

-- what a summary says of a tick that was seen and has the summary's volume and imbalance
pub record RankedIn (m : Interest) (s : Summary) (u : ℕ) : Type 0 where
  pub above : s.low ≤ u
  pub below : u ≤ s.high
  pub farther : NearerOrLower m.reference s.near u
  pub positive : s.positive ≡ true → m.supply u < m.demand u
  pub negative : s.negative ≡ true → m.demand u < m.supply u

-- u has the summary's volume and imbalance
abbrev pub Tied : Interest → Summary → ℕ → Type 0
Tied m s u = (volume m u ≡ s.best) × (excess m u ≡ s.least)

-- s sums up what was Seen
pub record SumsUp (m : Interest) (Seen : ℕ → Type 0) (s : Summary) : Type 0 where
  pub most : (u : ℕ) → Seen u → volume m u ≤ s.best
  pub least : (u : ℕ) → Seen u → volume m u ≡ s.best → s.least ≤ excess m u
  pub ranked : (u : ℕ) → Seen u → Tied m s u → RankedIn m s u
  pub low_seen : Seen s.low × Tied m s s.low
  pub high_seen : Seen s.high × Tied m s s.high
  pub near_seen : Seen s.near × Tied m s s.near
  pub not_positive : s.positive ≡ false → (u : ℕ) × Seen u × Tied m s u × (m.demand u ≤ m.supply u)
  pub not_negative : s.negative ≡ false → (u : ℕ) × Seen u × Tied m s u × (m.supply u ≤ m.demand u)

pub min-either : (P : ℕ → Type 0) (a b : ℕ) → P a → P b → P (min a b)
min-either P a b p q = elim (cases_lt a b) [ inl l ↦ (let e : min a b ≡ a = omega arith in rw e p) | inr l ↦ (let e : min a b ≡ b = omega arith in rw e q) ]

pub max-either : (P : ℕ → Type 0) (a b : ℕ) → P a → P b → P (max a b)
max-either P a b p q = elim (cases_lt a b) [ inl l ↦ (let e : max a b ≡ b = omega arith in rw e q) | inr l ↦ (let e : max a b ≡ a = omega arith in rw e p) ]

-- what a comparison by two numbers tells
won : (x y t s : ℕ) → (nat_lt x y || (x == y && nat_lt t s)) ≡ true → (x < y) ⊎ ((x ≡ y) × (t ≤ s))
won x y t s h = grind (arith, nat_tests)

lost : (x y t s : ℕ) → (nat_lt x y || (x == y && nat_lt t s)) ≡ false → (y < x) ⊎ ((y ≡ x) × (s ≤ t))
lost x y t s h = grind (arith, nat_tests)

worse-by : (v w x y : ℕ) → (nat_lt w v || (v == w && nat_lt x y)) ≡ false → (v == w && x == y) ≡ false → (v < w) ⊎ ((v ≡ w) × (y < x))
worse-by v w x y b c = grind (arith, nat_tests)

module _ (m : Interest) where
  ranked-alone : (t : ℕ) → RankedIn m (alone m t) t
  ranked-alone t = record { above = omega arith; below = omega arith; farther = inr (refl, omega arith); positive = λ h. grind (arith, nat_tests); negative = λ h. grind (arith, nat_tests) }

  sums-alone : (t : ℕ) → SumsUp m (λ u. t ≡ u) (alone m t)
  sums-alone t =
      record {
        most = λ u e. rw e (omega arith);
        least = λ u e v. rw e (omega arith);
        ranked = λ u e v. subst (RankedIn m (alone m t)) e (ranked-alone t);
        low_seen = (refl, (refl, refl));
        high_seen = (refl, (refl, refl));
        near_seen = (refl, (refl, refl));
        not_positive = λ h. (t, refl, (refl, refl), grind (arith, nat_tests));
        not_negative = λ h. (t, refl, (refl, refl), grind (arith, nat_tests));
      }

  nearer-both : (reference s t : ℕ) → NearerOrLower reference (nearer reference s t) s × NearerOrLower reference (nearer reference s t) t
  nearer-both reference s t = cond_both _ t s (λ n. NearerOrLower reference n s × NearerOrLower reference n t) (λ h. (won _ _ t s h, inr (refl, omega arith))) (λ h. (inr (refl, omega arith), lost _ _ t s h))

  nearest-trans : (reference a b c : ℕ) → NearerOrLower reference a b → NearerOrLower reference b c → NearerOrLower reference a c
  nearest-trans reference a b c (inl p) (inl q) = inl (omega arith)
  nearest-trans reference a b c (inl p) (inr q) = inl (omega arith)
  nearest-trans reference a b c (inr p) (inl q) = inl (omega arith)
  nearest-trans reference a b c (inr p) (inr q) = inr (omega arith)

  nearest-same : (reference a b : ℕ) → NearerOrLower reference a b → NearerOrLower reference b a → a ≡ b
  nearest-same reference a b p q = omega arith

  module _ (Seen : ℕ → Type 0) (s : Summary) (S : SumsUp m Seen s) (t : ℕ) where
    abbrev More : ℕ → Type 0
    More u = Seen u ⊎ (t ≡ u)

    beaten : beats m s t ≡ true → (u : ℕ) → Seen u → (volume m u < volume m t) ⊎ ((volume m u ≡ volume m t) × (excess m t < excess m u))
    beaten b u h = let k = S.most u h in let l = S.least u h in grind (arith, nat_tests)

    sums-beaten : beats m s t ≡ true → SumsUp m More (alone m t)
    sums-beaten b =
        record {
          most = λ u. elim [ inl h ↦ omega (arith, beaten b u h) | inr e ↦ rw e (omega arith) ];
          least = λ u. elim [ inl h ↦ (λ v. omega (arith, beaten b u h)) | inr e ↦ (λ v. rw e (omega arith)) ];
          ranked = λ u. elim [ inl h ↦ (λ v. absurd (omega (arith, beaten b u h, v))) | inr e ↦ (λ v. subst (RankedIn m (alone m t)) e (ranked-alone t)) ];
          low_seen = (inr refl, (refl, refl));
          high_seen = (inr refl, (refl, refl));
          near_seen = (inr refl, (refl, refl));
          not_positive = λ h. (t, inr refl, (refl, refl), grind (arith, nat_tests));
          not_negative = λ h. (t, inr refl, (refl, refl), grind (arith, nat_tests));
        }

    tied : ties m s t ≡ true → Tied m s t
    tied h = grind (arith, nat_tests)

    worse : beats m s t ≡ false → ties m s t ≡ false → (volume m t < s.best) ⊎ ((volume m t ≡ s.best) × (s.least < excess m t))
    worse b c = worse-by (volume m t) s.best (excess m t) s.least b c

    sums-joined : ties m s t ≡ true → SumsUp m More (with_tick m s t)
    sums-joined b =
        record {
          most = λ u. elim [ inl h ↦ S.most u h | inr e ↦ rw (← e) (omega (arith, tied b)) ];
          least = λ u. elim [ inl h ↦ S.least u h | inr e ↦ rw (← e) (λ v. omega (arith, tied b)) ];
          ranked = λ u. elim [ inl h ↦ (λ v. older u (S.ranked u h v)) | inr e ↦ (λ v. subst (RankedIn m (with_tick m s t)) e newer) ];
          low_seen = min-either (λ n. More n × Tied m s n) s.low t (inl S.low_seen.0, S.low_seen.1) (inr refl, tied b);
          high_seen = max-either (λ n. More n × Tied m s n) s.high t (inl S.high_seen.0, S.high_seen.1) (inr refl, tied b);
          near_seen = cond_both _ t s.near (λ n. More n × Tied m s n) (λ _. (inr refl, tied b)) (λ _. (inl S.near_seen.0, S.near_seen.1));
          not_positive = λ h. elim (and_cases s.positive _ h) [ inl k ↦ (let w = S.not_positive k in (w.0, inl w.1, w.2, w.3)) | inr k ↦ (t, inr refl, tied b, ltb-false _ _ k) ];
          not_negative = λ h. elim (and_cases s.negative _ h) [ inl k ↦ (let w = S.not_negative k in (w.0, inl w.1, w.2, w.3)) | inr k ↦ (t, inr refl, tied b, ltb-false _ _ k) ];
        }
      where
        older : (u : ℕ) → RankedIn m s u → RankedIn m (with_tick m s t) u
        older u r =
            record {
              above = omega (arith, r.above);
              below = omega (arith, r.below);
              farther = nearest-trans m.reference _ s.near u (nearer-both m.reference s.near t).0 r.farther;
              positive = λ h. r.positive (and_parts s.positive _ h).0;
              negative = λ h. r.negative (and_parts s.negative _ h).0;
            }

        newer : RankedIn m (with_tick m s t) t
        newer =
            record {
              above = omega arith;
              below = omega arith;
              farther = (nearer-both m.reference s.near t).1;
              positive = λ h. ltb-true _ _ (and_parts s.positive _ h).1;
              negative = λ h. ltb-true _ _ (and_parts s.negative _ h).1;
            }

    sums-kept : beats m s t ≡ false → ties m s t ≡ false → SumsUp m More s
    sums-kept b c =
        record {
          most = λ u. elim [ inl h ↦ S.most u h | inr e ↦ rw (← e) (omega (arith, worse b c)) ];
          least = λ u. elim [ inl h ↦ S.least u h | inr e ↦ rw (← e) (λ v. omega (arith, worse b c)) ];
          ranked = λ u. elim [ inl h ↦ S.ranked u h | inr e ↦ rw (← e) (λ v. absurd (omega (arith, worse b c, v))) ];
          low_seen = (inl S.low_seen.0, S.low_seen.1);
          high_seen = (inl S.high_seen.0, S.high_seen.1);
          near_seen = (inl S.near_seen.0, S.near_seen.1);
          not_positive = λ h. let w = S.not_positive h in (w.0, inl w.1, w.2, w.3);
          not_negative = λ h. let w = S.not_negative h in (w.0, inl w.1, w.2, w.3);
        }

    sums-next : SumsUp m More (next_summary m s t)
    sums-next = cond_both (beats m s t) (alone m t) (cond (ties m s t) (with_tick m s t) s) (SumsUp m More) sums-beaten (λ b. cond_both (ties m s t) (with_tick m s t) s (SumsUp m More) sums-joined (sums-kept b))

  sums-like : (P Q : ℕ → Type 0) (s : Summary) → ((u : ℕ) → P u → Q u) → ((u : ℕ) → Q u → P u) → SumsUp m P s → SumsUp m Q s
  sums-like P Q s to from S =
      record {
        most = λ u h. S.most u (from u h);
        least = λ u h. S.least u (from u h);
        ranked = λ u h. S.ranked u (from u h);
        low_seen = (to _ S.low_seen.0, S.low_seen.1);
        high_seen = (to _ S.high_seen.0, S.high_seen.1);
        near_seen = (to _ S.near_seen.0, S.near_seen.1);
        not_positive = λ h. let w = S.not_positive h in (w.0, to _ w.1, w.2, w.3);
        not_negative = λ h. let w = S.not_negative h in (w.0, to _ w.1, w.2, w.3);
      }

  pub sums-sweep : (P : ℕ → Type 0) (s : Summary) (ts : List ℕ) → SumsUp m P s → SumsUp m (λ u. P u ⊎ Tick ts u) (sweep m s ts)
  sums-sweep P s [] S =
      sums-like P (λ u. P u ⊎ Tick [] u) s (λ u h. inl h) (λ u. ⊎_elim (λ h. h) (λ h. absurd (tick-none u h))) S
  sums-sweep P s (t ∷ ts) S =
      sums-like (λ u. (P u ⊎ (t ≡ u)) ⊎ Tick ts u) (λ u. P u ⊎ Tick (t ∷ ts) u) (sweep m s (t ∷ ts))
      (λ u. ⊎_elim (⊎_elim (λ h. inl h) (λ e. inr (tick-from t ts u (inl e)))) (λ h. inr (tick-from t ts u (inr h))))
      (λ u. ⊎_elim (λ h. inl (inl h)) (λ k. ⊎_elim (λ e. inl (inr e)) (λ h. inr h) (tick-cases t ts u k)))
      (sums-sweep (λ u. P u ⊎ (t ≡ u)) (next_summary m s t) ts (sums-next P s S t))

  pub sums-price : (t : ℕ) (ts : List ℕ) → SumsUp m (Tick (t ∷ ts)) (sweep m (alone m t) ts)
  sums-price t ts =
      sums-like (λ u. (t ≡ u) ⊎ Tick ts u) (Tick (t ∷ ts)) (sweep m (alone m t) ts) (tick-from t ts) (tick-cases t ts) (sums-sweep (λ u. t ≡ u) (alone m t) ts (sums-alone t))

  -- ---- what a summary answers
  module _ (Candidate : ℕ → Type 0) (s : Summary) (S : SumsUp m Candidate s) where
    to-least : (u : ℕ) → Candidate u → Tied m s u → Least m Candidate u
    to-least u c k = ((c, λ w d. omega (arith, S.most w d, k)), λ w d. omega (arith, S.least w d.0 (omega (arith, S.most w d.0, d.1 u c, k)), k))

    from-least : (u : ℕ) → Least m Candidate u → Tied m s u
    from-least u l =
        let low = S.low_seen in
        let v : volume m u ≡ s.best = omega (arith, S.most u l.0.0, l.0.1 s.low low.0, low.1) in
        let w = to-least s.low low.0 low.1 in
        (v, omega (arith, S.least u l.0.0 v, l.1 s.low w.0, low.1))

    rank : (u : ℕ) → Least m Candidate u → RankedIn m s u
    rank u l = S.ranked u l.0.0 (from-least u l)

    chosen-high : s.positive ≡ true → Chosen m Candidate s.high
    chosen-high b =
        let kept = to-least s.high S.high_seen.0 S.high_seen.1 in
        record {
          kept = kept;
          highest = λ _ u l. (rank u l).below;
          lowest = λ h. absurd (omega (arith, h s.high kept, (rank s.high kept).positive b));
          nearest = λ h. absurd (h (λ u l. (rank u l).positive b));
        }

    chosen-low : s.negative ≡ true → Chosen m Candidate s.low
    chosen-low b =
        let kept = to-least s.low S.low_seen.0 S.low_seen.1 in
        record {
          kept = kept;
          highest = λ h. absurd (omega (arith, h s.low kept, (rank s.low kept).negative b));
          lowest = λ _ u l. (rank u l).above;
          nearest = λ _ h. absurd (h (λ u l. (rank u l).negative b));
        }

    chosen-near : s.positive ≡ false → s.negative ≡ false → Chosen m Candidate s.near
    chosen-near b a =
        let x = S.not_positive b in
        let y = S.not_negative a in
        record {
          kept = to-least s.near S.near_seen.0 S.near_seen.1;
          highest = λ h. absurd (omega (arith, h x.0 (to-least x.0 x.1 x.2), x.3));
          lowest = λ h. absurd (omega (arith, h y.0 (to-least y.0 y.1 y.2), y.3));
          nearest = λ _ _ u l. (rank u l).farther;
        }

    pub chosen-answer : Chosen m Candidate (answer s)
    chosen-answer = cond_both s.positive s.high (cond s.negative s.low s.near) (Chosen m Candidate) chosen-high (λ b. cond_both s.negative s.low s.near (Chosen m Candidate) chosen-low (chosen-near b))

    -- no other tick is chosen
    pub chosen-once : (t : ℕ) → Chosen m Candidate t → t ≡ answer s
    chosen-once t C =
        cond_both s.positive s.high (cond s.negative s.low s.near) (λ n. t ≡ n)
        (λ b. let K = (chosen-high b).kept in omega (arith, C.highest (λ u l. (rank u l).positive b) s.high K, (rank t C.kept).below))
        (λ b. cond_both s.negative s.low s.near (λ n. t ≡ n)
        (λ a. let K = (chosen-low a).kept in omega (arith, C.lowest (λ u l. (rank u l).negative a) s.low K, (rank t C.kept).above))
        (λ a. nearest-same m.reference t s.near (C.nearest (mixed-positive b) (mixed-negative a) s.near (chosen-near b a).kept) (rank t C.kept).farther))
      where
        mixed-positive : s.positive ≡ false → AllPositive m Candidate → ⊥
        mixed-positive b h = let x = S.not_positive b in omega (arith, h x.0 (to-least x.0 x.1 x.2), x.3)

        mixed-negative : s.negative ≡ false → AllNegative m Candidate → ⊥
        mixed-negative a h = let y = S.not_negative a in omega (arith, h y.0 (to-least y.0 y.1 y.2), y.3)

pub price-chosen : PriceIsChosen
price-chosen m t ts = chosen-answer m (Tick (t ∷ ts)) (sweep m (alone m t) ts) (sums-price m t ts)

pub price-only : PriceIsOnly
price-only m t ts u C = chosen-once m (Tick (t ∷ ts)) (sweep m (alone m t) ts) (sums-price m t ts) u C
