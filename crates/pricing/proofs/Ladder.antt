-- The ladder stands for all ticks of the rule.
use Rattle.std.proofs.Common.{◌≡◌, ℕ, ◌<◌, ◌≤◌, min, max, Bool, true, false, cond, not, ◌⊎◌, List, [], ◌∷◌, map, filter, nat_le, Some, None, Option, unwrap_or, MatchOption, refl, sym, subst, ◌∙◌, inl, inr, ⊎_elim, arith}
use Rattle.std.specs.List.{AllByRecursion}
use Rattle.std.proofs.ByRecursion.{All-weaker}
use Rattle.std.proofs.lemmas.Bool.{cases_lt, le-leb, lt-leb, and_from, both_ways}
use Rattle.market.specs.declared.order.Order.{Order}
use Rattle.ticks.specs.Ticks.{first_above, last_below, Lawful}
use Rattle.ticks.specs.Questions.{Tick, SmallestAbove, GreatestBelow}
use Rattle.ticks.proofs.AnswersHold.{above-smallest, below-greatest}
use Rattle.sheets.specs.Sides.{Sides, standing}
use Rattle.sheets.proofs.Numbers.{all_left, all_right}
use Rattle.pricing.specs.Curves.{is_market, buys_at, sells_at, demand, supply}
use Rattle.pricing.specs.Ladder.{limits, lowest, highest, bottom, top, between, ladder_over, StandsFor, LadderStandsForAll, RungsAreTicks}
use Rattle.pricing.proofs.Curves.{quantity-more}
use Rattle.pricing.proofs.Pricing.{min-either, max-either}
use Rattle.pricing.proofs.Rungs.{tick-here, tick-cases, tick-none, tick-kept, kept-tick}

-- ---- the lowest and the highest of a list

pub lowest-le : (p : ℕ) (ps : List ℕ) → AllByRecursion (λ q. lowest p ps ≤ q) (p ∷ ps)
lowest-le p [] = (omega arith, tt)
lowest-le p (q ∷ qs) = let rest = lowest-le (min p q) qs in (omega (arith, rest.0), (omega (arith, rest.0), rest.1))

pub highest-ge : (p : ℕ) (ps : List ℕ) → AllByRecursion (λ q. q ≤ highest p ps) (p ∷ ps)
highest-ge p [] = (omega arith, tt)
highest-ge p (q ∷ qs) = let rest = highest-ge (max p q) qs in (omega (arith, rest.0), (omega (arith, rest.0), rest.1))

pub lowest-has : (P : ℕ → Type 0) (p : ℕ) (ps : List ℕ) → AllByRecursion P (p ∷ ps) → P (lowest p ps)
lowest-has P p [] h = h.0
lowest-has P p (q ∷ qs) h = lowest-has P (min p q) qs (min-either P p q h.0 h.1.0, h.1.1)

pub highest-has : (P : ℕ → Type 0) (p : ℕ) (ps : List ℕ) → AllByRecursion P (p ∷ ps) → P (highest p ps)
highest-has P p [] h = h.0
highest-has P p (q ∷ qs) h = highest-has P (max p q) qs (max-either P p q h.0 h.1.0, h.1.1)

-- ---- the two ends

-- b is a tick at or under p, and no tick under p is greater
pub record Bottom (ts : List ℕ) (p b : ℕ) : Type 0 where
  pub on : Tick ts b
  pub under : b ≤ p
  pub greatest : (t : ℕ) → Tick ts t → t < p → (t ≤ b) × (b < p)

-- a is a tick at or over p, and no tick over p is smaller
pub record Top (ts : List ℕ) (p a : ℕ) : Type 0 where
  pub on : Tick ts a
  pub over : p ≤ a
  pub smallest : (t : ℕ) → Tick ts t → p < t → (a ≤ t) × (p < a)

module _ (ts : List ℕ) (floor ceiling : ℕ) (l : Lawful ts floor ceiling) (p : ℕ) (h : Tick ts p) where
  pub bottom-is : Bottom ts p (bottom ts p)
  bottom-is = go (last_below ts p) (below-greatest ts floor ceiling l p)
    where
      go : (o : Option ℕ) → MatchOption o ((t : ℕ) → Tick ts t → p ≤ t) (λ q. GreatestBelow ts p q) → Bottom ts p (unwrap_or o p)
      go None k = record { on = h; under = omega arith; greatest = λ t m less. absurd (omega (arith, k t m)) }
      go (Some b) k = record { on = k.tick; under = omega (arith, k.smaller); greatest = λ t m less. (k.greatest t m less, k.smaller) }

  pub top-is : Top ts p (top ts p)
  top-is = go (first_above ts p) (above-smallest ts floor ceiling l p)
    where
      go : (o : Option ℕ) → MatchOption o ((t : ℕ) → Tick ts t → t ≤ p) (λ q. SmallestAbove ts p q) → Top ts p (unwrap_or o p)
      go None k = record { on = h; over = omega arith; smallest = λ t m more. absurd (omega (arith, k t m)) }
      go (Some a) k = record { on = k.tick; over = omega (arith, k.greater); smallest = λ t m more. (k.smallest t m more, k.greater) }

-- ---- prices that no limit price tells apart

-- P holds of the limit of each limit order
abbrev pub Limited : (ℕ → Type 0) → List Order → Type 0
Limited P os = AllByRecursion (λ o. is_market o ≡ false → P o.price) os

pub limited : (P : ℕ → Type 0) (os : List Order) → AllByRecursion P (limits os) → Limited P os
limited P [] h = tt
limited P (o ∷ os) h = go (is_market o) refl h (λ k. limited P os k)
  where
    go : (b : Bool) → is_market o ≡ b → AllByRecursion P (map (λ (x : Order). x.price) (cond (not b) (o ∷ filter (λ x. not (is_market x)) os) (filter (λ x. not (is_market x)) os)))
        → (AllByRecursion P (limits os) → Limited P os) → Limited P (o ∷ os)
    go true e k rest = (λ m. absurd (both_ways (is_market o) m e), rest k)
    go false e k rest = (λ _. k.0, rest k.1)

demand-same : (p q : ℕ) (os : List Order) → Limited (λ r. nat_le p r ≡ nat_le q r) os → demand os p ≡ demand os q
demand-same p q [] h = refl
demand-same p q (o ∷ os) h =
    let rest = demand-same p q os h.1 in
    let here = h.0 in
    let a = quantity-more (buys_at p) o os in
    let b = quantity-more (buys_at q) o os in
    grind arith

supply-same : (p q : ℕ) (os : List Order) → Limited (λ r. nat_le r p ≡ nat_le r q) os → supply os p ≡ supply os q
supply-same p q [] h = refl
supply-same p q (o ∷ os) h =
    let rest = supply-same p q os h.1 in
    let here = h.0 in
    let a = quantity-more (sells_at p) o os in
    let b = quantity-more (sells_at q) o os in
    grind arith

module _ (ticks : List ℕ) (floor ceiling : ℕ) (lawful : Lawful ticks floor ceiling) (s : Sides) (t : ℕ) (k : Tick ticks t) where
  rung-from : (prices : List ℕ) (reference : ℕ) → AllByRecursion (Tick ticks) prices
      → ((P : ℕ → Type 0) → AllByRecursion P prices → Limited P s.buys × Limited P s.offers)
      → (u : ℕ) × StandsFor s (ladder_over ticks prices reference) t u
  rung-from [] reference h lim = (
    reference,
    record {
      on = tick-here reference [];
      demand = demand-same reference t s.buys (lim (λ r. nat_le reference r ≡ nat_le t r) tt).0;
      supply = supply-same reference t s.offers (lim (λ r. nat_le r reference ≡ nat_le r t) tt).1;
    },
  )
  rung-from (p ∷ ps) reference h lim = go (cases_lt t b) (cases_lt a t)
    where
      lo : ℕ
      lo = lowest p ps

      hi : ℕ
      hi = highest p ps

      b : ℕ
      b = bottom ticks lo

      a : ℕ
      a = top ticks hi

      B : Bottom ticks lo b
      B = bottom-is ticks floor ceiling lawful lo (lowest-has (Tick ticks) p ps h)

      A : Top ticks hi a
      A = top-is ticks floor ceiling lawful hi (highest-has (Tick ticks) p ps h)

      rung : (u : ℕ) → Tick ticks u → b ≤ u → u ≤ a → Tick (filter (between b a) ticks) u
      rung u m l r = tick-kept (between b a) ticks u (and_from _ _ (le-leb b u l) (le-leb u a r)) m

      ordered : b ≤ a
      ordered = omega (arith, B.under, A.over, (lowest-le p ps).0, (highest-ge p ps).0)

      low : (P : ℕ → Type 0) → ((r : ℕ) → lo ≤ r → P r) → Limited P s.buys × Limited P s.offers
      low P f = lim P (All-weaker (λ r. lo ≤ r) P f (p ∷ ps) (lowest-le p ps))

      high : (P : ℕ → Type 0) → ((r : ℕ) → r ≤ hi → P r) → Limited P s.buys × Limited P s.offers
      high P f = lim P (All-weaker (λ r. r ≤ hi) P f (p ∷ ps) (highest-ge p ps))

      go : (t < b) ⊎ (b ≤ t) → (a < t) ⊎ (t ≤ a) → (u : ℕ) × StandsFor s (filter (between b a) ticks) t u
      go (inl l) _ =
          let under : (t ≤ b) × (b < lo) = B.greatest t k (omega (arith, B.under)) in (
            b,
            record {
              on = rung b B.on (omega arith) ordered;
              demand = demand-same b t s.buys (low (λ r. nat_le b r ≡ nat_le t r) (λ r m. le-leb b r (omega arith) ∙ sym (le-leb t r (omega arith)))).0;
              supply = supply-same b t s.offers (low (λ r. nat_le r b ≡ nat_le r t) (λ r m. lt-leb r b (omega arith) ∙ sym (lt-leb r t (omega arith)))).1;
            },
          )
      go (inr l) (inl r) =
          let over : (a ≤ t) × (hi < a) = A.smallest t k (omega (arith, A.over)) in (
            a,
            record {
              on = rung a A.on ordered (omega arith);
              demand = demand-same a t s.buys (high (λ r. nat_le a r ≡ nat_le t r) (λ r m. lt-leb a r (omega arith) ∙ sym (lt-leb t r (omega arith)))).0;
              supply = supply-same a t s.offers (high (λ r. nat_le r a ≡ nat_le r t) (λ r m. le-leb r a (omega arith) ∙ sym (le-leb r t (omega arith)))).1;
            },
          )
      go (inr l) (inr r) = (t, record { on = rung t k l r; demand = refl; supply = refl })

pub stands-for-all : LadderStandsForAll
stands-for-all ticks floor ceiling lawful s reference h t k =
    rung-from ticks floor ceiling lawful s t k (limits (standing s)) reference h
    (λ P all. let each = limited P (standing s) all in (all_left (λ o. is_market o ≡ false → P o.price) s.buys s.offers each, all_right (λ o. is_market o ≡ false → P o.price) s.buys s.offers each))

pub rungs-ticks : RungsAreTicks
rungs-ticks ticks s reference k u h = go (limits (standing s)) h
  where
    go : (prices : List ℕ) → Tick (ladder_over ticks prices reference) u → Tick ticks u
    go [] m = ⊎_elim (λ e. subst (Tick ticks) e k) (λ n. absurd (tick-none u n)) (tick-cases reference [] u m)
    go (p ∷ ps) m = kept-tick (between (bottom ticks (lowest p ps)) (top ticks (highest p ps))) ticks u m
