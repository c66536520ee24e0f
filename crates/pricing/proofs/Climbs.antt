-- From tick to tick up a rising list: the ticks that are left, the quantities at the next, and the tally of those met.
use Rattle.std.proofs.Common.{◌≡◌, ℕ, suc, ◌+◌, ◌-◌, ◌<◌, ◌≤◌, false, ◌⊎◌, List, [], ◌∷◌, length, get_or, map, filter, fold, Some, None, Option, refl, sym, ap, subst, ◌∙◌, inl, inr, ⊎_elim, arith}
use Rattle.std.specs.List.{AllByRecursion}
use Rattle.std.proofs.ByRecursion.{All-weaker}
use Rattle.std.proofs.lemmas.Bool.{cases_lt, cases_order}
use Rattle.std.proofs.lemmas.Bool.Decides.{nat_tests}
use Rattle.std.proofs.lemmas.Grind.{common_steps}
use Rattle.market.specs.declared.order.Order.{Order}
use Rattle.ticks.specs.Ticks.{first_above, Rising}
use Rattle.ticks.specs.Questions.{Tick, SmallestAbove}
use Rattle.ticks.proofs.AnswersHold.{tick-place, above-some}
use Rattle.ticks.proofs.AtIndex.{is_tick-at}
use Rattle.sheets.specs.Sides.{Sides, standing}
use Rattle.sheets.proofs.Numbers.{all_left, all_right}
use Rattle.pricing.specs.Curves.{is_market, demand, supply}
use Rattle.pricing.specs.Ladder.{limits, between}
use Rattle.pricing.specs.Pricing.{Interest, Summary, interest_of, alone, next_summary, sweep, answer, price}
use Rattle.pricing.specs.Tallies.{rung_at, tally_of, alone_of, next_of, answer_of}
use Rattle.pricing.specs.Walk.{quantity_at, Neighbours}
use Rattle.pricing.specs.declared.rung.Rung.{Rung}
use Rattle.pricing.specs.declared.tally.Tally.{Tally}
use Rattle.pricing.proofs.Ladder.{Limited, limited}
use Rattle.pricing.proofs.Rungs.{tick-cases, tick-none}
use Rattle.pricing.proofs.Tallied.{next-tallied}
use Rattle.pricing.proofs.Walk.{demand-goes-on, supply-goes-on}

-- ---- rising lists

pub rising-rest : (t : ℕ) (ts : List ℕ) → Rising (t ∷ ts) → Rising ts
rising-rest t ts up = λ i j l m. up (suc i) (suc j) (omega arith) (omega arith)

over-all : (t : ℕ) (ts : List ℕ) → ((j : ℕ) → j < length ts → t < get_or ts j 0) → AllByRecursion (λ u. t < u) ts
over-all t [] h = tt
over-all t (u ∷ us) h = (h 0 (omega arith), over-all t us (λ j l. h (suc j) (omega arith)))

-- the first is less than each of the others
pub rising-all : (t : ℕ) (ts : List ℕ) → Rising (t ∷ ts) → AllByRecursion (λ u. t < u) ts
rising-all t ts up = over-all t ts (λ j l. up 0 (suc j) (omega arith) (omega arith))

-- what holds of each tick holds of one
pub tick-all : (P : ℕ → Type 0) (ts : List ℕ) (t : ℕ) → AllByRecursion P ts → Tick ts t → P t
tick-all P [] t h k = absurd (tick-none t k)
tick-all P (u ∷ us) t h k = ⊎_elim (λ e. subst P e h.0) (λ m. tick-all P us t h.1 m) (tick-cases u us t k)

-- ---- the next tick

-- the first tick over p is the smallest
pub above-is : (ts : List ℕ) (p q : ℕ) → Rising ts → first_above ts p ≡ Some q → SmallestAbove ts p q
above-is ts p q up e =
    let a = above-some ts p q e in
    record {
      tick = is_tick-at ts a.0 q a.1 a.2;
      greater = a.3;
      smallest = λ t h more.
          let k = tick-place ts t h in
          ⊎_elim
          (λ same. omega (arith, a.2, k.2, ap (λ i. get_or ts i 0) same))
          (λ apart. ⊎_elim
          (λ low. omega (arith, k.2, a.4 k.0 low))
          (λ high. omega (arith, a.2, k.2, up a.0 k.0 high k.1))
          apart)
          (cases_order k.0 a.0);
    }

-- no tick lies between
pub above-apart : (ts : List ℕ) (p q t : ℕ) → Rising ts → first_above ts p ≡ Some q → Tick ts t → (t ≤ p) ⊎ (q ≤ t)
above-apart ts p q t up e h = ⊎_elim (λ l. inr ((above-is ts p q up e).smallest t h l)) (λ l. inl l) (cases_lt p t)

-- where each limit price is a tick, none lies between
pub above-neighbours : (ts : List ℕ) (p q : ℕ) (os : List Order) → Rising ts → first_above ts p ≡ Some q → AllByRecursion (Tick ts) (limits os) → Neighbours p q os
above-neighbours ts p q os up e h =
    limited (λ t. (t ≤ p) ⊎ (q ≤ t)) os (All-weaker (Tick ts) (λ t. (t ≤ p) ⊎ (q ≤ t)) (λ t k. above-apart ts p q t up e k) (limits os) h)

-- under a tick it is at most that tick
pub above-upto : (ts : List ℕ) (p q high : ℕ) → Rising ts → Tick ts high → p < high → first_above ts p ≡ Some q → q ≤ high
above-upto ts p q high up h l e = (above-is ts p q up e).smallest high h l

-- ---- the ticks that are left

-- where all ticks are over t, it is the same to begin at t + 1 or lower
past-same : (ts : List ℕ) (p t high : ℕ) → AllByRecursion (λ u. t < u) ts → p ≤ t + 1 → filter (between p high) ts ≡ filter (between (t + 1) high) ts
past-same [] p t high h l = refl
past-same (u ∷ us) p t high h l = let rest = past-same us p t high h.1 l in let here = h.0 in grind (arith, nat_tests)

past-none : (ts : List ℕ) (p t high : ℕ) → AllByRecursion (λ u. t < u) ts → high ≤ t → filter (between p high) ts ≡ []
past-none [] p t high h l = refl
past-none (u ∷ us) p t high h l = let rest = past-none us p t high h.1 l in let here = h.0 in grind (arith, nat_tests)

-- the ticks from one of them on begin with it
pub climb-first : (ts : List ℕ) (low high : ℕ) → Rising ts → Tick ts low → low ≤ high → filter (between low high) ts ≡ low ∷ filter (between (low + 1) high) ts
climb-first [] low high up h l = absurd (tick-none low h)
climb-first (t ∷ ts) low high up h l =
    ⊎_elim
    (λ e. let rest = past-same ts low t high (rising-all t ts up) (omega arith) in grind (arith, nat_tests))
    (λ k.
    let rest = climb-first ts low high (rising-rest t ts up) k l in
    let less = tick-all (λ u. t < u) ts low (rising-all t ts up) k in
    grind (arith, nat_tests))
    (tick-cases t ts low h)

-- the ticks over p begin with the next
pub climb-next : (ts : List ℕ) (p q high : ℕ) → Rising ts → first_above ts p ≡ Some q → q ≤ high → filter (between (p + 1) high) ts ≡ q ∷ filter (between (q + 1) high) ts
climb-next [] p q high up e l = cc
climb-next (t ∷ ts) p q high up e l =
    ⊎_elim
    (λ m.
    let same : t ≡ q = grind (arith, common_steps) in
    let rest = past-same ts (p + 1) t high (rising-all t ts up) (omega arith) in
    grind (arith, nat_tests))
    (λ m.
    let f : first_above ts p ≡ Some q = grind (arith, common_steps) in
    let rest = climb-next ts p q high (rising-rest t ts up) f l in
    let over = (above-some ts p q f).3 in
    grind (arith, nat_tests))
    (cases_lt p t)

-- and where the next is past the end there are none
pub climb-past : (ts : List ℕ) (p q high : ℕ) → Rising ts → first_above ts p ≡ Some q → high < q → filter (between (p + 1) high) ts ≡ []
climb-past [] p q high up e l = refl
climb-past (t ∷ ts) p q high up e l =
    ⊎_elim
    (λ m.
    let same : t ≡ q = grind (arith, common_steps) in
    let rest = past-none ts (p + 1) t high (rising-all t ts up) (omega arith) in
    grind (arith, nat_tests))
    (λ m.
    let f : first_above ts p ≡ Some q = grind (arith, common_steps) in
    let rest = climb-past ts p q high (rising-rest t ts up) f l in
    grind (arith, nat_tests))
    (cases_lt p t)

-- nor where no tick is next
pub climb-none : (ts : List ℕ) (p high : ℕ) → first_above ts p ≡ None → filter (between (p + 1) high) ts ≡ []
climb-none [] p high e = refl
climb-none (t ∷ ts) p high e =
    ⊎_elim
    (λ m. let z : ◌≡◌ {A = Option ℕ} (Some t) None = grind (arith, common_steps) in grind arith)
    (λ m.
    let f : first_above ts p ≡ None = grind (arith, common_steps) in
    let rest = climb-none ts p high f in
    grind (arith, nat_tests))
    (cases_lt p t)

-- nor at the end
pub climb-end : (ts : List ℕ) (p high : ℕ) → high ≤ p → filter (between (p + 1) high) ts ≡ []
climb-end [] p high l = refl
climb-end (t ∷ ts) p high l = let rest = climb-end ts p high l in grind (arith, nat_tests)

-- ---- the tally

-- the tally of more rungs is the summary of their ticks
pub sweep-tallied : (m : Interest) (s : Summary) (ts : List ℕ) → fold (next_of m.reference) (tally_of m s) (map (rung_at m) ts) ≡ tally_of m (sweep m s ts)
sweep-tallied m s [] = refl
sweep-tallied m s (t ∷ ts) =
    ap (λ (x : Tally). fold (next_of m.reference) x (map (rung_at m) ts)) (next-tallied m s t) ∙ sweep-tallied m (next_summary m s t) ts

pub answer-tallied : (m : Interest) (s : Summary) → answer_of (tally_of m s) ≡ rung_at m (answer s)
answer-tallied m s = grind (arith, common_steps)

-- the pass over the rungs of t and ts ends at the rung of their price
pub price-tallied : (m : Interest) (t : ℕ) (ts : List ℕ) → answer_of (fold (next_of m.reference) (alone_of (rung_at m t)) (map (rung_at m) ts)) ≡ rung_at m (price m t ts)
price-tallied m t ts = ap answer_of (sweep-tallied m (alone m t) ts) ∙ answer-tallied m (sweep m (alone m t) ts)

-- ---- one rung up

same-rung : (p b x a y : ℕ) → b ≡ x → a ≡ y → ◌≡◌ {A = Rung} (record { price = p; bid = b; ask = a }) (record { price = p; bid = x; ask = y })
same-rung p b x a y e f = rw (e, f) refl

module _ (ticks : List ℕ) (s : Sides) (p q : ℕ) (up : Rising ticks) (h : AllByRecursion (Tick ticks) (limits (standing s))) (e : first_above ticks p ≡ Some q) where
  between-none : Limited (λ t. (t ≤ p) ⊎ (q ≤ t)) (standing s)
  between-none = above-neighbours ticks p q (standing s) up e h

  pub demand-above : demand s.buys p ≡ demand s.buys q + quantity_at p s.buys
  demand-above =
      demand-goes-on s.buys p q (above-is ticks p q up e).greater
      (all_left (λ o. is_market o ≡ false → (o.price ≤ p) ⊎ (q ≤ o.price)) s.buys s.offers between-none)

  pub supply-above : supply s.offers q ≡ supply s.offers p + quantity_at q s.offers
  supply-above =
      supply-goes-on s.offers p q (above-is ticks p q up e).greater
      (all_right (λ o. is_market o ≡ false → (o.price ≤ p) ⊎ (q ≤ o.price)) s.buys s.offers between-none)

  -- the buys at the tick that is left are part of what is bid there
  pub bid-covers : quantity_at p s.buys ≤ demand s.buys p
  bid-covers = omega (arith, demand-above)

  -- the next rung
  pub rung-above : (reference : ℕ)
      → ◌≡◌ {A = Rung} (record { price = q; bid = (rung_at (interest_of s reference) p).bid - quantity_at p s.buys; ask = (rung_at (interest_of s reference) p).ask + quantity_at q s.offers }) (rung_at (interest_of s reference) q)
  rung-above reference = same-rung q _ _ _ _ (omega (arith, demand-above)) (sym supply-above)
