-- Demand and supply, price by price, and what a rival can move.
use Rattle.std.proofs.Common.{◌≡◌, ℕ, ◌+◌, ◌≤◌, Bool, true, cond, ◌&&◌, List, [], ◌∷◌, ◌==◌, sum_by, refl, ⊎_elim, arith}
use Rattle.std.specs.List.{AllByRecursion}
use Rattle.std.proofs.lemmas.Bool.{or_cases, and_parts, eqb-true}
use Rattle.std.proofs.lemmas.Bool.Decides.{nat_tests}
use Rattle.std.proofs.lemmas.List.Sums.{sum_by-cons}
use Rattle.market.specs.declared.order.Order.{Order}
use Rattle.pricing.specs.Curves.{buys_at, sells_at, quantity_of, Trade, moved, given, takes_part, DemandFalls, SupplyRises, DemandIsFlat, SupplyIsFlat, RivalsAreBound}

-- one order more
pub quantity-more : (f : Order → Bool) (o : Order) (os : List Order) → quantity_of f (o ∷ os) ≡ cond (f o) o.quantity 0 + quantity_of f os
quantity-more f o os = sum_by-cons (λ x. cond (f x) x.quantity 0) o os

-- where more orders pass there is more quantity
pub more-pass : (f g : Order → Bool) (os : List Order) → AllByRecursion (λ o. f o ≡ true → g o ≡ true) os → quantity_of f os ≤ quantity_of g os
more-pass f g [] h = omega arith
more-pass f g (o ∷ os) h =
    let rest = more-pass f g os h.1 in
    let here = h.0 in
    let a = quantity-more f o os in
    let b = quantity-more g o os in
    grind arith

pub demand-falls : DemandFalls
demand-falls [] p q h = omega arith
demand-falls (o ∷ os) p q h =
    let rest = demand-falls os p q h in
    let a = quantity-more (buys_at p) o os in
    let b = quantity-more (buys_at q) o os in
    grind (arith, nat_tests)

pub supply-rises : SupplyRises
supply-rises [] p q h = omega arith
supply-rises (o ∷ os) p q h =
    let rest = supply-rises os p q h in
    let a = quantity-more (sells_at p) o os in
    let b = quantity-more (sells_at q) o os in
    grind (arith, nat_tests)

pub demand-flat : DemandIsFlat
demand-flat [] p q h c = refl
demand-flat (o ∷ os) p q h c =
    let rest = demand-flat os p q h c.1 in
    let a = quantity-more (buys_at p) o os in
    let b = quantity-more (buys_at q) o os in
    let here = c.0 in
    grind (arith, nat_tests)

pub supply-flat : SupplyIsFlat
supply-flat [] p q h c = refl
supply-flat (o ∷ os) p q h c =
    let rest = supply-flat os p q h c.1 in
    let a = quantity-more (sells_at p) o os in
    let b = quantity-more (sells_at q) o os in
    let here = c.0 in
    grind (arith, nat_tests)

-- ---- trades, by the number that `who` names

-- what one trade more gives
given-more : (who : Trade → ℕ) (t : Trade) (ts : List Trade) (n : ℕ) → given who (t ∷ ts) n ≡ cond (who t == n) t.quantity 0 + given who ts n
given-more who t ts n = sum_by-cons (λ x. cond (who x == n) x.quantity 0) t ts

module _ (f : Order → Bool) (who : Trade → ℕ) where
  -- what the trades give to the orders that pass
  abbrev credit : List Trade → List Order → ℕ
  credit ts os = sum_by (λ o. cond (f o) (given who ts o.number) 0) os

  credit-of : (ts : List Trade) (o : Order) (os : List Order) → credit ts (o ∷ os) ≡ cond (f o) (given who ts o.number) 0 + credit ts os
  credit-of ts o os = sum_by-cons (λ x. cond (f x) (given who ts x.number) 0) o os

  credit-rises : (t : Trade) (ts : List Trade) (os : List Order) → credit ts os ≤ credit (t ∷ ts) os
  credit-rises t ts [] = omega arith
  credit-rises t ts (o ∷ os) =
      let rest = credit-rises t ts os in
      let a = credit-of ts o os in
      let b = credit-of (t ∷ ts) o os in
      let c = given-more who t ts o.number in
      grind (arith, nat_tests)

  credit-more : (t : Trade) (ts : List Trade) (os : List Order) → takes_part f os (who t) ≡ true → t.quantity + credit ts os ≤ credit (t ∷ ts) os
  credit-more t ts [] h = absurd (let z : ◌≡◌ {A = ℕ} 0 1 = cc in omega arith)
  credit-more t ts (o ∷ os) h =
      let a = credit-of ts o os in
      let b = credit-of (t ∷ ts) o os in
      let c = given-more who t ts o.number in
      ⊎_elim
      (λ k.
      let both = and_parts _ _ k in
      let same = eqb-true o.number (who t) both.0 in
      let passes = both.1 in
      let rest = credit-rises t ts os in
      grind (arith, nat_tests))
      (λ k. let rest = credit-more t ts os k in grind (arith, nat_tests))
      (or_cases (o.number == who t && f o) (takes_part f os (who t)) h)

  moved-credited : (ts : List Trade) (os : List Order) → AllByRecursion (λ t. takes_part f os (who t) ≡ true) ts → moved ts ≤ credit ts os
  moved-credited [] os h = omega arith
  moved-credited (t ∷ ts) os h = omega (arith, sum_by-cons (λ (x : Trade). x.quantity) t ts, moved-credited ts os h.1, credit-more t ts os h.0)

  credit-within : (ts : List Trade) (os : List Order) → AllByRecursion (λ o. given who ts o.number ≤ o.quantity) os → credit ts os ≤ quantity_of f os
  credit-within ts [] h = omega arith
  credit-within ts (o ∷ os) h =
      let rest = credit-within ts os h.1 in
      let here = h.0 in
      let a = credit-of ts o os in
      let b = quantity-more f o os in
      grind arith

  pub moved-within : (ts : List Trade) (os : List Order) → AllByRecursion (λ t. takes_part f os (who t) ≡ true) ts → AllByRecursion (λ o. given who ts o.number ≤ o.quantity) os → moved ts ≤ quantity_of f os
  moved-within ts os h k = omega (arith, moved-credited ts os h, credit-within ts os k)

pub rivals-bound : RivalsAreBound
rivals-bound s p ts r =
    omega (arith, moved-within (buys_at p) (λ t. t.buy) ts s.buys r.buyers r.bought, moved-within (sells_at p) (λ t. t.offer) ts s.offers r.sellers r.sold)
