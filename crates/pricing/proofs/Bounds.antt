-- The quantities of a lawful sheet are small.
use Rattle.std.proofs.Common.{◌≡◌, ℕ, ◌+◌, ◌*◌, ◌<◌, ◌≤◌, Bool, List, [], ◌∷◌, length, Some, mul-suc, arith}
use Rattle.std.specs.List.{AllByRecursion}
use Rattle.market.specs.declared.order.Order.{Order}
use Rattle.ticks.specs.Ticks.{first_above, Rising}
use Rattle.ticks.specs.Questions.{Tick}
use Rattle.sheets.specs.Laws.{Bounded, SheetLaws}
use Rattle.market.specs.declared.order.Side.{Side}
use Rattle.market.specs.declared.order.Side.TheVariants.{Buy, Offer}
use Rattle.sheets.specs.Sides.{Sides, standing, of_side}
use Rattle.pricing.specs.Curves.{buys_at, sells_at, quantity_of, supply}
use Rattle.pricing.specs.Ladder.{limits}
use Rattle.pricing.specs.Pricing.{Summary, interest_of, answer}
use Rattle.pricing.specs.Tallies.{IsSmall, rung_at, tally_of, answer_of}
use Rattle.pricing.specs.Walk.{quantity_at}
use Rattle.pricing.proofs.Climbs.{answer-tallied, supply-above}
use Rattle.pricing.proofs.Curves.{quantity-more}

-- n orders hold at most n times 2^32 - 1
quantity-bounded : (test : Order → Bool) (os : List Order) → AllByRecursion Bounded os → quantity_of test os ≤ 4294967295 * length os
quantity-bounded test [] h = omega arith
quantity-bounded test (o ∷ os) h =
    let rest = quantity-bounded test os h.1 in
    let here : o.quantity < 4294967296 = h.0.quantity in
    let a = quantity-more test o os in
    let b = mul-suc 4294967295 (length os) in
    grind arith

module _ (n : ℕ) (s : Sides) (l : SheetLaws n s) where
  pub buys-small : (test : Order → Bool) → quantity_of test s.buys < 8796093022208
  buys-small test = omega (arith, quantity-bounded test s.buys l.buys.bounded, l.buys.fits, l.small)

  pub offers-small : (test : Order → Bool) → quantity_of test s.offers < 8796093022208
  offers-small test = omega (arith, quantity-bounded test s.offers l.offers.bounded, l.offers.fits, l.small)

  pub side-small : (v : Side) (test : Order → Bool) → quantity_of test (of_side v s) < 8796093022208
  side-small Buy test = buys-small test
  side-small Offer test = offers-small test

  pub rung-small : (reference t : ℕ) → IsSmall (rung_at (interest_of s reference) t)
  rung-small reference t = (buys-small (buys_at t), offers-small (sells_at t))

  pub answer-small : (reference : ℕ) (u : Summary) → IsSmall (answer_of (tally_of (interest_of s reference) u))
  answer-small reference u = rw (answer-tallied (interest_of s reference) u) (rung-small reference (answer u))

  -- what is asked at the next tick
  pub ask-small : (ticks : List ℕ) (p q : ℕ) → Rising ticks → AllByRecursion (Tick ticks) (limits (standing s)) → first_above ticks p ≡ Some q
      → supply s.offers p + quantity_at q s.offers < 8796093022208
  ask-small ticks p q up h e = omega (arith, supply-above ticks s p q up h e, offers-small (sells_at q))
