-- The two ends of the ladder, from the spans of the two sides, and what is bid and asked at its first rung.
use Rattle.std.proofs.Common.{◌≡◌, ℕ, ◌+◌, ◌≤◌, min, max, true, false, not, ◌&&◌, ◌==◌, List, [], ◌∷◌, ◌++◌, filter, Some, None, Option, refl, sym, ap, ap₂, subst, ◌∙◌, arith}
use Rattle.std.specs.List.{AllByRecursion}
use Rattle.std.proofs.ByRecursion.{All-weaker}
use Rattle.std.proofs.lemmas.Bool.Decides.{nat_tests}
use Rattle.market.specs.declared.order.Order.{Order}
use Rattle.ticks.specs.Ticks.{Lawful}
use Rattle.ticks.specs.Questions.{Tick}
use Rattle.sheets.specs.Sides.{Sides, standing}
use Rattle.sheets.proofs.Numbers.{all_left, all_right}
use Rattle.pricing.specs.Curves.{is_market, buys_at, sells_at, quantity_of, demand, supply}
use Rattle.pricing.specs.Ladder.{limits, lowest, highest, bottom, top, between, ladder_over}
use Rattle.pricing.specs.declared.span.Span.{Span}
use Rattle.pricing.specs.Spans.{span_of, widened, joined_spans}
use Rattle.pricing.specs.Walk.{quantity_at}
use Rattle.pricing.proofs.Climbs.{climb-first}
use Rattle.pricing.proofs.Curves.{quantity-more}
use Rattle.pricing.proofs.Ladder.{lowest-le, highest-ge, lowest-has, highest-has, bottom-is, top-is, Limited, limited}

-- ---- spans

lowest-swap : (p q : ℕ) (qs : List ℕ) → lowest (min p q) qs ≡ min p (lowest q qs)
lowest-swap p q [] = refl
lowest-swap p q (r ∷ rs) = let e : min (min p q) r ≡ min p (min q r) = omega arith in rw e (lowest-swap p (min q r) rs)

highest-swap : (p q : ℕ) (qs : List ℕ) → highest (max p q) qs ≡ max p (highest q qs)
highest-swap p q [] = refl
highest-swap p q (r ∷ rs) = let e : max (max p q) r ≡ max p (max q r) = omega arith in rw e (highest-swap p (max q r) rs)

abbrev span : ℕ → ℕ → Option Span
span a b = Some (record { low = a; high = b })

joined-assoc : (a b c : Option Span) → joined_spans a (joined_spans b c) ≡ joined_spans (joined_spans a b) c
joined-assoc None b c = refl
joined-assoc (Some a) None c = refl
joined-assoc (Some a) (Some b) None = refl
joined-assoc (Some a) (Some b) (Some c) = ap₂ span (omega arith) (omega arith)

span-first : (p : ℕ) (ps : List ℕ) → joined_spans (Some (widened None p)) (span_of ps) ≡ span_of (p ∷ ps)
span-first p [] = refl
span-first p (q ∷ qs) = ap₂ span (sym (lowest-swap p q qs)) (sym (highest-swap p q qs))

widened-joined : (l : Option Span) (p : ℕ) → Some (widened l p) ≡ joined_spans l (Some (widened None p))
widened-joined None p = refl
widened-joined (Some s) p = refl

-- one price more is one less that is left
pub span-more : (l : Option Span) (p : ℕ) (ps : List ℕ) → joined_spans (Some (widened l p)) (span_of ps) ≡ joined_spans l (span_of (p ∷ ps))
span-more l p ps =
    ap (λ (x : Option Span). joined_spans x (span_of ps)) (widened-joined l p)
    ∙ sym (joined-assoc l (Some (widened None p)) (span_of ps))
    ∙ ap (joined_spans l) (span-first p ps)

-- with no price left it is the span
pub span-end : (l : Option Span) → joined_spans l None ≡ l
span-end None = refl
span-end (Some s) = refl

pub span-append : (xs ys : List ℕ) → joined_spans (span_of xs) (span_of ys) ≡ span_of (xs ++ ys)
span-append [] ys = refl
span-append (x ∷ xs) ys =
    ap (λ (a : Option Span). joined_spans a (span_of ys)) (sym (span-first x xs))
    ∙ sym (joined-assoc (Some (widened None x)) (span_of xs) (span_of ys))
    ∙ ap (joined_spans (Some (widened None x))) (span-append xs ys)
    ∙ span-first x (xs ++ ys)

pub span-none : (ps : List ℕ) → span_of ps ≡ None → ps ≡ []
span-none [] e = refl
span-none (p ∷ ps) e = cc

pub limits-append : (xs ys : List Order) → limits (xs ++ ys) ≡ limits xs ++ limits ys
limits-append [] ys = refl
limits-append (o ∷ xs) ys = let rest = limits-append xs ys in grind arith

-- the lowest and the highest limit price of both sides together
pub span-standing : (s : Sides) → joined_spans (span_of (limits s.buys)) (span_of (limits s.offers)) ≡ span_of (limits (standing s))
span-standing s = span-append (limits s.buys) (limits s.offers) ∙ ap span_of (sym (limits-append s.buys s.offers))

-- ---- the ends

-- low and high are ticks, no limit price is under or over them, and the ladder is low and the ticks from there up to high
pub record Ends (ticks prices : List ℕ) (low high : ℕ) : Type 0 where
  pub bottom : Tick ticks low
  pub top : Tick ticks high
  pub ordered : low ≤ high
  pub least : AllByRecursion (λ p. low ≤ p) prices
  pub greatest : AllByRecursion (λ p. p ≤ high) prices
  pub climb : (reference : ℕ) → ladder_over ticks prices reference ≡ low ∷ filter (between (low + 1) high) ticks

same-span : (a b : Span) → ◌≡◌ {A = Option Span} (Some a) (Some b) → a ≡ b
same-span a b e = cc

pub ends : (ticks : List ℕ) (floor ceiling : ℕ) (prices : List ℕ) (sp : Span) → Lawful ticks floor ceiling → AllByRecursion (Tick ticks) prices
    → span_of prices ≡ Some sp → Ends ticks prices (bottom ticks sp.low) (top ticks sp.high)
ends ticks floor ceiling [] sp l h e = cc
ends ticks floor ceiling (p ∷ ps) sp l h e =
    subst (λ (x : Span). Ends ticks (p ∷ ps) (bottom ticks x.low) (top ticks x.high)) (same-span (record { low = lowest p ps; high = highest p ps }) sp e) here
  where
    lo : ℕ
    lo = lowest p ps

    hi : ℕ
    hi = highest p ps

    here : Ends ticks (p ∷ ps) (bottom ticks lo) (top ticks hi)
    here =
        let b = bottom-is ticks floor ceiling l lo (lowest-has (Tick ticks) p ps h) in
        let a = top-is ticks floor ceiling l hi (highest-has (Tick ticks) p ps h) in
        let under : bottom ticks lo ≤ lo = b.under in
        let over : hi ≤ top ticks hi = a.over in
        let up : bottom ticks lo ≤ top ticks hi = omega (arith, under, over, (lowest-le p ps).0, (highest-ge p ps).0) in
        record {
          bottom = b.on;
          top = a.on;
          ordered = up;
          least = All-weaker (λ q. lo ≤ q) (λ q. bottom ticks lo ≤ q) (λ q m. omega (arith, under)) (p ∷ ps) (lowest-le p ps);
          greatest = All-weaker (λ q. q ≤ hi) (λ q. q ≤ top ticks hi) (λ q m. omega (arith, over)) (p ∷ ps) (highest-ge p ps);
          climb = λ reference. climb-first ticks (bottom ticks lo) (top ticks hi) l.rising b.on up;
        }

-- with no limit price the ladder is the reference price
pub no-ends : (ticks : List ℕ) (prices : List ℕ) (reference : ℕ) → span_of prices ≡ None → ladder_over ticks prices reference ≡ reference ∷ []
no-ends ticks prices reference e = ap (λ (ps : List ℕ). ladder_over ticks ps reference) (span-none prices e)

-- ---- demand and supply at the first rung

-- from the lowest limit price down all buys take part
demand-least : (low : ℕ) (os : List Order) → Limited (λ p. low ≤ p) os → demand os low ≡ quantity_of (λ _. true) os
demand-least low [] h = refl
demand-least low (o ∷ os) h =
    let rest = demand-least low os h.1 in
    let here = h.0 in
    let a = quantity-more (buys_at low) o os in
    let b = quantity-more (λ _. true) o os in
    grind (arith, nat_tests)

-- and of the offers the market orders, and those at that price
supply-least : (low : ℕ) (os : List Order) → Limited (λ p. low ≤ p) os → supply os low ≡ quantity_of is_market os + quantity_at low os
supply-least low [] h = refl
supply-least low (o ∷ os) h =
    let rest = supply-least low os h.1 in
    let here = h.0 in
    let a = quantity-more (sells_at low) o os in
    let b = quantity-more is_market o os in
    let c = quantity-more (λ x. not (is_market x) && x.price == low) o os in
    grind (arith, nat_tests)

-- without a limit order only the market orders take part
demand-unlimited : (p : ℕ) (os : List Order) → Limited (λ _. ⊥) os → demand os p ≡ quantity_of is_market os
demand-unlimited p [] h = refl
demand-unlimited p (o ∷ os) h =
    let rest = demand-unlimited p os h.1 in
    let here = h.0 in
    let a = quantity-more (buys_at p) o os in
    let b = quantity-more is_market o os in
    grind (arith, nat_tests)

supply-unlimited : (p : ℕ) (os : List Order) → Limited (λ _. ⊥) os → supply os p ≡ quantity_of is_market os
supply-unlimited p [] h = refl
supply-unlimited p (o ∷ os) h =
    let rest = supply-unlimited p os h.1 in
    let here = h.0 in
    let a = quantity-more (sells_at p) o os in
    let b = quantity-more is_market o os in
    grind (arith, nat_tests)

module _ (s : Sides) where
  module _ (low : ℕ) (h : AllByRecursion (λ p. low ≤ p) (limits (standing s))) where
    pub demand-bottom : demand s.buys low ≡ quantity_of (λ _. true) s.buys
    demand-bottom = demand-least low s.buys (all_left (λ o. is_market o ≡ false → low ≤ o.price) s.buys s.offers (limited (λ p. low ≤ p) (standing s) h))

    pub supply-bottom : supply s.offers low ≡ quantity_of is_market s.offers + quantity_at low s.offers
    supply-bottom = supply-least low s.offers (all_right (λ o. is_market o ≡ false → low ≤ o.price) s.buys s.offers (limited (λ p. low ≤ p) (standing s) h))

  module _ (p : ℕ) (e : span_of (limits (standing s)) ≡ None) where
    none-limited : Limited (λ _. ⊥) (standing s)
    none-limited = limited (λ _. ⊥) (standing s) (subst (AllByRecursion (λ (_ : ℕ). ⊥)) (sym (span-none (limits (standing s)) e)) tt)

    pub demand-only : demand s.buys p ≡ quantity_of is_market s.buys
    demand-only = demand-unlimited p s.buys (all_left (λ o. is_market o ≡ false → ⊥) s.buys s.offers none-limited)

    pub supply-only : supply s.offers p ≡ quantity_of is_market s.offers
    supply-only = supply-unlimited p s.offers (all_right (λ o. is_market o ≡ false → ⊥) s.buys s.offers none-limited)
