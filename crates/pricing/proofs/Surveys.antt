-- What a walk has surveyed, and what is left.
use Rattle.std.proofs.Common.{◌≡◌, ℕ, ◌+◌, ◌<◌, Bool, true, false, not, cond, map, filter, List, [], ◌∷◌, None, sym, refl, ap, ◌∙◌, arith}
use Rattle.market.specs.declared.order.Kind.{Kind}
use Rattle.market.specs.declared.order.Kind.TheVariants.{Limit, Market}
use Rattle.market.specs.declared.order.Order.{Order}
use Rattle.market.specs.declared.order.Side.{Side}
use Rattle.sheets.specs.Sides.{Sides, of_side}
use Rattle.sheets.specs.Laws.{SheetLaws}
use Rattle.pricing.specs.declared.survey.Survey.{Survey}
use Rattle.pricing.specs.Curves.{market_kind, is_market, quantity_of}
use Rattle.pricing.specs.Ladder.{limits}
use Rattle.pricing.specs.Spans.{span_of, joined_spans}
use Rattle.pricing.specs.Surveys.{surveyed, counted_by, counted}
use Rattle.pricing.proofs.Bounds.{side-small}
use Rattle.pricing.proofs.Curves.{quantity-more}
use Rattle.pricing.proofs.Ends.{span-more, span-end}

-- s was surveyed of the orders, and what is left is still to survey
pub record Seen (s : Survey) (left os : List Order) : Type 0 where
  pub market : s.market + quantity_of is_market left ≡ quantity_of is_market os
  pub all : s.all + quantity_of (λ _. true) left ≡ quantity_of (λ _. true) os
  pub limits : joined_spans s.limits (span_of (limits left)) ≡ span_of (limits os)

pub seen-none : (s : Survey) (os left : List Order) → s ≡ record { market = 0; all = 0; limits = None } → left ≡ os → Seen s left os
seen-none s os left is e = rw (is, e) (record { market = omega arith; all = omega arith; limits = refl })

more-market : (k : Kind) (s : Survey) (o : Order) → (counted_by k s o).market ≡ s.market + cond (market_kind k) o.quantity 0
more-market Market s o = refl
more-market Limit s o = omega arith

more-all : (k : Kind) (s : Survey) (o : Order) → (counted_by k s o).all ≡ s.all + o.quantity
more-all Market s o = refl
more-all Limit s o = refl

more-kind : (k : Kind) (s : Survey) (o : Order) (ps : List ℕ) → joined_spans (counted_by k s o).limits (span_of ps) ≡ joined_spans s.limits (span_of (cond (not (market_kind k)) (o.price ∷ ps) ps))
more-kind Market s o ps = refl
more-kind Limit s o ps = span-more s.limits o.price ps

limits-more : (o : Order) (os : List Order) → cond (not (is_market o)) (o.price ∷ limits os) (limits os) ≡ limits (o ∷ os)
limits-more o os = either (not (is_market o))
  where
    either : (b : Bool) → cond b (o.price ∷ limits os) (limits os) ≡ map (λ x. x.price) (cond b (o ∷ filter (λ x. not (is_market x)) os) (filter (λ x. not (is_market x)) os))
    either true = refl
    either false = refl

more-limits : (s : Survey) (o : Order) (os : List Order) → joined_spans (counted s o).limits (span_of (limits os)) ≡ joined_spans s.limits (span_of (limits (o ∷ os)))
more-limits s o os = more-kind o.kind s o (limits os) ∙ ap (λ ps. joined_spans s.limits (span_of ps)) (limits-more o os)

pub seen-more : (s : Survey) (o : Order) (before left os : List Order) → before ≡ o ∷ left → Seen s before os → Seen (counted s o) left os
seen-more s o before left os e h =
    let k : Seen s (o ∷ left) os = rw e at h in
    record {
      market = omega (arith, more-market o.kind s o, k.market, quantity-more is_market o left);
      all = omega (arith, more-all o.kind s o, k.all, quantity-more (λ _. true) o left);
      limits = more-limits s o left ∙ k.limits;
    }

pub seen-fits : (v : Side) (n : ℕ) (s : Sides) (seen : Survey) (o : Order) (before left : List Order) → before ≡ o ∷ left → Seen seen before (of_side v s) → SheetLaws n s
    → (seen.market + o.quantity < 18446744073709551616) × (seen.all + o.quantity < 18446744073709551616)
seen-fits v n s seen o before left e h l =
    let k : Seen seen (o ∷ left) (of_side v s) = rw e at h in
    let m = side-small n s l v is_market in
    let a = side-small n s l v (λ _. true) in
    let more = quantity-more (λ _. true) o left in
    (omega (arith, k.market, k.all, m, a, more), omega (arith, k.all, a, more))

pub seen-all : (s : Survey) (left os : List Order) → left ≡ [] → Seen s left os → s ≡ surveyed os
seen-all s left os e h =
    let k : Seen s [] os = rw e at h in
    let a : s.market ≡ quantity_of is_market os = omega (arith, k.market) in
    let b : s.all ≡ quantity_of (λ _. true) os = omega (arith, k.all) in
    let c : s.limits ≡ span_of (limits os) = sym (span-end s.limits) ∙ k.limits in
    λ i. record { market = a i; all = b i; limits = c i }
