-- The pass on its way up the ladder.
use Rattle.std.proofs.Common.{◌≡◌, ℕ, ◌+◌, ◌-◌, ◌≤◌, Bool, true, false, cond, List, [], ◌∷◌, ◌==◌, Some, None, map, filter, fold, sym, ap, ◌∙◌, Option, unwrap_or, subst}
use Rattle.pricing.specs.declared.rung.Rung.{Rung}
use Rattle.pricing.specs.declared.tally.Tally.{Tally}
use Rattle.ticks.specs.Ticks.{first_above, last_below, Lawful}
use Rattle.ticks.specs.Questions.{Tick}
use Rattle.pricing.specs.declared.span.Span.{Span}
use Rattle.pricing.specs.Ladder.{between, limits, bottom, top, ladder}
use Rattle.std.specs.List.{AllByRecursion}
use Rattle.sheets.specs.Sides.{Sides, standing}
use Rattle.pricing.specs.declared.survey.Survey.{Survey}
use Rattle.pricing.specs.Spans.{span_of, joined_spans}
use Rattle.pricing.specs.Surveys.{surveyed}
use Rattle.pricing.specs.Pricing.{Interest, Summary, interest_of, volume, alone, sweep, answer, price}
use Rattle.pricing.specs.Walk.{quantity_at}
use Rattle.pricing.specs.Tallies.{rung_at, alone_of, next_of, auction_of, indicated}
use Rattle.pricing.specs.Passes.{tally_over, auction_on}
use Rattle.pricing.proofs.Climbs.{sweep-tallied, answer-tallied}
use Rattle.pricing.proofs.Ends.{ends, span-standing, demand-only, supply-only, demand-bottom, supply-bottom}
use Rattle.pricing.proofs.Pricing.{Tied, sums-price}

-- the tally once the rungs of ticks ts are joined to it
abbrev pub onward : Interest → Tally → List ℕ → Tally
onward m tally ts = fold (next_of m.reference) tally (map (rung_at m) ts)

pub pass-start : (ticks : List ℕ) (m : Interest) (first : Rung) (tally : Tally) (high : ℕ) → first ≡ rung_at m first.price → tally ≡ alone_of first
    → onward m tally (filter (between (first.price + 1) high) ticks) ≡ tally_over ticks m first.price high
pass-start ticks m first tally high r t = ap (λ x. onward m x (filter (between (first.price + 1) high) ticks)) (t ∙ ap alone_of r)

pub pass-more : (m : Interest) (q : ℕ) (before left : List ℕ) (tally tally' W : Tally) (at : Rung) → before ≡ q ∷ left → at ≡ rung_at m q → tally' ≡ next_of m.reference tally at
    → onward m tally before ≡ W → onward m tally' left ≡ W
pass-more m q before left tally tally' W at e r n h =
    let k : onward m tally (q ∷ left) ≡ W = ap (onward m tally) (sym e) ∙ h in
    ap (λ x. onward m x left) (n ∙ ap (next_of m.reference tally) r) ∙ k

pub pass-done : (m : Interest) (left : List ℕ) (tally W : Tally) → left ≡ [] → onward m tally left ≡ W → tally ≡ W
pass-done m left tally W e h = sym (ap (onward m tally) e) ∙ h

-- the next rung, from the quantities that were carried to it
pub rung-on : (s : Sides) (reference : ℕ) (at : Rung) (q b a : ℕ) → at ≡ rung_at (interest_of s reference) at.price → b ≡ quantity_at at.price s.buys → a ≡ quantity_at q s.offers
    → ◌≡◌ {A = Rung} (record { price = q; bid = (rung_at (interest_of s reference) at.price).bid - quantity_at at.price s.buys; ask = (rung_at (interest_of s reference) at.price).ask + quantity_at q s.offers }) (rung_at (interest_of s reference) q)
    → ◌≡◌ {A = Rung} (record { price = q; bid = at.bid - b; ask = at.ask + a }) (rung_at (interest_of s reference) q)
rung-on s reference at q b a r e f next = (λ i. record { price = q; bid = (r i).bid - e i; ask = (r i).ask + f i }) ∙ next

-- ---- the answer

answer-tied : (m : Interest) (s : Summary) → Tied m s s.low → Tied m s s.high → Tied m s s.near → Tied m s (answer s)
answer-tied m s low high near = either s.positive s.negative
  where
    either : (a b : Bool) → Tied m s (cond a s.high (cond b s.low s.near))
    either true b = high
    either false true = low
    either false false = near

best-answered : (m : Interest) (t : ℕ) (ts : List ℕ) → volume m (price m t ts) ≡ (sweep m (alone m t) ts).best
best-answered m t ts = let s = sums-price m t ts in (answer-tied m (sweep m (alone m t) ts) s.low_seen.1 s.high_seen.1 s.near_seen.1).0

-- what a tally of candidates answers is the price that the steps choose among them
pub auction-same : (m : Interest) (t : ℕ) (ts : List ℕ) → auction_of (onward m (alone_of (rung_at m t)) ts) ≡ auction_on m (t ∷ ts)
auction-same m t ts =
    let s = sweep m (alone m t) ts in
    ap auction_of (sweep-tallied m (alone m t) ts)
    ∙ ap (λ r. cond (s.best == 0) None (Some (indicated r))) (answer-tallied m s)
    ∙ ap (λ n. cond (n == 0) None (Some (indicated (rung_at m (price m t ts))))) (sym (best-answered m t ts))

-- ---- where it starts

-- of both surveys: the span of the limit prices of all orders
pub surveys-span : (s : Sides) (b a : Survey) → b ≡ surveyed s.buys → a ≡ surveyed s.offers → joined_spans b.limits a.limits ≡ span_of (limits (standing s))
surveys-span s b a e f = (λ i. joined_spans ((e i).limits) ((f i).limits)) ∙ span-standing s

-- with no limit order: the market orders of both sides, at any price
pub only-rung : (s : Sides) (reference p : ℕ) (b a : Survey) → b ≡ surveyed s.buys → a ≡ surveyed s.offers → joined_spans b.limits a.limits ≡ None
    → ◌≡◌ {A = Rung} (record { price = p; bid = b.market; ask = a.market }) (rung_at (interest_of s reference) p)
only-rung s reference p b a e f none =
    let n : span_of (limits (standing s)) ≡ None = sym (surveys-span s b a e f) ∙ none in
    (λ i. record { price = p; bid = (e i).market; ask = (f i).market }) ∙ (λ i. record { price = p; bid = sym (demand-only s p n) i; ask = sym (supply-only s p n) i })

-- else all buys, and the market offers with those at the bottom
pub first-rung : (s : Sides) (reference low q : ℕ) (b a : Survey) → b ≡ surveyed s.buys → a ≡ surveyed s.offers → AllByRecursion (λ p. low ≤ p) (limits (standing s)) → q ≡ quantity_at low s.offers
    → ◌≡◌ {A = Rung} (record { price = low; bid = b.all; ask = a.market + q }) (rung_at (interest_of s reference) low)
first-rung s reference low q b a e f least k =
    (λ i. record { price = low; bid = (e i).all; ask = (f i).market + k i }) ∙ (λ i. record { price = low; bid = sym (demand-bottom s low least) i; ask = sym (supply-bottom s low least) i })

-- where the climb begins and ends, and the ladder that it goes up
pub record Start (ticks : List ℕ) (s : Sides) (reference low high : ℕ) (first : Rung) : Type 0 where
  pub end : Tick ticks high
  pub here : first ≡ rung_at (interest_of s reference) low
  pub rungs : ladder ticks s reference ≡ low ∷ filter (between (low + 1) high) ticks

pub starts : (ticks : List ℕ) (floor ceiling : ℕ) (s : Sides) (reference : ℕ) (b a : Survey) (span : Option Span) (sp : Span) (under over : Option ℕ) (low high q : ℕ)
    → Lawful ticks floor ceiling → AllByRecursion (Tick ticks) (limits (standing s)) → b ≡ surveyed s.buys → a ≡ surveyed s.offers → span ≡ joined_spans b.limits a.limits → span ≡ Some sp
    → under ≡ last_below ticks sp.low → low ≡ unwrap_or under sp.low → over ≡ first_above ticks sp.high → high ≡ unwrap_or over sp.high → q ≡ quantity_at low s.offers
    → Start ticks s reference low high (record { price = low; bid = b.all; ask = a.market + q })
starts ticks floor ceiling s reference b a span sp under over low high q l on e f joins is below low_is above high_is k =
    let low_at : low ≡ bottom ticks sp.low = low_is ∙ ap (λ o. unwrap_or o sp.low) below in
    let high_at : high ≡ top ticks sp.high = high_is ∙ ap (λ o. unwrap_or o sp.high) above in
    let end = ends ticks floor ceiling (limits (standing s)) sp l on (sym (surveys-span s b a e f) ∙ sym joins ∙ is) in
    let least = subst (λ x. AllByRecursion (λ q. x ≤ q) (limits (standing s))) (sym low_at) end.least in
    record {
      end = subst (Tick ticks) (sym high_at) end.top;
      here = first-rung s reference low q b a e f least k;
      rungs = end.climb reference ∙ (λ i. sym low_at i ∷ filter (between (sym low_at i + 1) (sym high_at i)) ticks);
    }
