-- What holds of a book is kept by every call.
use Rattle.std.proofs.Common.{◌≡◌, ℕ, ◌+◌, ◌<◌, ◌≤◌, Bool, true, false, cond, ◌||◌, List, [], ◌∷◌, Some, None, Ok, Err, Option, Result, ◌==◌, nat_le, nat_lt, refl, sym, subst, arith, IfSome}
use Rattle.std.specs.List.{AllByRecursion, IsDistinct}
use Rattle.std.proofs.ByRecursion.{All-weaker}
use Rattle.std.proofs.lemmas.Bool.{or_parts, eqb-true, eqb-false, ne_eqb, ltb-false, leb-false}
use Rattle.market.specs.declared.order.Kind.{Kind}
use Rattle.market.specs.declared.order.Kind.TheVariants.{Limit, Market}
use Rattle.market.specs.declared.order.Order.{Order}
use Rattle.market.specs.declared.order.Terms.{Terms}
use Rattle.ticks.specs.declared.rule.Cause.{Cause}
use Rattle.sheets.specs.Sides.{Sides, standing, find_in, take_from, put_in}
use Rattle.calls.specs.declared.call.Phase.{Phase}
use Rattle.calls.specs.declared.call.Phase.TheVariants.{Shut, Calling}
use Rattle.calls.specs.declared.call.Call.{Call}
use Rattle.calls.specs.declared.call.Call.TheVariants.{Start, Enter, Withdraw, Amend, Show}
use Rattle.calls.specs.Listed.{Listed, by_letter}
use Rattle.calls.specs.State.{Rule, Setting, State, opened, with_orders}
use Rattle.calls.specs.Machine.{new_order, with_terms, loses_place, first_fit, refused_if, refused_for, unless_admitted, quantity_due, price_due, rank_due, enter_due, amend_due, shut_due, calling_due, due_in, due, sale_of, after_amend, after, goes_on, next, next_all}
use Rattle.calls.specs.Reached.{Admitted, Priced, Proper, Reached, EachReached}
use Rattle.calls.proofs.Standing.{all-taken, all-put, found-is, one_rank, Unranked, RanksDistinct, distinct-taken, distinct-put, found-unranked}

-- ---- nothing is refused

none-due : {A : Type 0} (r : Listed) → Some r ≡ None → A
none-due r e = absurd (let z : ◌≡◌ {A = ℕ} 0 1 = cc in omega arith)

first-passes : (a b : Option Listed) → first_fit a b ≡ None → (a ≡ None) × (b ≡ None)
first-passes None b e = (refl, e)
first-passes (Some r) b e = none-due r e

test-passes : (t : Bool) (n : ℕ) → refused_if t n ≡ None → t ≡ false
test-passes true n e = none-due _ e
test-passes false n e = refl

is-admitted : (n : ℕ) (r : Result (Unit {0}) Cause) → refused_for n r ≡ None → r ≡ Ok tt
is-admitted n (Ok u) e = refl
is-admitted n (Err c) e = none-due _ e

-- the last sale, where there is one
sale-admitted : (rule : Rule) (last : ℕ) → cond (last == 0) None (unless_admitted 7 rule last) ≡ None → IfSome (sale_of last) (Admitted rule)
sale-admitted rule last e = either (last == 0) e
  where
    either : (b : Bool) → cond b None (unless_admitted 7 rule last) ≡ None → IfSome (cond b None (Some last)) (Admitted rule)
    either true t = tt
    either false t = is-admitted 7 _ t

quantity-passes : (q : ℕ) → quantity_due q ≡ None → (1 ≤ q) × (q ≤ 1000000)
quantity-passes q e =
    let p = or_parts (q == 0) (nat_lt 1000000 q) (test-passes (q == 0 || nat_lt 1000000 q) 9 e) in
    let some = eqb-false q 0 p.0 in
    let few = ltb-false 1000000 q p.1 in
    (omega arith, omega arith)

price-passes : (rule : Rule) (k : Kind) (p : ℕ) → price_due rule k p ≡ None → Priced rule k p
price-passes rule Limit p e = is-admitted 10 _ e
price-passes rule Market p e = either (p == 0) refl e
  where
    either : (b : Bool) → (p == 0) ≡ b → cond b None (Some (by_letter 10 77)) ≡ None → p ≡ 0
    either true is t = eqb-true p 0 is
    either false is t = none-due _ t

rank-passes : (used : ℕ) → rank_due used ≡ None → used < 1000000
rank-passes used e = leb-false 1000000 used (test-passes (nat_le 1000000 used) 11 e)

-- ---- ranks

proper-later : (rule : Rule) (used later : ℕ) → used ≤ later → (xs : List Order) → AllByRecursion (Proper rule used) xs → AllByRecursion (Proper rule later) xs
proper-later rule used later le xs h =
    All-weaker (Proper rule used) (Proper rule later)
    (λ o p. record { some = p.some; few = p.few; priced = p.priced; numbered = p.numbered; number = p.number; rank = let r = p.rank in omega arith })
    xs h

-- no order has the next rank
next-unranked : (rule : Rule) (used : ℕ) (o : Order) → o.rank ≡ used + 1 → (xs : List Order) → AllByRecursion (Proper rule used) xs → Unranked o xs
next-unranked rule used o e xs h =
    All-weaker (Proper rule used) (λ y. one_rank o y ≡ false) (λ y p. let r = p.rank in ne_eqb o.rank y.rank (λ same. omega arith)) xs h

-- ---- each call

-- not both phases
not-shut : (s : State) {A : Type 0} → s.phase ≡ Calling → s.phase ≡ Shut → A
not-shut s c h = absurd (let z : ◌≡◌ {A = ℕ} 0 1 = cc in omega arith)

module _ (g : Setting) (s : State) (calling : s.phase ≡ Calling) (h : Reached g s) where
  -- other orders stand
  reached-with : (used : ℕ) (t : Sides) → used ≤ 1000000 → AllByRecursion (Proper g.rule used) (standing t) → RanksDistinct (standing t) → Reached g (with_orders used t s)
  reached-with used t le orders distinct = record {
    ranks = le;
    orders = orders;
    distinct = distinct;
    shut = not-shut s calling;
    prior = h.prior;
    last = h.last;
  }

  -- an order stands that has the next rank
  reached-next-rank : (o : Order) → o.rank ≡ s.used + 1 → s.used < 1000000 → Proper g.rule (s.used + 1) o → Reached g (with_orders (s.used + 1) (put_in o s.sides) s)
  reached-next-rank o e lt p =
      let stand = h.orders in
      reached-with (s.used + 1) (put_in o s.sides) (omega arith)
      (all-put (Proper g.rule (s.used + 1)) o s.sides p (proper-later g.rule s.used (s.used + 1) (omega arith) (standing s.sides) stand))
      (distinct-put o s.sides
      (next-unranked g.rule s.used o e (standing (take_from o.number s.sides)) (all-taken (Proper g.rule s.used) o.number s.sides stand))
      h.distinct)

  reached-enter : (t : Terms (List ℕ)) → enter_due g s t ≡ None → Reached g (after s (Enter t))
  reached-enter t e =
      let a = first-passes (quantity_due t.quantity) _ e in
      let b = first-passes (price_due g.rule t.kind t.price) _ a.1 in
      let c = first-passes (rank_due s.used) _ b.1 in
      let q = quantity-passes t.quantity a.0 in
      reached-next-rank (new_order (s.used + 1) t) refl (rank-passes s.used c.0) record {
        some = q.0;
        few = q.1;
        priced = price-passes g.rule t.kind t.price b.0;
        numbered = omega arith;
        number = omega arith;
        rank = omega arith;
      }

  reached-withdraw : (n : ℕ) → Reached g (after s (Withdraw n))
  reached-withdraw n =
      reached-with s.used (take_from n s.sides) h.ranks (all-taken (Proper g.rule s.used) n s.sides h.orders) (distinct-taken n s.sides h.distinct)

  -- an order is amended that stands
  module _ (n : ℕ) (o : Order) (found : find_in n s.sides ≡ Some o) (price q : ℕ) where
    reached-amended : (loses : Bool) → (1 ≤ q) × (q ≤ 1000000) → Priced g.rule o.kind price → cond loses (rank_due s.used) None ≡ None
        → Reached g (with_orders (cond loses (s.used + 1) s.used) (put_in (with_terms o price (cond loses (s.used + 1) o.rank) q) s.sides) s)
    reached-amended true range priced free =
        let p = (found-is (Proper g.rule s.used) n (standing s.sides) o found h.orders).1 in
        let number = p.number in
        let rank = p.rank in
        reached-next-rank (with_terms o price (s.used + 1) q) refl (rank-passes s.used free)
        record { some = range.0; few = range.1; priced = priced; numbered = p.numbered; number = omega arith; rank = omega arith }
    reached-amended false range priced free =
        let is = found-is (Proper g.rule s.used) n (standing s.sides) o found h.orders in
        let p = is.1 in
        let a = with_terms o price o.rank q in
        reached-with s.used (put_in a s.sides) h.ranks
        (all-put (Proper g.rule s.used) a s.sides record { some = range.0; few = range.1; priced = priced; numbered = p.numbered; number = p.number; rank = p.rank } h.orders)
        (distinct-put a s.sides
        (subst (λ (k : ℕ). Unranked o (standing (take_from k s.sides))) (sym is.0) (found-unranked n s.sides o found h.distinct))
        h.distinct)

  reached-amend : (n price q : ℕ) (found : Option Order) → find_in n s.sides ≡ found → amend_due g.rule s.used found price q ≡ None → Reached g (after_amend s found price q)
  reached-amend n price q None is e = h
  reached-amend n price q (Some o) is e =
      let a = first-passes (quantity_due q) _ e in
      let b = first-passes (price_due g.rule o.kind price) _ a.1 in
      reached-amended n o is price q (loses_place o price q) (quantity-passes q a.0) (price-passes g.rule o.kind price b.0) b.1

  reached-calling : (c : Call) → calling_due g s c ≡ None → Reached g (after s c)
  reached-calling (Start prior last) e = none-due _ e
  reached-calling (Enter t) e = reached-enter t e
  reached-calling (Withdraw n) e = reached-withdraw n
  reached-calling (Amend n price q) e = reached-amend n price q (find_in n s.sides) refl e
  reached-calling (Show n) e = h

reached-shut : (g : Setting) (s : State) → Reached g s → (c : Call) → shut_due g.rule c ≡ None → Reached g (after s c)
reached-shut g s h (Start prior last) e =
    let a = first-passes (unless_admitted 7 g.rule prior) _ e in
    record {
      ranks = h.ranks;
      orders = h.orders;
      distinct = h.distinct;
      shut = not-shut (after s (Start prior last)) refl;
      prior = λ _. is-admitted 7 _ a.0;
      last = λ _. sale-admitted g.rule last a.1;
    }
reached-shut g s h (Enter t) e = none-due _ e
reached-shut g s h (Withdraw n) e = none-due _ e
reached-shut g s h (Amend n price q) e = none-due _ e
reached-shut g s h (Show n) e = none-due _ e

reached-after : (p : Phase) (g : Setting) (s : State) → s.phase ≡ p → Reached g s → (c : Call) → due_in p g s c ≡ None → Reached g (after s c)
reached-after Shut g s is h c e = reached-shut g s h c e
reached-after Calling g s is h c e = reached-calling g s is h c e

-- a refusal leaves the state as it was
reached-on : (g : Setting) (r : Option Listed) (s t : State) → Reached g s → (r ≡ None → Reached g t) → Reached g (goes_on r s t)
reached-on g None s t h f = f refl
reached-on g (Some r) s t h f = h

pub reached-next : (g : Setting) (s : State) (c : Call) → Reached g s → Reached g (next g s c)
reached-next g s c h = reached-on g (due g s c) s (after s c) h (reached-after s.phase g s refl h c)

reached-all : (g : Setting) (cs : List Call) (s : State) → Reached g s → Reached g (next_all g s cs)
reached-all g [] s h = h
reached-all g (c ∷ cs) s h = reached-all g cs (next g s c) (reached-next g s c h)

-- ---- a new book

reached-opened : (g : Setting) → Reached g opened
unfolding IsDistinct
reached-opened g = record {
  ranks = omega arith;
  orders = tt;
  distinct = tt;
  shut = λ _. refl;
  prior = λ e. absurd (let z : ◌≡◌ {A = ℕ} 0 1 = cc in omega arith);
  last = λ e. tt;
}

pub each-reached : EachReached
each-reached g cs = reached-all g cs opened (reached-opened g)
