-- For code above any sheet: its first order, and what is left when that is taken.
use Rattle.std.proofs.Common.{◌≡◌, ℕ, suc, ◌+◌, ◌≤◌, true, not, List, [], ◌∷◌, length, Some, None, sym, refl, ap, ◌∙◌, subst, arith}
use Rattle.std.specs.List.{find, list_any}
use Rattle.std.proofs.lemmas.Bool.{eq-eqb, cond-false, not_from_true}
use Rattle.market.specs.declared.order.Order.{Order}
use Rattle.market.specs.declared.order.Side.{Side}
use Rattle.market.specs.declared.order.Side.TheVariants.{Buy, Offer}
use Rattle.sheets.specs.Sides.{Sides, of_side, with_side, standing, numbered, without, take_from, is_behind, next_in}
use Rattle.sheets.specs.Laws.{Free, Apart, LineLaws, SheetLaws}
use Rattle.sheets.proofs.Numbers.{free-same, apart-left, apart-right, apart-cross, apart-cross-back, sides-same}

pub side_fits : (v : Side) (n : ℕ) (s : Sides) → SheetLaws n s → length (of_side v s) ≤ n
side_fits Buy n s l = l.buys.fits
side_fits Offer n s l = l.offers.fits

pub side_laws : (v : Side) (n : ℕ) (s : Sides) → SheetLaws n s → LineLaws v n (of_side v s)
side_laws Buy n s l = l.buys
side_laws Offer n s l = l.offers

top-some : (o : Order) (xs : List Order) → list_any (numbered o.number) (o ∷ xs) ≡ true
top-some o xs = rw (eq-eqb o.number o.number refl) refl

top-gone : (o : Order) (xs : List Order) → Free o.number xs → without o.number (o ∷ xs) ≡ xs
top-gone o xs f =
    cond-false (not (numbered o.number o)) (o ∷ without o.number xs) (without o.number xs) (not_from_true (numbered o.number o) (eq-eqb o.number o.number refl))
    ∙ sym (free-same o.number xs f)

-- the first order of a side taken out
pub top_taken : (v : Side) (s : Sides) (o : Order) (xs : List Order) → Apart (standing s) → of_side v s ≡ o ∷ xs → take_from o.number s ≡ with_side v xs s
top_taken Buy s o xs h e =
    let k = o.number in
    let some : list_any (numbered k) s.buys ≡ true = ap (list_any (numbered k)) e ∙ top-some o xs in
    let own : Apart (o ∷ xs) = subst Apart e (apart-left s.buys s.offers h) in
    sides-same (without k s.buys) (without k s.offers) xs s.offers
    (ap (without k) e ∙ top-gone o xs own.0)
    (sym (free-same k s.offers (apart-cross k s.buys s.offers h some)))
top_taken Offer s o xs h e =
    let k = o.number in
    let some : list_any (numbered k) s.offers ≡ true = ap (list_any (numbered k)) e ∙ top-some o xs in
    let own : Apart (o ∷ xs) = subst Apart e (apart-right s.buys s.offers h) in
    sides-same (without k s.buys) (without k s.offers) s.buys xs
    (sym (free-same k s.buys (apart-cross-back k s.buys s.offers h some)))
    (ap (without k) e ∙ top-gone o xs own.0)

-- `next` with no priority
pub top-none : (xs : List Order) (v : Side) → None ≡ find (is_behind v None) xs → xs ≡ []
top-none [] v e = refl
top-none (x ∷ xs) v e = absurd (let z : ◌≡◌ {A = ℕ} 0 1 = cc in omega arith)

pub top-some-is : (xs : List Order) (v : Side) (o : Order) → Some o ≡ find (is_behind v None) xs → (ys : List Order) × (xs ≡ o ∷ ys)
top-some-is [] v o e = absurd (let z : ◌≡◌ {A = ℕ} 0 1 = cc in omega arith)
top-some-is (x ∷ xs) v o e = let q : x ≡ o = cc in (xs, ap (λ y. y ∷ xs) q)

pub side_with : (v : Side) (xs : List Order) (s : Sides) → of_side v (with_side v xs s) ≡ xs
side_with Buy xs s = refl
side_with Offer xs s = refl

pub with_with : (v : Side) (xs ys : List Order) (s : Sides) → with_side v xs (with_side v ys s) ≡ with_side v xs s
with_with Buy xs ys s = refl
with_with Offer xs ys s = refl

pub with_own : (v : Side) (xs : List Order) (s : Sides) → of_side v s ≡ xs → s ≡ with_side v xs s
with_own Buy xs s e = sides-same s.buys s.offers xs s.offers e refl
with_own Offer xs s e = sides-same s.buys s.offers s.buys xs refl e

-- ---- one turn of a loop that takes the first order of a side until there is none

pub record Turn (v : Side) (s t : Sides) : Type 0 where
  pub shorter : length (of_side v t) + 1 ≡ length (of_side v s)
  pub rest : with_side v [] t ≡ with_side v [] s

pub turn : (v : Side) (n : ℕ) (s t : Sides) (o : Order) → SheetLaws n s → Some o ≡ next_in v None s → t ≡ take_from o.number s → Turn v s t
turn v n s t o l e after =
    let q = top-some-is (of_side v s) v o e in
    let is : t ≡ with_side v q.0 s = after ∙ top_taken v s o q.0 l.apart q.1 in
    let a : length (of_side v t) ≡ length q.0 = ap (λ (m : Sides). length (of_side v m)) is ∙ ap length (side_with v q.0 s) in
    let b : length (of_side v s) ≡ suc (length q.0) = ap length q.1 in
    record {
      shorter = omega arith;
      rest = ap (with_side v []) is ∙ with_with v [] q.0 s;
    }

pub emptied : (v : Side) (s t : Sides) → with_side v [] t ≡ with_side v [] s → None ≡ next_in v None t → t ≡ with_side v [] s
emptied v s t r e = with_own v [] t (top-none (of_side v t) v e) ∙ r
