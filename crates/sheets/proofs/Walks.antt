-- For code above any sheet, a walk along a side: the next order behind one, and an order taken out or replaced where it stands.
use Rattle.std.proofs.Common.{◌||◌, ◌≡◌, ℕ, Bool, true, false, cond, not, List, [], ◌∷◌, ◌++◌, Some, None, filter, sym, refl, ap, ◌∙◌, subst, ⊎_elim}
use Rattle.std.specs.List.{AllByRecursion, find, list_any}
use Rattle.std.proofs.lemmas.Bool.{both_ways, cases_Bool, eq-eqb, cond-true, cond-false, not_from_true}
use Rattle.std.proofs.lemmas.List.Elements.{filter-append}
use Rattle.ordered.specs.Sorting.{insert_by, Sorted}
use Rattle.market.specs.declared.order.Order.{Order}
use Rattle.market.specs.declared.order.Side.{Side}
use Rattle.market.specs.declared.order.Side.TheVariants.{Buy, Offer}
use Rattle.market.specs.declared.priority.Priority.{Priority}
use Rattle.market.specs.Priority.{leads, priority_of}
use Rattle.sheets.specs.Sides.{Sides, of_side, with_side, standing, numbered, same_side, on, outranks, without, take_from, joined, put_in, over, full, is_behind, next_in}
use Rattle.sheets.specs.Laws.{Free, Apart, SheetLaws}
use Rattle.sheets.proofs.Ranks.{outranks-irreflexive, outranks-transitive}
use Rattle.sheets.proofs.Numbers.{free-same, apart-left, apart-right, apart-cross, apart-cross-back, sides-same, all_right}
use Rattle.sheets.proofs.Keeps.{over-some}
use Rattle.sheets.proofs.Tops.{side_laws, side_with, with_with}

-- ---- the next one

kept-all : {X : Type 0} (p : X → Bool) (xs : List X) → AllByRecursion (λ x. p x ≡ true) xs → filter p xs ≡ xs
kept-all p [] h = refl
kept-all p (x ∷ xs) h = rw h.0 (ap (λ ys. x ∷ ys) (kept-all p xs h.1))

first-kept : {X : Type 0} (p : X → Bool) (xs : List X) → find p xs ≡ find (λ _. true) (filter p xs)
first-kept p [] = refl
first-kept p (x ∷ xs) =
    elim (p x) as (λ b. cond b (Some x) (find p xs) ≡ find (λ _. true) (cond b (x ∷ filter p xs) (filter p xs)))
    [ true ↦ refl | false ↦ first-kept p xs ]

-- what is ahead is not behind
outranked : (v : Side) (x o : Order) → outranks v x o ≡ true → outranks v o x ≡ false
outranked v x o t =
    ⊎_elim
    (λ u. absurd (both_ways (outranks v x x) (outranks-irreflexive v x) (outranks-transitive v x o x t u)))
    (λ f. f)
    (cases_Bool (outranks v o x))

-- the orders behind o are those after it
pub behind_those : (v : Side) (xs ys : List Order) (o : Order) → Sorted (outranks v) (xs ++ o ∷ ys) → filter (outranks v o) (xs ++ o ∷ ys) ≡ ys
behind_those v [] ys o h =
    cond-false (outranks v o o) (o ∷ filter (outranks v o) ys) (filter (outranks v o) ys) (outranks-irreflexive v o)
    ∙ kept-all (outranks v o) ys h.0
behind_those v (x ∷ xs) ys o h =
    cond-false (outranks v o x) (x ∷ filter (outranks v o) (xs ++ o ∷ ys)) (filter (outranks v o) (xs ++ o ∷ ys))
    (outranked v x o (all_right (λ y. outranks v x y ≡ true) xs (o ∷ ys) h.0).0)
    ∙ behind_those v xs ys o h.1

pub next-after : (v : Side) (n : ℕ) (s : Sides) (xs ys : List Order) (o : Order) → SheetLaws n s → of_side v s ≡ xs ++ o ∷ ys → next_in v (Some (priority_of o)) s ≡ find (is_behind v None) ys
next-after v n s xs ys o l e =
    ap (find (outranks v o)) e
    ∙ first-kept (outranks v o) (xs ++ o ∷ ys)
    ∙ ap (find (λ _. true)) (behind_those v xs ys o (subst (Sorted (outranks v)) e (side_laws v n s l).sorted))

-- ---- taken out where it stands

some-mid : (o : Order) (xs ys : List Order) → list_any (numbered o.number) (xs ++ o ∷ ys) ≡ true
some-mid o [] ys = ap (λ b. b || list_any (numbered o.number) ys) (eq-eqb o.number o.number refl)
some-mid o (x ∷ xs) ys =
    elim (numbered o.number x) as (λ b. (b || list_any (numbered o.number) (xs ++ o ∷ ys)) ≡ true)
    [ true ↦ refl | false ↦ some-mid o xs ys ]

top-gone : (o : Order) (xs : List Order) → without o.number (o ∷ xs) ≡ without o.number xs
top-gone o xs = cond-false (not (numbered o.number o)) (o ∷ without o.number xs) (without o.number xs) (not_from_true (numbered o.number o) (eq-eqb o.number o.number refl))

free-before : (o : Order) (xs ys : List Order) → Apart (xs ++ o ∷ ys) → Free o.number xs
free-before o xs ys h = apart-cross-back o.number xs (o ∷ ys) h (some-mid o [] ys)

free-after : (o : Order) (xs ys : List Order) → Apart (xs ++ o ∷ ys) → Free o.number ys
free-after o xs ys h = (apart-right xs (o ∷ ys) h).0

gone_mid : (o : Order) (xs ys : List Order) → Apart (xs ++ o ∷ ys) → without o.number (xs ++ o ∷ ys) ≡ xs ++ ys
gone_mid o xs ys h =
    let k = o.number in
    filter-append (λ x. not (numbered k x)) xs (o ∷ ys)
    ∙ ap (λ zs. zs ++ without k (o ∷ ys)) (sym (free-same k xs (free-before o xs ys h)))
    ∙ ap (λ zs. xs ++ zs) (top-gone o ys ∙ sym (free-same k ys (free-after o xs ys h)))

-- the other side is free of what stands on this one
pub taken_at : (v : Side) (s : Sides) (xs ys : List Order) (o : Order) → Apart (standing s) → of_side v s ≡ xs ++ o ∷ ys → take_from o.number s ≡ with_side v (xs ++ ys) s
taken_at Buy s xs ys o h e =
    let k = o.number in
    let own : Apart (xs ++ o ∷ ys) = subst Apart e (apart-left s.buys s.offers h) in
    sides-same (without k s.buys) (without k s.offers) (xs ++ ys) s.offers
    (ap (without k) e ∙ gone_mid o xs ys own)
    (sym (free-same k s.offers (apart-cross k s.buys s.offers h (ap (list_any (numbered k)) e ∙ some-mid o xs ys))))
taken_at Offer s xs ys o h e =
    let k = o.number in
    let own : Apart (xs ++ o ∷ ys) = subst Apart e (apart-right s.buys s.offers h) in
    sides-same (without k s.buys) (without k s.offers) s.buys (xs ++ ys)
    (sym (free-same k s.buys (apart-cross-back k s.buys s.offers h (ap (list_any (numbered k)) e ∙ some-mid o xs ys))))
    (ap (without k) e ∙ gone_mid o xs ys own)

-- ---- replaced where it stands, at the same priority

insert-mid : (v : Side) (o p : Order) (xs ys : List Order) → priority_of p ≡ priority_of o → Sorted (outranks v) (xs ++ o ∷ ys) → insert_by (outranks v) p (xs ++ ys) ≡ xs ++ p ∷ ys
insert-mid v o p [] [] same h = refl
insert-mid v o p [] (y ∷ ys) same h =
    cond-true (outranks v p y) (p ∷ y ∷ ys) (y ∷ insert_by (outranks v) p ys) (ap (λ (q : Priority). leads v q (priority_of y)) same ∙ h.0.0)
insert-mid v o p (x ∷ xs) ys same h =
    cond-false (outranks v p x) (p ∷ x ∷ (xs ++ ys)) (x ∷ insert_by (outranks v) p (xs ++ ys))
    (ap (λ (q : Priority). leads v q (priority_of x)) same ∙ outranked v x o (all_right (λ y. outranks v x y ≡ true) xs (o ∷ ys) h.0).0)
    ∙ ap (λ zs. x ∷ zs) (insert-mid v o p xs ys same h.1)

put_in-at : (v : Side) (o : Order) (s t : Sides) (zs : List Order) → o.side ≡ v → take_from o.number s ≡ t → insert_by (outranks v) o (of_side v t) ≡ zs → put_in o s ≡ with_side v zs t
put_in-at Buy o s t zs e after q =
    sides-same (joined Buy o (without o.number s.buys)) (joined Offer o (without o.number s.offers)) zs t.offers
    (ap (λ (m : Sides). joined Buy o m.buys) after ∙ cond-true (on Buy o) (insert_by (outranks Buy) o t.buys) t.buys (ap (same_side Buy) e) ∙ q)
    (ap (λ (m : Sides). joined Offer o m.offers) after ∙ cond-false (on Offer o) (insert_by (outranks Offer) o t.offers) t.offers (ap (same_side Offer) e))
put_in-at Offer o s t zs e after q =
    sides-same (joined Buy o (without o.number s.buys)) (joined Offer o (without o.number s.offers)) t.buys zs
    (ap (λ (m : Sides). joined Buy o m.buys) after ∙ cond-false (on Buy o) (insert_by (outranks Buy) o t.buys) t.buys (ap (same_side Buy) e))
    (ap (λ (m : Sides). joined Offer o m.offers) after ∙ cond-true (on Offer o) (insert_by (outranks Offer) o t.offers) t.offers (ap (same_side Offer) e) ∙ q)

-- p, of the same priority and so of the same number, in o's place
pub replaced_at : (v : Side) (n : ℕ) (s : Sides) (xs ys : List Order) (o p : Order) → SheetLaws n s → of_side v s ≡ xs ++ o ∷ ys → p.side ≡ v → priority_of p ≡ priority_of o → put_in p s ≡ with_side v (xs ++ p ∷ ys) s
replaced_at v n s xs ys o p l e side same =
    let number : p.number ≡ o.number = ap (λ (q : Priority). q.number) same in
    let gone : take_from p.number s ≡ with_side v (xs ++ ys) s = ap (λ (k : ℕ). take_from k s) number ∙ taken_at v s xs ys o l.apart e in
    put_in-at v p s (with_side v (xs ++ ys) s) (xs ++ p ∷ ys) side gone
    (ap (insert_by (outranks v) p) (side_with v (xs ++ ys) s) ∙ insert-mid v o p xs ys same (subst (Sorted (outranks v)) e (side_laws v n s l).sorted))
    ∙ with_with v (xs ++ p ∷ ys) (xs ++ ys) s

-- and it is not refused
pub replaced_fits : (v : Side) (n : ℕ) (s : Sides) (xs ys : List Order) (o p : Order) → of_side v s ≡ xs ++ o ∷ ys → p.side ≡ v → p.number ≡ o.number → full n p s ≡ false
replaced_fits v n s xs ys o p e side number =
    ap (λ (w : Side). over n p.number (of_side w s)) side
    ∙ over-some n p.number (of_side v s) (ap (λ (k : ℕ). list_any (numbered k) (of_side v s)) number ∙ ap (list_any (numbered o.number)) e ∙ some-mid o xs ys)
