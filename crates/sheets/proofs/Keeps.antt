-- The laws of a sheet are kept by a take and by a put.
use Rattle.std.proofs.Common.{◌≡◌, ℕ, suc, ◌^◌, ◌<◌, ◌≤◌, Bool, true, false, cond, not, ◌&&◌, ltb, leb, List, [], ◌∷◌, ◌++◌, length, filter, sym, refl, ap, ◌∙◌, subst, ⊎_elim, arith}
use Rattle.std.specs.List.{AllByRecursion, list_all, list_any}
use Rattle.std.proofs.lemmas.List.Elements.{filter-append}
use Rattle.std.proofs.ByRecursion.{all_kept_by, All-append}
use Rattle.std.proofs.lemmas.Bool.{cases_Bool, both_ways, and_from, and_cases, not-false, not_from_false, le-leb, lt-ltb, lt-leb, leb-false, cond-true, cond-false}
use Rattle.ordered.specs.Sorting.{insert_by, Sorted}
use Rattle.ordered.proofs.Tests.{all-to}
use Rattle.ordered.proofs.Sorts.{all_insert, sorted_insert, length-insert}
use Rattle.market.specs.declared.order.Order.{Order}
use Rattle.market.specs.declared.order.Side.{Side}
use Rattle.market.specs.declared.order.Side.TheVariants.{Buy, Offer}
use Rattle.sheets.specs.Sides.{Sides, sides_of, of_side, with_side, standing, numbered, same_side, on, outranks, without, take_from, joined, put_in, over, full}
use Rattle.sheets.specs.Tests.{is_sorted, is_apart, is_bounded, is_line, is_sheet}
use Rattle.sheets.specs.Laws.{Free, Apart, Bounded, LineLaws, SheetLaws}
use Rattle.sheets.proofs.Ranks.{outranks-transitive, outranks-total}
use Rattle.sheets.proofs.Numbers.{all_left, all_right, without-free, free-none, apart-kept, sides-same}

-- ---- the test tells no more than the laws

sorted-to : {X : Type 0} (ahead : X → X → Bool) (xs : List X) → Sorted ahead xs → is_sorted ahead xs ≡ true
sorted-to ahead [] e = refl
sorted-to ahead (x ∷ xs) e = and_from (list_all (ahead x) xs) (is_sorted ahead xs) (all-to (ahead x) (λ y. ahead x y ≡ true) (λ y h. h) xs e.0) (sorted-to ahead xs e.1)

side_on : (v w : Side) → w ≡ v → same_side v w ≡ true
side_on Buy w e = ap (same_side Buy) e
side_on Offer w e = ap (same_side Offer) e

bounded-to : (o : Order) → Bounded o → is_bounded o ≡ true
bounded-to o b =
    and_from (ltb o.number (2 ^ 32) && ltb o.price (2 ^ 32)) (ltb o.rank (2 ^ 32) && ltb o.quantity (2 ^ 32))
    (and_from (ltb o.number (2 ^ 32)) (ltb o.price (2 ^ 32)) (lt-ltb o.number (2 ^ 32) b.number) (lt-ltb o.price (2 ^ 32) b.price))
    (and_from (ltb o.rank (2 ^ 32)) (ltb o.quantity (2 ^ 32)) (lt-ltb o.rank (2 ^ 32) b.rank) (lt-ltb o.quantity (2 ^ 32) b.quantity))

pub apart-to : (xs : List Order) → Apart xs → is_apart xs ≡ true
apart-to [] e = refl
apart-to (x ∷ xs) e = and_from (not (list_any (numbered x.number) xs)) (is_apart xs) (not_from_false (list_any (numbered x.number) xs) (free-none x.number xs e.0)) (apart-to xs e.1)

line-to : (v : Side) (n : ℕ) (xs : List Order) → LineLaws v n xs → is_line v n xs ≡ true
line-to v n xs l =
    and_from (leb (length xs) n && list_all (on v) xs) (is_sorted (outranks v) xs && list_all is_bounded xs)
    (and_from (leb (length xs) n) (list_all (on v) xs) (le-leb (length xs) n l.fits) (all-to (on v) (λ o. o.side ≡ v) (λ o. side_on v o.side) xs l.sided))
    (and_from (is_sorted (outranks v) xs) (list_all is_bounded xs) (sorted-to (outranks v) xs l.sorted) (all-to is_bounded Bounded bounded-to xs l.bounded))

pub tested : (n : ℕ) (s : Sides) → SheetLaws n s → is_sheet n s ≡ true
tested n s l =
    and_from (leb n 2048 && is_apart (standing s)) (is_line Buy n s.buys && is_line Offer n s.offers)
    (and_from (leb n 2048) (is_apart (standing s)) (le-leb n 2048 l.small) (apart-to (standing s) l.apart))
    (and_from (is_line Buy n s.buys) (is_line Offer n s.offers) (line-to Buy n s.buys l.buys) (line-to Offer n s.offers l.offers))

-- ---- a take

sorted-kept : {X : Type 0} (ahead : X → X → Bool) (p : X → Bool) (xs : List X) → Sorted ahead xs → Sorted ahead (filter p xs)
sorted-kept ahead p [] h = tt
sorted-kept ahead p (x ∷ xs) h =
    elim (p x) as (λ b. Sorted ahead (cond b (x ∷ filter p xs) (filter p xs)))
    [ true ↦ (all_kept_by p (λ y. ahead x y ≡ true) xs h.0, sorted-kept ahead p xs h.1) | false ↦ sorted-kept ahead p xs h.1 ]

length-kept : {X : Type 0} (p : X → Bool) (xs : List X) → length (filter p xs) ≤ length xs
length-kept p [] = omega arith
length-kept p (x ∷ xs) =
    let h = length-kept p xs in
    elim (p x) as (λ b. length (cond b (x ∷ filter p xs) (filter p xs)) ≤ suc (length xs))
    [ true ↦ omega arith | false ↦ omega arith ]

-- one that stands leaves a place
length_without : (n : ℕ) (xs : List Order) → list_any (numbered n) xs ≡ true → length (without n xs) < length xs
length_without n [] e = absurd (both_ways false refl e)
length_without n (x ∷ xs) e =
    ⊎_elim
    (λ t. rw t (let h = length-kept (λ y. not (numbered n y)) xs in omega arith))
    (λ f. rw f (let h = length_without n xs (rw f at e) in omega arith))
    (cases_Bool (numbered n x))

line_kept : (s : Side) (n k : ℕ) (xs : List Order) → LineLaws s n xs → LineLaws s n (without k xs)
line_kept s n k xs l =
    let p : Order → Bool = λ x. not (numbered k x) in
    record {
      fits = let h = length-kept p xs in let f = l.fits in omega arith;
      sided = all_kept_by p (λ o. o.side ≡ s) xs l.sided;
      sorted = sorted-kept (outranks s) p xs l.sorted;
      bounded = all_kept_by p Bounded xs l.bounded;
    }

pub take-lawful : (n k : ℕ) (s : Sides) → SheetLaws n s → SheetLaws n (take_from k s)
take-lawful n k s l =
    record {
      small = l.small;
      buys = line_kept Buy n k s.buys l.buys;
      offers = line_kept Offer n k s.offers l.offers;
      apart = subst Apart (filter-append (λ x. not (numbered k x)) s.buys s.offers) (apart-kept k (standing s) l.apart);
    }

-- ---- a put

all-insert-left : {X : Type 0} (ahead : X → X → Bool) (P : X → Type 0) (x : X) (xs ys : List X) → P x → AllByRecursion P (xs ++ ys) → AllByRecursion P (insert_by ahead x xs ++ ys)
all-insert-left ahead P x xs ys px h = All-append P (insert_by ahead x xs) ys (all_insert ahead P x xs px (all_left P xs ys h)) (all_right P xs ys h)

apart-insert-left : (ahead : Order → Order → Bool) (o : Order) (xs ys : List Order) → Free o.number (xs ++ ys) → Apart (xs ++ ys) → Apart (insert_by ahead o xs ++ ys)
apart-insert-left ahead o [] ys f h = (f, h)
apart-insert-left ahead o (x ∷ xs) ys f h =
    elim (ahead o x) as (λ b. Apart (cond b (o ∷ x ∷ xs) (x ∷ insert_by ahead o xs) ++ ys)) [
      | true ↦ (f, h)
      | false ↦ (all-insert-left ahead (λ y. y.number ≡ x.number → ⊥) o xs ys (λ e. f.0 (sym e)) h.0, apart-insert-left ahead o xs ys f.1 h.1)
    ]

apart-insert : (ahead : Order → Order → Bool) (o : Order) (xs : List Order) → Free o.number xs → Apart xs → Apart (insert_by ahead o xs)
apart-insert ahead o [] f h = (tt, tt)
apart-insert ahead o (x ∷ xs) f h =
    elim (ahead o x) as (λ b. Apart (cond b (o ∷ x ∷ xs) (x ∷ insert_by ahead o xs))) [
      | true ↦ (f, h)
      | false ↦ (all_insert ahead (λ y. y.number ≡ x.number → ⊥) o xs (λ e. f.0 (sym e)) h.0, apart-insert ahead o xs f.1 h.1)
    ]

apart-insert-right : (ahead : Order → Order → Bool) (o : Order) (xs ys : List Order) → Free o.number (xs ++ ys) → Apart (xs ++ ys) → Apart (xs ++ insert_by ahead o ys)
apart-insert-right ahead o [] ys f h = apart-insert ahead o ys f h
apart-insert-right ahead o (x ∷ xs) ys f h = (
  All-append (λ y. y.number ≡ x.number → ⊥) xs (insert_by ahead o ys)
      (all_left (λ y. y.number ≡ x.number → ⊥) xs ys h.0)
      (all_insert ahead (λ y. y.number ≡ x.number → ⊥) o ys (λ e. f.0 (sym e)) (all_right (λ y. y.number ≡ x.number → ⊥) xs ys h.0)),
  apart-insert-right ahead o xs ys f.1 h.1,
)

line-put : (s : Side) (n : ℕ) (o : Order) (xs : List Order) → o.side ≡ s → Bounded o → length xs < n → Free o.number xs → LineLaws s n xs → LineLaws s n (insert_by (outranks s) o xs)
line-put s n o xs e b lt f l =
    let h = length-insert (outranks s) o xs in
    record {
      fits = omega arith;
      sided = all_insert (outranks s) (λ x. x.side ≡ s) o xs e l.sided;
      sorted = sorted_insert (outranks s) (λ (x : Order). x.number) (outranks-transitive s) (outranks-total s) o xs f l.sorted;
      bounded = all_insert (outranks s) Bounded o xs b l.bounded;
    }

-- o of a new number, with a place on its side
abbrev pub added : Order → Sides → Sides
added o s = sides_of (joined Buy o s.buys) (joined Offer o s.offers)

-- it joins its own side only
pub added-at : (v : Side) (o : Order) (s : Sides) → o.side ≡ v → with_side v (insert_by (outranks v) o (of_side v s)) s ≡ added o s
added-at Buy o s e =
    sides-same (insert_by (outranks Buy) o s.buys) s.offers (joined Buy o s.buys) (joined Offer o s.offers)
    (sym (cond-true (on Buy o) (insert_by (outranks Buy) o s.buys) s.buys (ap (same_side Buy) e))) (sym (cond-false (on Offer o) (insert_by (outranks Offer) o s.offers) s.offers (ap (same_side Offer) e)))
added-at Offer o s e =
    sides-same s.buys (insert_by (outranks Offer) o s.offers) (joined Buy o s.buys) (joined Offer o s.offers)
    (sym (cond-false (on Buy o) (insert_by (outranks Buy) o s.buys) s.buys (ap (same_side Buy) e))) (sym (cond-true (on Offer o) (insert_by (outranks Offer) o s.offers) s.offers (ap (same_side Offer) e)))

with_lawful : (v : Side) (n : ℕ) (o : Order) (s : Sides) → o.side ≡ v → Bounded o → Free o.number (standing s) → length (of_side v s) < n → SheetLaws n s → SheetLaws n (with_side v (insert_by (outranks v) o (of_side v s)) s)
with_lawful Buy n o s e b f lt l =
    record {
      small = l.small;
      buys = line-put Buy n o s.buys e b lt (all_left (λ x. x.number ≡ o.number → ⊥) s.buys s.offers f) l.buys;
      offers = l.offers;
      apart = apart-insert-left (outranks Buy) o s.buys s.offers f l.apart;
    }
with_lawful Offer n o s e b f lt l =
    record {
      small = l.small;
      buys = l.buys;
      offers = line-put Offer n o s.offers e b lt (all_right (λ x. x.number ≡ o.number → ⊥) s.buys s.offers f) l.offers;
      apart = apart-insert-right (outranks Offer) o s.buys s.offers f l.apart;
    }

-- what a list that took the order in leaves of the test
pub still-added : (v : Side) (n : ℕ) (o : Order) (s : Sides) (zs : List Order) → o.side ≡ v → Bounded o → Free o.number (standing s) → length (of_side v s) < n → SheetLaws n s
    → zs ≡ insert_by (outranks v) o (of_side v s) → is_sheet n (with_side v zs s) ≡ true
still-added v n o s zs e b f lt l is =
    ap (λ (ys : List Order). is_sheet n (with_side v ys s)) is
    ∙ tested n (with_side v (insert_by (outranks v) o (of_side v s)) s) (with_lawful v n o s e b f lt l)

add_lawful : (n : ℕ) (o : Order) (s : Sides) → Bounded o → Free o.number (standing s) → length (of_side o.side s) < n → SheetLaws n s → SheetLaws n (added o s)
add_lawful n o s b f lt l = subst (SheetLaws n) (added-at o.side o s refl) (with_lawful o.side n o s refl b f lt l)

pub taken_free : (k : ℕ) (s : Sides) → Free k (standing (take_from k s))
taken_free k s = All-append (λ x. x.number ≡ k → ⊥) (without k s.buys) (without k s.offers) (without-free k s.buys) (without-free k s.offers)

place_at : (n k : ℕ) (xs : List Order) → length xs ≤ n → over n k xs ≡ false → length (without k xs) < n
place_at n k xs le f =
    ⊎_elim
    (λ h. let a = length-kept (λ x. not (numbered k x)) xs in let b = leb-false n (length xs) h in omega arith)
    (λ h. let a = length_without k xs (not-false (list_any (numbered k) xs) h) in omega arith)
    (and_cases (leb n (length xs)) (not (list_any (numbered k) xs)) f)

-- where it is not refused, the order of that number taken out leaves a place
place-by : (v : Side) (n k : ℕ) (s : Sides) → SheetLaws n s → over n k (of_side v s) ≡ false → length (of_side v (take_from k s)) < n
place-by Buy n k s l f = place_at n k s.buys l.buys.fits f
place-by Offer n k s l f = place_at n k s.offers l.offers.fits f

pub taken-place : (n : ℕ) (o : Order) (s : Sides) → SheetLaws n s → full n o s ≡ false → length (of_side o.side (take_from o.number s)) < n
taken-place n o s l f = place-by o.side n o.number s l f

pub put-lawful : (n : ℕ) (o : Order) (s : Sides) → SheetLaws n s → Bounded o → full n o s ≡ false → SheetLaws n (put_in o s)
put-lawful n o s l b f = add_lawful n o (take_from o.number s) b (taken_free o.number s) (taken-place n o s l f) (take-lawful n o.number s l)

-- ---- the test of a put

-- at n orders, it depends on whether one of that number was found
pub over-found : (n k : ℕ) (xs : List Order) (found : Bool) → n ≤ length xs → found ≡ list_any (numbered k) xs → not found ≡ over n k xs
over-found n k xs found le e = ap not e ∙ sym (ap (λ t. t && not (list_any (numbered k) xs)) (le-leb n (length xs) le))

-- the same by an answer that says whether none was found
pub over-full : (n k : ℕ) (xs : List Order) (found b : Bool) → n ≤ length xs → list_any (numbered k) xs ≡ found → found ≡ not b → b ≡ over n k xs
over-full n k xs found b le e h = sym (ap not h ∙ twice b) ∙ over-found n k xs found le (sym e)
  where
    twice : (t : Bool) → not (not t) ≡ t
    twice true = refl
    twice false = refl

-- under n orders there is a place
pub over-less : (n k m : ℕ) (xs : List Order) → m ≡ length xs → m < n → leb n m ≡ over n k xs
over-less n k m xs e lt =
    let f : leb n (length xs) ≡ false = lt-leb n (length xs) (omega arith) in
    ap (leb n) e ∙ f ∙ sym (ap (λ t. t && not (list_any (numbered k) xs)) f)

-- one of that number keeps its place
pub over-some : (n k : ℕ) (xs : List Order) → list_any (numbered k) xs ≡ true → over n k xs ≡ false
over-some n k xs e = ap (λ b. leb n (length xs) && not b) e ∙ last (leb n (length xs))
  where
    last : (b : Bool) → (b && false) ≡ false
    last true = refl
    last false = refl
