-- A take and a put keep what holds of each order that stands, and that no two have the same rank.
use Rattle.std.proofs.Common.{◌≡◌, ℕ, Bool, true, false, cond, not, List, [], ◌∷◌, ◌++◌, filter, Some, ◌==◌, refl, sym, ap, ◌∙◌, subst, arith}
use Rattle.std.specs.List.{AllByRecursion, IsDistinct, find}
use Rattle.std.proofs.ByRecursion.{all_kept_by, All-append}
use Rattle.std.proofs.lemmas.List.Elements.{filter-append}
use Rattle.std.proofs.lemmas.Bool.{eqb-true, eqb-false, ne_eqb}
use Rattle.ordered.specs.Sorting.{insert_by}
use Rattle.ordered.proofs.Sorts.{all_insert}
use Rattle.market.specs.declared.order.Order.{Order}
use Rattle.market.specs.declared.order.Side.{Side}
use Rattle.market.specs.declared.order.Side.TheVariants.{Buy, Offer}
use Rattle.sheets.specs.Sides.{Sides, of_side, with_side, standing, numbered, outranks, without, take_from, put_in}
use Rattle.sheets.proofs.Keeps.{added-at}
use Rattle.sheets.proofs.Numbers.{all_left, all_right}

-- ---- each order

pub all-taken : (P : Order → Type 0) (n : ℕ) (s : Sides) → AllByRecursion P (standing s) → AllByRecursion P (standing (take_from n s))
all-taken P n s h =
    subst (AllByRecursion P) (filter-append (λ x. not (numbered n x)) s.buys s.offers) (all_kept_by (λ x. not (numbered n x)) P (standing s) h)

-- o joins side v
all-joins : (P : Order → Type 0) (v : Side) (o : Order) (s : Sides) → P o → AllByRecursion P (standing s)
    → AllByRecursion P (standing (with_side v (insert_by (outranks v) o (of_side v s)) s))
all-joins P Buy o s p h =
    All-append P (insert_by (outranks Buy) o s.buys) s.offers (all_insert (outranks Buy) P o s.buys p (all_left P s.buys s.offers h)) (all_right P s.buys s.offers h)
all-joins P Offer o s p h =
    All-append P s.buys (insert_by (outranks Offer) o s.offers) (all_left P s.buys s.offers h) (all_insert (outranks Offer) P o s.offers p (all_right P s.buys s.offers h))

pub all-put : (P : Order → Type 0) (o : Order) (s : Sides) → P o → AllByRecursion P (standing s) → AllByRecursion P (standing (put_in o s))
all-put P o s p h =
    let t = take_from o.number s in
    subst (λ (u : Sides). AllByRecursion P (standing u)) (added-at o.side o t refl) (all-joins P o.side o t p (all-taken P o.number s h))

-- the order that is found has the number, and what holds of each
pub found-is : (P : Order → Type 0) (n : ℕ) (xs : List Order) (o : Order) → find (numbered n) xs ≡ Some o → AllByRecursion P xs → (o.number ≡ n) × P o
found-is P n [] o e h = absurd (let z : ◌≡◌ {A = ℕ} 0 1 = cc in omega arith)
found-is P n (x ∷ xs) o e h = either (numbered n x) refl e (λ t. found-is P n xs o t h.1)
  where
    either : (b : Bool) → numbered n x ≡ b → cond b (Some x) (find (numbered n) xs) ≡ Some o → (find (numbered n) xs ≡ Some o → (o.number ≡ n) × P o) → (o.number ≡ n) × P o
    either true is t rest = let same : x ≡ o = cc in (ap (λ (y : Order). y.number) (sym same) ∙ eqb-true x.number n is, subst P same h.0)
    either false is t rest = rest t

-- ---- ranks

-- whether two orders have the same rank
abbrev pub one_rank : Order → Order → Bool
one_rank x y = x.rank == y.rank

-- no order has the rank of x
abbrev pub Unranked : Order → List Order → Type 0
Unranked x xs = AllByRecursion (λ y. one_rank x y ≡ false) xs

abbrev pub RanksDistinct : List Order → Type 0
RanksDistinct xs = IsDistinct one_rank xs

other-way : (x y : Order) → one_rank x y ≡ false → one_rank y x ≡ false
other-way x y f = ne_eqb y.rank x.rank (λ e. eqb-false x.rank y.rank f (sym e))

distinct-kept : (p : Order → Bool) (xs : List Order) → RanksDistinct xs → RanksDistinct (filter p xs)
unfolding IsDistinct
distinct-kept p [] h = tt
distinct-kept p (x ∷ xs) h =
    elim (p x) as (λ b. RanksDistinct (cond b (x ∷ filter p xs) (filter p xs)))
    [ true ↦ (all_kept_by p (λ y. one_rank x y ≡ false) xs h.0, distinct-kept p xs h.1) | false ↦ distinct-kept p xs h.1 ]

pub distinct-taken : (n : ℕ) (s : Sides) → RanksDistinct (standing s) → RanksDistinct (standing (take_from n s))
distinct-taken n s h =
    subst RanksDistinct (filter-append (λ x. not (numbered n x)) s.buys s.offers) (distinct-kept (λ x. not (numbered n x)) (standing s) h)

module _ (ahead : Order → Order → Bool) (o : Order) where
  insert-left : (xs ys : List Order) → Unranked o (xs ++ ys) → RanksDistinct (xs ++ ys) → RanksDistinct (insert_by ahead o xs ++ ys)
  unfolding IsDistinct
  insert-left [] ys f h = (f, h)
  insert-left (x ∷ xs) ys f h =
      let P : Order → Type 0 = λ y. one_rank x y ≡ false in
      elim (ahead o x) as (λ b. RanksDistinct (cond b (o ∷ x ∷ xs) (x ∷ insert_by ahead o xs) ++ ys)) [
        | true ↦ (f, h)
        | false ↦ (
          All-append P (insert_by ahead o xs) ys (all_insert ahead P o xs (other-way o x f.0) (all_left P xs ys h.0)) (all_right P xs ys h.0),
          insert-left xs ys f.1 h.1,
        )
      ]

  insert-own : (xs : List Order) → Unranked o xs → RanksDistinct xs → RanksDistinct (insert_by ahead o xs)
  unfolding IsDistinct
  insert-own [] f h = (tt, tt)
  insert-own (x ∷ xs) f h =
      elim (ahead o x) as (λ b. RanksDistinct (cond b (o ∷ x ∷ xs) (x ∷ insert_by ahead o xs))) [
        | true ↦ (f, h)
        | false ↦ (all_insert ahead (λ y. one_rank x y ≡ false) o xs (other-way o x f.0) h.0, insert-own xs f.1 h.1)
      ]

  insert-right : (xs ys : List Order) → Unranked o (xs ++ ys) → RanksDistinct (xs ++ ys) → RanksDistinct (xs ++ insert_by ahead o ys)
  unfolding IsDistinct
  insert-right [] ys f h = insert-own ys f h
  insert-right (x ∷ xs) ys f h =
      let P : Order → Type 0 = λ y. one_rank x y ≡ false in (
        All-append P xs (insert_by ahead o ys) (all_left P xs ys h.0) (all_insert ahead P o ys (other-way o x f.0) (all_right P xs ys h.0)),
        insert-right xs ys f.1 h.1,
      )

distinct-joins : (v : Side) (o : Order) (s : Sides) → Unranked o (standing s) → RanksDistinct (standing s)
    → RanksDistinct (standing (with_side v (insert_by (outranks v) o (of_side v s)) s))
distinct-joins Buy o s f h = insert-left (outranks Buy) o s.buys s.offers f h
distinct-joins Offer o s f h = insert-right (outranks Offer) o s.buys s.offers f h

-- an order whose rank no other has
pub distinct-put : (o : Order) (s : Sides) → Unranked o (standing (take_from o.number s)) → RanksDistinct (standing s) → RanksDistinct (standing (put_in o s))
distinct-put o s f h =
    let t = take_from o.number s in
    subst (λ (u : Sides). RanksDistinct (standing u)) (added-at o.side o t refl) (distinct-joins o.side o t f (distinct-taken o.number s h))

-- no other has the rank of an order that is found
others-unranked : (n : ℕ) (xs : List Order) (o : Order) → find (numbered n) xs ≡ Some o → RanksDistinct xs → Unranked o (without n xs)
unfolding IsDistinct
others-unranked n [] o e h = tt
others-unranked n (x ∷ xs) o e h = either (numbered n x) e (λ t. others-unranked n xs o t h.1)
  where
    either : (b : Bool) → cond b (Some x) (find (numbered n) xs) ≡ Some o → (find (numbered n) xs ≡ Some o → Unranked o (without n xs)) → Unranked o (cond (not b) (x ∷ without n xs) (without n xs))
    either true t rest =
        let same : x ≡ o = cc in
        subst (λ (y : Order). Unranked y (without n xs)) same (all_kept_by (λ y. not (numbered n y)) (λ y. one_rank x y ≡ false) xs h.0)
    either false t rest = (other-way x o (found-is (λ y. one_rank x y ≡ false) n xs o t h.0).1, rest t)

pub found-unranked : (n : ℕ) (s : Sides) (o : Order) → find (numbered n) (standing s) ≡ Some o → RanksDistinct (standing s) → Unranked o (standing (take_from n s))
found-unranked n s o e h =
    subst (Unranked o) (filter-append (λ x. not (numbered n x)) s.buys s.offers) (others-unranked n (standing s) o e h)
