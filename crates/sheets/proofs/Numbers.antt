-- Orders by their number: what is free of one, and what stands once.
use Rattle.std.proofs.Common.{◌≡◌, ℕ, Bool, true, false, cond, not, List, [], ◌∷◌, ◌++◌, Some, None, refl, ap, ◌∙◌, subst, ⊎_elim, arith, length, sym, slice_index_or}
use Rattle.std.specs.List.{AllByRecursion, find, list_any, position, remove, slice_get}
use Rattle.std.proofs.ByRecursion.{All-weaker, all_kept_by, kept_by_passes}
use Rattle.std.proofs.lemmas.Bool.{cases_Bool, both_ways, eqb-true, eqb-false, ne_eqb, not-true, cond-true, cond-false}
use Rattle.market.specs.declared.order.Order.{Order}
use Rattle.sheets.specs.Sides.{sides_of, numbered, without, take_from}
use Rattle.sheets.specs.Laws.{Free, Apart}
use Rattle.sheets.specs.Evidence.{free-from}
use Rattle.std.specs.Option.{option_and_then}
use Rattle.std.proofs.lemmas.Option.{slice_get_read}
use Rattle.sheets.proofs.Places.{drop_of, drop_at, found, find-position}

pub all_left : {X : Type 0} (P : X → Type 0) (xs ys : List X) → AllByRecursion P (xs ++ ys) → AllByRecursion P xs
all_left P [] ys h = tt
all_left P (x ∷ xs) ys h = (h.0, all_left P xs ys h.1)

pub all_right : {X : Type 0} (P : X → Type 0) (xs ys : List X) → AllByRecursion P (xs ++ ys) → AllByRecursion P ys
all_right P [] ys h = h
all_right P (x ∷ xs) ys h = all_right P xs ys h.1

pub without-free : (n : ℕ) (xs : List Order) → Free n (without n xs)
without-free n xs =
    All-weaker (λ x. not (numbered n x) ≡ true) (λ x. x.number ≡ n → ⊥)
    (λ x h. eqb-false x.number n (not-true (numbered n x) h))
    (without n xs) (kept_by_passes (λ x. not (numbered n x)) xs)

-- nothing to take out
pub free-same : (n : ℕ) (xs : List Order) → Free n xs → xs ≡ without n xs
free-same n [] h = refl
free-same n (x ∷ xs) h = rw (ne_eqb x.number n h.0) (ap (λ ys. x ∷ ys) (free-same n xs h.1))

pub free-kept : (m n : ℕ) (xs : List Order) → Free m xs → Free m (without n xs)
free-kept m n xs h = all_kept_by (λ x. not (numbered n x)) (λ x. x.number ≡ m → ⊥) xs h

pub free-none : (n : ℕ) (xs : List Order) → Free n xs → list_any (numbered n) xs ≡ false
free-none n [] h = refl
free-none n (x ∷ xs) h = rw (ne_eqb x.number n h.0) (free-none n xs h.1)

pub apart-kept : (n : ℕ) (xs : List Order) → Apart xs → Apart (without n xs)
apart-kept n [] h = tt
apart-kept n (x ∷ xs) h =
    elim (not (numbered n x)) as (λ b. Apart (cond b (x ∷ without n xs) (without n xs)))
    [ true ↦ (free-kept x.number n xs h.0, apart-kept n xs h.1) | false ↦ apart-kept n xs h.1 ]

pub apart-left : (xs ys : List Order) → Apart (xs ++ ys) → Apart xs
apart-left [] ys h = tt
apart-left (x ∷ xs) ys h = (all_left (λ o. o.number ≡ x.number → ⊥) xs ys h.0, apart-left xs ys h.1)

pub apart-right : (xs ys : List Order) → Apart (xs ++ ys) → Apart ys
apart-right [] ys h = h
apart-right (x ∷ xs) ys h = apart-right xs ys h.1

-- what stands on the left does not stand on the right
pub apart-cross : (n : ℕ) (xs ys : List Order) → Apart (xs ++ ys) → list_any (numbered n) xs ≡ true → Free n ys
apart-cross n [] ys h e = absurd (both_ways false refl e)
apart-cross n (x ∷ xs) ys h e =
    ⊎_elim
    (λ t. subst (λ (k : ℕ). Free k ys) (eqb-true x.number n t) (all_right (λ o. o.number ≡ x.number → ⊥) xs ys h.0))
    (λ f. apart-cross n xs ys h.1 (rw f at e))
    (cases_Bool (numbered n x))

-- what stands on the right does not stand on the left
pub apart-cross-back : (n : ℕ) (xs ys : List Order) → Apart (xs ++ ys) → list_any (numbered n) ys ≡ true → Free n xs
apart-cross-back n [] ys h e = tt
apart-cross-back n (x ∷ xs) ys h e =
    ((λ k. both_ways (list_any (numbered n) ys) (free-none n ys (subst (λ (j : ℕ). Free j ys) k (all_right (λ o. o.number ≡ x.number → ⊥) xs ys h.0))) e), apart-cross-back n xs ys h.1 e)

-- one of a number stands at most, so that to drop the first is to drop all
pub drop-without : (n : ℕ) (xs : List Order) → Apart xs → drop_of (numbered n) xs ≡ without n xs
drop-without n [] h = refl
drop-without n (x ∷ xs) h =
    ⊎_elim
    (λ t. rw t (free-same n xs (subst (λ (k : ℕ). Free k xs) (eqb-true x.number n t) h.0)))
    (λ f. rw f (ap (λ ys. x ∷ ys) (drop-without n xs h.1)))
    (cases_Bool (numbered n x))

pub first-left : {X : Type 0} (test : X → Bool) (xs ys : List X) (x : X) → Some x ≡ find test xs → Some x ≡ find test (xs ++ ys)
first-left test [] ys x e = absurd (let z : ◌≡◌ {A = ℕ} 0 1 = cc in omega arith)
first-left test (y ∷ xs) ys x e =
    ⊎_elim
    (λ t. e ∙ (rw t refl))
    (λ f. rw f (first-left test xs ys x (e ∙ (rw f refl))))
    (cases_Bool (test y))

pub first-right : {X : Type 0} (test : X → Bool) (xs ys : List X) → list_any test xs ≡ false → find test (xs ++ ys) ≡ find test ys
first-right test [] ys e = refl
first-right test (y ∷ xs) ys e =
    ⊎_elim
    (λ t. absurd (both_ways (list_any test (y ∷ xs)) e (rw t refl)))
    (λ f. rw f (first-right test xs ys (rw f at e)))
    (cases_Bool (test y))

pub first_some : {X : Type 0} (test : X → Bool) (xs : List X) (x : X) → Some x ≡ find test xs → list_any test xs ≡ true
first_some test [] x e = absurd (let z : ◌≡◌ {A = ℕ} 0 1 = cc in omega arith)
first_some test (y ∷ ys) x e =
    ⊎_elim
    (λ t. rw t refl)
    (λ f. rw f (first_some test ys x (e ∙ (rw f refl))))
    (cases_Bool (test y))

pub first-none-some : {X : Type 0} (test : X → Bool) (xs : List X) → None ≡ find test xs → list_any test xs ≡ false
first-none-some test [] e = refl
first-none-some test (y ∷ ys) e =
    ⊎_elim
    (λ t. absurd (let q = e ∙ cond-true (test y) (Some y) (find test ys) t in let z : ◌≡◌ {A = ℕ} 0 1 = cc in omega arith))
    (λ f. rw f (first-none-some test ys (e ∙ cond-false (test y) (Some y) (find test ys) f)))
    (cases_Bool (test y))

pub sides-same : (xs ys us vs : List Order) → xs ≡ us → ys ≡ vs → sides_of xs ys ≡ sides_of us vs
sides-same xs ys us vs p q = cc

-- what stands on the left is taken out by one removal
pub taken-left : (n : ℕ) (xs ys zs : List Order) → Apart (xs ++ ys) → list_any (numbered n) xs ≡ true → zs ≡ without n xs → sides_of zs ys ≡ take_from n (sides_of xs ys)
taken-left n xs ys zs h e z = sides-same zs ys (without n xs) (without n ys) z (free-same n ys (apart-cross n xs ys h e))

-- the order of that number taken out by its index
pub removed_is : (n : ℕ) (xs : List Order) (i : ℕ) → Apart xs → Some i ≡ position (numbered n) xs → remove xs i ≡ without n xs
removed_is n xs i h e = drop_at (numbered n) xs i (found (numbered n) xs i e) ∙ drop-without n xs h

-- the first that passes, by its index
pub first_found : {X : Type 0} (test : X → Bool) (xs : List X) (i : ℕ) (x : X) → Some i ≡ position test xs → ((d : X) → x ≡ slice_index_or xs i d) → Some x ≡ find test xs
first_found test xs i x e is = sym (find-position test xs ∙ ap (option_and_then (slice_get xs)) (sym e) ∙ slice_get_read xs (length xs) i x refl (found test xs i e).within (is x))

pub first-missing : {X : Type 0} (test : X → Bool) (xs : List X) → None ≡ position test xs → None ≡ find test xs
first-missing test xs e = sym (find-position test xs ∙ ap (option_and_then (slice_get xs)) (sym e))

pub any-missing : {X : Type 0} (test : X → Bool) (xs : List X) → None ≡ position test xs → list_any test xs ≡ false
any-missing test xs e = first-none-some test xs (first-missing test xs e)

pub missing-is : (n : ℕ) (xs : List Order) → None ≡ position (numbered n) xs → xs ≡ without n xs
missing-is n xs e = free-same n xs (free-from n xs (any-missing (numbered n) xs e))
