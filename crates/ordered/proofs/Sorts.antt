-- Where an entry goes in, is found and is taken out, and that the order is kept.
use Rattle.std.proofs.Common.{◌≡◌, ℕ, zero, suc, ◌<◌, Bool, true, false, cond, not, List, [], ◌∷◌, length, get_or, refl, ap, ◌∙◌, sym, subst, ⊎_elim, arith}
use Rattle.std.specs.List.{insert, remove, AllByRecursion, list_all, find, slice_get}
use Rattle.std.specs.List.Sorted.{IsPartitionedBy}
use Rattle.std.proofs.ByRecursion.{All-weaker, All-get_or}
use Rattle.std.proofs.lemmas.Bool.{cases_order, cases_Bool, both_ways, and_parts, not-true, and_from, not_from_false}
use Rattle.ordered.proofs.Tests.{all_from, all-to}
use Rattle.ordered.specs.Sorting.{ranked, insert_by, sort_by, in_order, Sorted}

-- past the rows that x is not ahead of, and before the first that it is ahead of
pub insert-split : {X : Type 0} (ahead : X → X → Bool) (x : X) (xs : List X) (i : ℕ)
    → ((k : ℕ) (d : X) → k < i → k < length xs → ahead x (get_or xs k d) ≡ false)
    → ((d : X) → i < length xs → ahead x (get_or xs i d) ≡ true)
    → insert xs i x ≡ insert_by ahead x xs
insert-split ahead x [] zero past here = refl
insert-split ahead x [] (suc n) past here = refl
insert-split ahead x (y ∷ ys) zero past here = rw (here y (omega arith)) refl
insert-split ahead x (y ∷ ys) (suc n) past here =
    rw (past 0 y (omega arith) (omega arith))
    (ap (λ zs. y ∷ zs) (insert-split ahead x ys n (λ k d h l. past (suc k) d (omega arith) (omega arith)) (λ d l. here d (omega arith))))

pub all_insert : {X : Type 0} (ahead : X → X → Bool) (P : X → Type 0) (x : X) (xs : List X) → P x → AllByRecursion P xs → AllByRecursion P (insert_by ahead x xs)
all_insert ahead P x [] px ps = (px, tt)
all_insert ahead P x (y ∷ ys) px ps =
    elim (ahead x y) as (λ b. AllByRecursion P (cond b (x ∷ y ∷ ys) (y ∷ insert_by ahead x ys)))
    [ true ↦ (px, ps) | false ↦ (ps.0, all_insert ahead P x ys px ps.1) ]

pub sorted_insert : {X K : Type 0} (ahead : X → X → Bool) (key : X → K)
    → ((x y z : X) → ahead x y ≡ true → ahead y z ≡ true → ahead x z ≡ true)
    → ((x y : X) → ahead x y ≡ false → ahead y x ≡ false → key x ≡ key y)
    → (x : X) (xs : List X) → AllByRecursion (λ y. key y ≡ key x → ⊥) xs → Sorted ahead xs → Sorted ahead (insert_by ahead x xs)
sorted_insert ahead key tr total x [] new s = (tt, tt)
sorted_insert ahead key tr total x (y ∷ ys) new s =
    ⊎_elim
    (λ t. rw t ((t, All-weaker (λ z. ahead y z ≡ true) (λ z. ahead x z ≡ true) (λ z h. tr x y z t h) ys s.0), s))
    (λ f. rw f (
      all_insert ahead (λ z. ahead y z ≡ true) x ys
          (⊎_elim (λ t. t) (λ f'. absurd (new.0 (total y x f' f))) (cases_Bool (ahead y x)))
          s.0,
      sorted_insert ahead key tr total x ys new.1 s.1,
    ))
    (cases_Bool (ahead x y))

-- the same by keys, k being that of x
pub insert_placed : {X K : Type 0} (ahead : K → K → Bool) (key : X → K) (x : X) (k : K) (xs : List X) (i : ℕ) → k ≡ key x
    → ((j : ℕ) (d : X) → j < i → ahead k (key (get_or xs j d)) ≡ false)
    → ((d : X) → i < length xs → ahead k (key (get_or xs i d)) ≡ true)
    → insert xs i x ≡ insert_by (ranked ahead key) x xs
insert_placed ahead key x k xs i e past here =
    insert-split (ranked ahead key) x xs i
    (λ j d h l. ap (λ v. ahead v (key (get_or xs j d))) (sym e) ∙ past j d h)
    (λ d l. ap (λ v. ahead v (key (get_or xs i d))) (sym e) ∙ here d l)

-- the first that passes stands behind all that fail
pub get-first : {X : Type 0} (test : X → Bool) (xs : List X) (i : ℕ)
    → ((k : ℕ) (d : X) → k < i → test (get_or xs k d) ≡ false) → ((d : X) → i < length xs → test (get_or xs i d) ≡ true)
    → slice_get xs i ≡ find test xs
get-first test [] i past here = refl
get-first test (y ∷ ys) zero past here = rw (here y (omega arith)) refl
get-first test (y ∷ ys) (suc n) past here =
    rw (past 0 y (omega arith)) (get-first test ys n (λ k d h. past (suc k) d (omega arith)) (λ d l. here d (omega arith)))

-- an entry taken out
pub all-removed : {X : Type 0} (P : X → Type 0) (xs : List X) (i : ℕ) → AllByRecursion P xs → AllByRecursion P (remove xs i)
all-removed P [] zero h = tt
all-removed P [] (suc i) h = tt
all-removed P (x ∷ xs) zero h = h.1
all-removed P (x ∷ xs) (suc i) h = (h.0, all-removed P xs i h.1)

pub sorted-removed : {X : Type 0} (ahead : X → X → Bool) (xs : List X) (i : ℕ) → Sorted ahead xs → Sorted ahead (remove xs i)
sorted-removed ahead [] zero h = tt
sorted-removed ahead [] (suc i) h = tt
sorted-removed ahead (x ∷ xs) zero h = h.1
sorted-removed ahead (x ∷ xs) (suc i) h = (all-removed (λ y. ahead x y ≡ true) xs i h.0, sorted-removed ahead xs i h.1)

-- what is ahead of all goes to the front, and what is in order stays so
pub insert-front : {X : Type 0} (ahead : X → X → Bool) (x : X) (xs : List X) → AllByRecursion (λ y. ahead x y ≡ true) xs → insert_by ahead x xs ≡ x ∷ xs
insert-front ahead x [] h = refl
insert-front ahead x (y ∷ ys) h = rw h.0 refl

pub sort_sorted : {X : Type 0} (ahead : X → X → Bool) (xs : List X) → Sorted ahead xs → sort_by ahead xs ≡ xs
sort_sorted ahead [] h = refl
sort_sorted ahead (x ∷ xs) h = ap (insert_by ahead x) (sort_sorted ahead xs h.1) ∙ insert-front ahead x xs h.0

pub length-insert : {X : Type 0} (ahead : X → X → Bool) (x : X) (xs : List X) → length (insert_by ahead x xs) ≡ suc (length xs)
length-insert ahead x [] = refl
length-insert ahead x (y ∷ ys) =
    elim (ahead x y) as (λ b. length (cond b (x ∷ y ∷ ys) (y ∷ insert_by ahead x ys)) ≡ suc (suc (length ys)))
    [ true ↦ refl | false ↦ ap suc (length-insert ahead x ys) ]

pub length-sort : {X : Type 0} (ahead : X → X → Bool) (xs : List X) → length (sort_by ahead xs) ≡ length xs
length-sort ahead [] = refl
length-sort ahead (x ∷ xs) = length-insert ahead x (sort_by ahead xs) ∙ ap suc (length-sort ahead xs)

-- ---- none ahead of one before it

-- each entry fails the test
abbrev pub AllFail : {X : Type 0} → (X → Bool) → List X → Type 0
AllFail test xs = AllByRecursion (λ y. test y ≡ false) xs

-- the same as a fact
abbrev pub InOrder : {X : Type 0} → (X → X → Bool) → List X → Type 0
InOrder ahead [] = Unit {0}
InOrder ahead (x ∷ xs) = AllFail (λ y. ahead y x) xs × InOrder ahead xs

pub order_from : {X : Type 0} (ahead : X → X → Bool) (xs : List X) → in_order ahead xs ≡ true → InOrder ahead xs
order_from ahead [] e = tt
order_from ahead (x ∷ xs) e = let p = and_parts (list_all (λ y. not (ahead y x)) xs) (in_order ahead xs) e in (all_from (λ y. not (ahead y x)) (λ y. ahead y x ≡ false) (λ y. not-true (ahead y x)) xs p.0, order_from ahead xs p.1)

pub order_is : {X : Type 0} (ahead : X → X → Bool) (xs : List X) → InOrder ahead xs → in_order ahead xs ≡ true
order_is ahead [] h = refl
order_is ahead (x ∷ xs) h =
    and_from (list_all (λ y. not (ahead y x)) xs) (in_order ahead xs) (all-to (λ y. not (ahead y x)) (λ y. ahead y x ≡ false) (λ y. not_from_false (ahead y x)) xs h.0) (order_is ahead xs h.1)

-- of two entries the later is not ahead
order_pair : {X : Type 0} (ahead : X → X → Bool) (xs : List X) → InOrder ahead xs → (i j : ℕ) (d : X) → i < j → j < length xs → ahead (get_or xs j d) (get_or xs i d) ≡ false
order_pair ahead [] s i j d ij l = absurd (omega arith)
order_pair ahead (x ∷ xs) s i zero d ij l = absurd (omega arith)
order_pair ahead (x ∷ xs) s zero (suc j) d ij l = All-get_or (λ y. ahead y x ≡ false) xs j d (omega arith) s.0
order_pair ahead (x ∷ xs) s (suc i) (suc j) d ij l = order_pair ahead xs s.1 i j d (omega arith) (omega arith)

module _ {X : Type 0} (ahead : X → X → Bool) (irr : (x : X) → ahead x x ≡ false) (tr : (x y z : X) → ahead x y ≡ true → ahead y z ≡ true → ahead x z ≡ true) where
  -- what x is ahead of is not ahead of x
  one_way : (x y : X) → ahead x y ≡ true → ahead y x ≡ false
  one_way x y t = ⊎_elim (λ u. absurd (both_ways (ahead x x) (irr x) (tr x y x t u))) (λ f. f) (cases_Bool (ahead y x))

  -- where x is ahead of y, what is not ahead of y is not ahead of x
  not_before : (x y z : X) → ahead x y ≡ true → ahead z y ≡ false → ahead z x ≡ false
  not_before x y z t f = ⊎_elim (λ u. absurd (both_ways (ahead z y) f (tr z x y u t))) (λ g. g) (cases_Bool (ahead z x))

  pub order_insert : (x : X) (xs : List X) → InOrder ahead xs → InOrder ahead (insert_by ahead x xs)
  order_insert x [] s = (tt, tt)
  order_insert x (y ∷ ys) s =
      ⊎_elim
      (λ t. rw t ((one_way x y t, All-weaker (λ z. ahead z y ≡ false) (λ z. ahead z x ≡ false) (λ z f. not_before x y z t f) ys s.0), s))
      (λ f. rw f (all_insert ahead (λ z. ahead z y ≡ false) x ys f s.0, order_insert x ys s.1))
      (cases_Bool (ahead x y))

pub order_removed : {X : Type 0} (ahead : X → X → Bool) (xs : List X) (i : ℕ) → InOrder ahead xs → InOrder ahead (remove xs i)
order_removed ahead [] zero h = tt
order_removed ahead [] (suc i) h = tt
order_removed ahead (x ∷ xs) zero h = h.1
order_removed ahead (x ∷ xs) (suc i) h = (all-removed (λ y. ahead y x ≡ false) xs i h.0, order_removed ahead xs i h.1)

-- a key is ahead of no entry up to one that it is not ahead of
pub parted : {X K : Type 0} (ahead : K → K → Bool) (key : X → K)
    → ((i j k : K) → ahead i j ≡ true → ahead j k ≡ true → ahead i k ≡ true)
    → ((j k : K) → ahead j k ≡ false → ahead k j ≡ false → j ≡ k)
    → (v : K) (xs : List X) → InOrder (λ x y. ahead (key x) (key y)) xs → IsPartitionedBy (λ x. not (ahead v (key x))) xs
parted ahead key tr total v xs s i j d ij l t =
    let x = key (get_or xs i d) in
    let y = key (get_or xs j d) in
    let before : ahead v y ≡ false = not-true (ahead v y) t in
    ⊎_elim
    (λ e. rw e t)
    (λ o. ⊎_elim
    (λ lt. ⊎_elim
    (λ up. absurd (⊎_elim
    (λ xy. both_ways (ahead v y) before (tr v x y up xy))
    (λ no. both_ways (ahead v y) before (subst (λ k. ahead v k ≡ true) (total x y no (order_pair (λ a b. ahead (key a) (key b)) xs s i j d lt l)) up))
    (cases_Bool (ahead x y))))
    (λ f. ap not f)
    (cases_Bool (ahead v x)))
    (λ gt. absurd (omega arith))
    o)
    (cases_order i j)
