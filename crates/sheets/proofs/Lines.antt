-- The sides that rows in any order make.
use Rattle.std.proofs.Common.{◌≡◌, ℕ, ◌+◌, ◌<◌, ◌≤◌, Bool, true, false, cond, not, ◌&&◌, ◌||◌, leb, ◌≢◌, ◌⊎◌, List, [], ◌∷◌, ◌++◌, length, Some, None, filter, Option, reverse, sym, refl, ap, ◌∙◌, subst, ap₂, inl, inr, ⊎_elim, arith}
use Rattle.std.specs.List.{AllByRecursion, find, fold, list_any}
use Rattle.std.proofs.lemmas.List.Sums.{fold_push}
use Rattle.std.proofs.lemmas.List.{reverse-append}
use Rattle.std.proofs.lemmas.List.Filters.{length-filter_both}
use Rattle.std.proofs.ByRecursion.{All-weaker, all_kept_by}
use Rattle.std.proofs.lemmas.Bool.{cases_Bool, both_ways, eqb-true, eqb-false, ne_eqb, cond-true, cond-false, and_cases, not-false, leb-false}
use Rattle.ordered.specs.Sorting.{insert_by, sort_by, Sorted}
use Rattle.ordered.proofs.Sorts.{all_insert, sorted_insert, insert-front, length-sort}
use Rattle.ordered.proofs.Commutes.{insert-swap}
use Rattle.market.specs.declared.order.Order.{Order}
use Rattle.market.specs.declared.order.Side.{Side}
use Rattle.market.specs.declared.order.Side.TheVariants.{Buy, Offer}
use Rattle.market.specs.declared.priority.Priority.{Priority}
use Rattle.sheets.specs.Sides.{of_side, numbered, same_side, on, outranks, without, take_from, joined, put_in, over, full, is_behind, find_in}
use Rattle.sheets.specs.Rows.{put_of, line, arranged}
use Rattle.sheets.specs.Laws.{Free, Apart, SheetLaws}
use Rattle.sheets.specs.Evidence.{free-from}
use Rattle.sheets.specs.Scans.{beat, first_with}
use Rattle.sheets.proofs.Ranks.{outranks-irreflexive, outranks-transitive, outranks-total}
use Rattle.sheets.proofs.Numbers.{free-same, free-none, sides-same}

-- ---- one more row

pub line-cons : (s : Side) (x : Order) (xs : List Order) → line s (x ∷ xs) ≡ joined s x (line s xs)
line-cons s x xs =
    elim (on s x) as (λ b. sort_by (outranks s) (cond b (x ∷ filter (on s) xs) (filter (on s) xs)) ≡ cond b (insert_by (outranks s) x (line s xs)) (line s xs))
    [ true ↦ refl | false ↦ refl ]

all-joined : (P : Order → Type 0) (s : Side) (x : Order) (xs : List Order) → P x → AllByRecursion P xs → AllByRecursion P (joined s x xs)
all-joined P s x xs px h =
    elim (on s x) as (λ b. AllByRecursion P (cond b (insert_by (outranks s) x xs) xs))
    [ true ↦ all_insert (outranks s) P x xs px h | false ↦ h ]

pub all-line : (P : Order → Type 0) (s : Side) (xs : List Order) → AllByRecursion P xs → AllByRecursion P (line s xs)
all-line P s [] h = tt
all-line P s (x ∷ xs) h = subst (AllByRecursion P) (sym (line-cons s x xs)) (all-joined P s x (line s xs) h.0 (all-line P s xs h.1))

sorted-joined : (s : Side) (x : Order) (xs : List Order) → Free x.number xs → Sorted (outranks s) xs → Sorted (outranks s) (joined s x xs)
sorted-joined s x xs f h =
    elim (on s x) as (λ b. Sorted (outranks s) (cond b (insert_by (outranks s) x xs) xs))
    [ true ↦ sorted_insert (outranks s) (λ (o : Order). o.number) (outranks-transitive s) (outranks-total s) x xs f h | false ↦ h ]

pub line-sorted : (s : Side) (xs : List Order) → Apart xs → Sorted (outranks s) (line s xs)
line-sorted s [] h = tt
line-sorted s (x ∷ xs) h =
    subst (Sorted (outranks s)) (sym (line-cons s x xs))
    (sorted-joined s x (line s xs) (all-line (λ o. o.number ≡ x.number → ⊥) s xs h.0) (line-sorted s xs h.1))

-- ---- a number taken out

module _ {X : Type 0} (ahead : X → X → Bool) (tr : (x y z : X) → ahead x y ≡ true → ahead y z ≡ true → ahead x z ≡ true) (p : X → Bool) where
  behind_all : (x y : X) (ys : List X) → ahead x y ≡ true → AllByRecursion (λ z. ahead y z ≡ true) ys → AllByRecursion (λ z. ahead x z ≡ true) (y ∷ ys)
  behind_all x y ys t h = (t, All-weaker (λ z. ahead y z ≡ true) (λ z. ahead x z ≡ true) (λ z k. tr x y z t k) ys h)

  pub kept-insert : (x : X) (xs : List X) → Sorted ahead xs → filter p (insert_by ahead x xs) ≡ cond (p x) (insert_by ahead x (filter p xs)) (filter p xs)
  kept-insert x [] h = refl
  kept-insert x (y ∷ ys) h =
      ⊎_elim
      (λ t. rw t
      (⊎_elim
      (λ k. rw k (sym (insert-front ahead x (filter p (y ∷ ys)) (all_kept_by p (λ z. ahead x z ≡ true) (y ∷ ys) (behind_all x y ys t h.0)))))
      (λ k. rw k refl)
      (cases_Bool (p x))))
      (λ f. rw f
      (⊎_elim
      (λ k. rw k (ap (λ zs. y ∷ zs) (kept-insert x ys h.1) ∙
      elim (p x) as (λ b. y ∷ cond b (insert_by ahead x (filter p ys)) (filter p ys) ≡ cond b (insert_by ahead x (y ∷ filter p ys)) (y ∷ filter p ys))
      [ true ↦ (rw f refl) | false ↦ refl ]))
      (λ k. rw k (kept-insert x ys h.1))
      (cases_Bool (p y))))
      (cases_Bool (ahead x y))

without-joined : (n : ℕ) (s : Side) (x : Order) (xs : List Order) → Sorted (outranks s) xs → without n (joined s x xs) ≡ cond (not (numbered n x)) (joined s x (without n xs)) (without n xs)
without-joined n s x xs h =
    elim (on s x) as (λ b. without n (cond b (insert_by (outranks s) x xs) xs) ≡ cond (not (numbered n x)) (cond b (insert_by (outranks s) x (without n xs)) (without n xs)) (without n xs)) [
      | true ↦ kept-insert (outranks s) (outranks-transitive s) (λ y. not (numbered n y)) x xs h
      | false ↦ elim (not (numbered n x)) as (λ b. without n xs ≡ cond b (without n xs) (without n xs)) [ true ↦ refl | false ↦ refl ]
    ]

pub line-without : (n : ℕ) (s : Side) (xs : List Order) → Apart xs → line s (without n xs) ≡ without n (line s xs)
line-without n s [] h = refl
line-without n s (x ∷ xs) h =
    let ih = line-without n s xs h.1 in
    step ∙ sym (ap (without n) (line-cons s x xs) ∙ without-joined n s x (line s xs) (line-sorted s xs h.1) ∙ ap (λ zs. cond (not (numbered n x)) (joined s x zs) zs) (sym ih))
  where
    step : line s (without n (x ∷ xs)) ≡ cond (not (numbered n x)) (joined s x (line s (without n xs))) (line s (without n xs))
    step =
        elim (not (numbered n x)) as (λ b. line s (cond b (x ∷ without n xs) (without n xs)) ≡ cond b (joined s x (line s (without n xs))) (line s (without n xs)))
        [ true ↦ line-cons s x (without n xs) | false ↦ refl ]

-- ---- an order put

joined-swap : (s : Side) (x y : Order) → x.number ≢ y.number → (zs : List Order) → joined s x (joined s y zs) ≡ joined s y (joined s x zs)
joined-swap s x y ne zs =
    elim (on s x) as (λ a. cond a (insert_by (outranks s) x (joined s y zs)) (joined s y zs) ≡ joined s y (cond a (insert_by (outranks s) x zs) zs)) [
      | true ↦ elim (on s y) as (λ b. insert_by (outranks s) x (cond b (insert_by (outranks s) y zs) zs) ≡ cond b (insert_by (outranks s) y (insert_by (outranks s) x zs)) (insert_by (outranks s) x zs))
          [ true ↦ insert-swap (outranks s) (λ (o : Order). o.number) (outranks-irreflexive s) (outranks-transitive s) (outranks-total s) x y ne zs | false ↦ refl ]
      | false ↦ refl
    ]

pub line-put : (o : Order) (s : Side) (xs : List Order) → Apart xs → line s (put_of (numbered o.number) o xs) ≡ joined s o (without o.number (line s xs))
line-put o s [] h = line-cons s o []
line-put o s (y ∷ ys) h =
    let n = o.number in
    let ih = line-put o s ys h.1 in
    let w = ap (without n) (line-cons s y ys) ∙ without-joined n s y (line s ys) (line-sorted s ys h.1) in
    ⊎_elim
    (λ t.
    let free : Free n (line s ys) = all-line (λ x. x.number ≡ n → ⊥) s ys (subst (λ (k : ℕ). Free k ys) (eqb-true y.number n t) h.0) in
    ap (line s) (cond-true (numbered n y) (o ∷ ys) (y ∷ put_of (numbered n) o ys) t)
    ∙ line-cons s o ys
    ∙ ap (joined s o) (free-same n (line s ys) free ∙ sym (w ∙ ap (λ b. cond (not b) (joined s y (without n (line s ys))) (without n (line s ys))) t)))
    (λ f.
    ap (line s) (cond-false (numbered n y) (o ∷ ys) (y ∷ put_of (numbered n) o ys) f)
    ∙ line-cons s y (put_of (numbered n) o ys)
    ∙ ap (joined s y) ih
    ∙ joined-swap s y o (eqb-false y.number n f) (without n (line s ys))
    ∙ ap (joined s o) (sym (w ∙ ap (λ b. cond (not b) (joined s y (without n (line s ys))) (without n (line s ys))) f)))
    (cases_Bool (numbered n y))

pub arranged-take : (n : ℕ) (xs : List Order) → Apart xs → arranged (without n xs) ≡ take_from n (arranged xs)
arranged-take n xs h = sides-same (line Buy (without n xs)) (line Offer (without n xs)) (without n (line Buy xs)) (without n (line Offer xs)) (line-without n Buy xs h) (line-without n Offer xs h)

pub arranged-put : (o : Order) (xs : List Order) → Apart xs → arranged (put_of (numbered o.number) o xs) ≡ put_in o (arranged xs)
arranged-put o xs h =
    sides-same (line Buy (put_of (numbered o.number) o xs)) (line Offer (put_of (numbered o.number) o xs))
    (joined Buy o (without o.number (line Buy xs))) (joined Offer o (without o.number (line Offer xs)))
    (line-put o Buy xs h) (line-put o Offer xs h)

-- the rows stay apart
free-put : (k : ℕ) (o : Order) (xs : List Order) → o.number ≢ k → Free k xs → Free k (put_of (numbered o.number) o xs)
free-put k o [] ne h = (ne, tt)
free-put k o (y ∷ ys) ne h =
    elim (numbered o.number y) as (λ b. Free k (cond b (o ∷ ys) (y ∷ put_of (numbered o.number) o ys)))
    [ true ↦ (ne, h.1) | false ↦ (h.0, free-put k o ys ne h.1) ]

pub apart-put : (o : Order) (xs : List Order) → Apart xs → Apart (put_of (numbered o.number) o xs)
apart-put o [] h = (tt, tt)
apart-put o (y ∷ ys) h =
    ⊎_elim
    (λ t. subst Apart (sym (cond-true (numbered o.number y) (o ∷ ys) (y ∷ put_of (numbered o.number) o ys) t)) (subst (λ (k : ℕ). Free k ys) (eqb-true y.number o.number t) h.0, h.1))
    (λ f. subst Apart (sym (cond-false (numbered o.number y) (o ∷ ys) (y ∷ put_of (numbered o.number) o ys) f)) (free-put y.number o ys (λ e. eqb-false y.number o.number f (sym e)) h.0, apart-put o ys h.1))
    (cases_Bool (numbered o.number y))

-- ---- counts

pub length-line : (s : Side) (xs : List Order) → length (line s xs) ≡ length (filter (on s) xs)
length-line s xs = length-sort (outranks s) (filter (on s) xs)

other-side : (v : Side) → same_side Offer v ≡ not (same_side Buy v)
other-side Buy = refl
other-side Offer = refl

pub length-arranged : (xs : List Order) → length (line Buy xs) + length (line Offer xs) ≡ length xs
length-arranged xs =
    let a = length-line Buy xs in
    let b = length-line Offer xs in
    let c = length-filter_both (on Buy) (on Offer) (λ (x : Order). other-side x.side) xs in
    omega arith

-- how many there are
pub count_arranged : (xs : List Order) → length xs ≡ length (arranged xs).buys + length (arranged xs).offers
count_arranged xs = sym (length-arranged xs)

-- ---- a number sought

some-insert : {X : Type 0} (test : X → Bool) (ahead : X → X → Bool) (x : X) (xs : List X) → list_any test (insert_by ahead x xs) ≡ (test x || list_any test xs)
some-insert test ahead x [] = refl
some-insert test ahead x (y ∷ ys) =
    elim (ahead x y) as (λ b. list_any test (cond b (x ∷ y ∷ ys) (y ∷ insert_by ahead x ys)) ≡ (test x || (test y || list_any test ys)))
    [ true ↦ refl | false ↦ ap (λ b. test y || b) (some-insert test ahead x ys) ∙ swap (test x) (test y) (list_any test ys) ]
  where
    swap : (a b c : Bool) → (b || (a || c)) ≡ (a || (b || c))
    swap true true c = refl
    swap true false c = refl
    swap false true c = refl
    swap false false c = refl

some-sort : (test : Order → Bool) (s : Side) (xs : List Order) → list_any test (sort_by (outranks s) xs) ≡ list_any test xs
some-sort test s [] = refl
some-sort test s (x ∷ xs) = some-insert test (outranks s) x (sort_by (outranks s) xs) ∙ ap (λ b. test x || b) (some-sort test s xs)

pub some-line : (test : Order → Bool) (s : Side) (xs : List Order) → list_any test (line s xs) ≡ list_any test (filter (on s) xs)
some-line test s xs = some-sort test s (filter (on s) xs)

module _ {X : Type 0} (test : X → Bool) where
  -- x and y do not both pass
  cond-swap : (x y : X) (r : Option X) → (test x ≡ true → test y ≡ false) → cond (test y) (Some y) (cond (test x) (Some x) r) ≡ cond (test x) (Some x) (cond (test y) (Some y) r)
  cond-swap x y r h =
      ⊎_elim
      (λ t. rw t (rw (h t) refl))
      (λ f. rw f refl)
      (cases_Bool (test x))

  first-insert-left : (ahead : X → X → Bool) (x : X) (zs ws : List X) → (test x ≡ true → AllByRecursion (λ z. test z ≡ false) zs) → find test (insert_by ahead x zs ++ ws) ≡ cond (test x) (Some x) (find test (zs ++ ws))
  first-insert-left ahead x [] ws h = refl
  first-insert-left ahead x (z ∷ zs) ws h =
      elim (ahead x z) as (λ b. find test (cond b (x ∷ z ∷ zs) (z ∷ insert_by ahead x zs) ++ ws) ≡ cond (test x) (Some x) (cond (test z) (Some z) (find test (zs ++ ws)))) [
        | true ↦ refl
        | false ↦ ap (λ r. cond (test z) (Some z) r) (first-insert-left ahead x zs ws (λ t. (h t).1)) ∙ cond-swap x z (find test (zs ++ ws)) (λ t. (h t).0)
      ]

  first-insert : (ahead : X → X → Bool) (x : X) (zs : List X) → (test x ≡ true → AllByRecursion (λ z. test z ≡ false) zs) → find test (insert_by ahead x zs) ≡ cond (test x) (Some x) (find test zs)
  first-insert ahead x [] h = refl
  first-insert ahead x (z ∷ zs) h =
      elim (ahead x z) as (λ b. find test (cond b (x ∷ z ∷ zs) (z ∷ insert_by ahead x zs)) ≡ cond (test x) (Some x) (cond (test z) (Some z) (find test zs))) [
        | true ↦ refl
        | false ↦ ap (λ r. cond (test z) (Some z) r) (first-insert ahead x zs (λ t. (h t).1)) ∙ cond-swap x z (find test zs) (λ t. (h t).0)
      ]

  first-insert-right : (ahead : X → X → Bool) (x : X) (ws zs : List X) → (test x ≡ true → AllByRecursion (λ z. test z ≡ false) ws) → (test x ≡ true → AllByRecursion (λ z. test z ≡ false) zs) → find test (ws ++ insert_by ahead x zs) ≡ cond (test x) (Some x) (find test (ws ++ zs))
  first-insert-right ahead x [] zs g h = first-insert ahead x zs h
  first-insert-right ahead x (w ∷ ws) zs g h =
      ap (λ r. cond (test w) (Some w) r) (first-insert-right ahead x ws zs (λ t. (g t).1) h) ∙ cond-swap x w (find test (ws ++ zs)) (λ t. (g t).0)

-- where x has the number, no order of a line free of it has
none_of : (n : ℕ) (x : Order) (s : Side) (xs : List Order) → Free x.number xs → numbered n x ≡ true → AllByRecursion (λ z. numbered n z ≡ false) (line s xs)
none_of n x s xs f t =
    All-weaker (λ z. z.number ≡ x.number → ⊥) (λ z. numbered n z ≡ false) (λ z ne. ne_eqb z.number n (λ e. ne (e ∙ sym (eqb-true x.number n t)))) (line s xs)
    (all-line (λ z. z.number ≡ x.number → ⊥) s xs f)

find_at : (v : Side) (n : ℕ) (x : Order) (xs : List Order) → x.side ≡ v → Free x.number xs → find (numbered n) (line Buy (x ∷ xs) ++ line Offer (x ∷ xs)) ≡ cond (numbered n x) (Some x) (find (numbered n) (line Buy xs ++ line Offer xs))
find_at Buy n x xs e f =
    ap₂ (λ (a b : List Order). find (numbered n) (a ++ b))
    (line-cons Buy x xs ∙ cond-true (on Buy x) (insert_by (outranks Buy) x (line Buy xs)) (line Buy xs) (ap (same_side Buy) e))
    (line-cons Offer x xs ∙ cond-false (on Offer x) (insert_by (outranks Offer) x (line Offer xs)) (line Offer xs) (ap (same_side Offer) e))
    ∙ first-insert-left (numbered n) (outranks Buy) x (line Buy xs) (line Offer xs) (none_of n x Buy xs f)
find_at Offer n x xs e f =
    ap₂ (λ (a b : List Order). find (numbered n) (a ++ b))
    (line-cons Buy x xs ∙ cond-false (on Buy x) (insert_by (outranks Buy) x (line Buy xs)) (line Buy xs) (ap (same_side Buy) e))
    (line-cons Offer x xs ∙ cond-true (on Offer x) (insert_by (outranks Offer) x (line Offer xs)) (line Offer xs) (ap (same_side Offer) e))
    ∙ first-insert-right (numbered n) (outranks Offer) x (line Buy xs) (line Offer xs) (none_of n x Buy xs f) (none_of n x Offer xs f)

pub find-arranged : (n : ℕ) (xs : List Order) → Apart xs → find (numbered n) xs ≡ find_in n (arranged xs)
find-arranged n [] h = refl
find-arranged n (x ∷ xs) h = ap (λ r. cond (numbered n x) (Some x) r) (find-arranged n xs h.1) ∙ sym (find_at x.side n x xs refl h.0)

-- ---- the best of a scan

first-all : {X : Type 0} (P : X → Type 0) (test : X → Bool) (xs : List X) → AllByRecursion P xs → (find test xs ≡ None) ⊎ ((y : X) × (find test xs ≡ Some y) × P y)
first-all P test [] h = inl refl
first-all P test (x ∷ xs) h =
    ⊎_elim (λ t. inr (x, (rw t refl), h.0)) (λ f. rw f (first-all P test xs h.1)) (cases_Bool (test x))

beat-all : {X : Type 0} (ahead : X → X → Bool) (test : X → Bool) (x : X) (xs : List X) → AllByRecursion (λ y. ahead x y ≡ true) xs → beat ahead x (find test xs) ≡ Some x
beat-all ahead test x xs h =
    ⊎_elim
    (λ e. ap (beat ahead x) e)
    (λ q. ap (beat ahead x) q.1 ∙ cond-true (ahead x q.0) (Some x) (Some q.0) q.2)
    (first-all (λ y. ahead x y ≡ true) test xs h)

module _ {X : Type 0} (ahead : X → X → Bool) (tr : (x y z : X) → ahead x y ≡ true → ahead y z ≡ true → ahead x z ≡ true) (test : X → Bool) where
  pub best_insert : (x : X) (xs : List X) → Sorted ahead xs → find test (insert_by ahead x xs) ≡ cond (test x) (beat ahead x (find test xs)) (find test xs)
  best_insert x [] h = refl
  best_insert x (y ∷ ys) h =
      ⊎_elim
      (λ t. rw t
      (⊎_elim
      (λ k. rw k (sym (beat-all ahead test x (y ∷ ys) (behind_all ahead tr test x y ys t h.0))))
      (λ k. rw k refl)
      (cases_Bool (test x))))
      (λ f. rw f
      (⊎_elim
      (λ k. rw k (elim (test x) as (λ b. Some y ≡ cond b (cond (ahead x y) (Some x) (Some y)) (Some y)) [ true ↦ (rw f refl) | false ↦ refl ]))
      (λ k. rw k (best_insert x ys h.1))
      (cases_Bool (test y))))
      (cases_Bool (ahead x y))

best_joined : (s : Side) (p : Option Priority) (x : Order) (xs : List Order) → Sorted (outranks s) xs → find (is_behind s p) (joined s x xs) ≡ first_with s p x (find (is_behind s p) xs)
best_joined s p x xs h =
    elim (on s x) as (λ b. find (is_behind s p) (cond b (insert_by (outranks s) x xs) xs) ≡ cond (b && is_behind s p x) (beat (outranks s) x (find (is_behind s p) xs)) (find (is_behind s p) xs))
    [ true ↦ best_insert (outranks s) (outranks-transitive s) (is_behind s p) x xs h | false ↦ refl ]

-- a scan from the last to the first
pub scanned : (s : Side) (p : Option Priority) (xs : List Order) → Apart xs → fold (λ first x. first_with s p x first) None (reverse xs) ≡ find (is_behind s p) (line s xs)
scanned s p [] h = refl
scanned s p (x ∷ xs) h =
    ap (fold (λ first y. first_with s p y first) None) (reverse-append (x ∷ []) xs)
    ∙ fold_push (λ first y. first_with s p y first) None (reverse xs) x
    ∙ ap (first_with s p x) (scanned s p xs h.1)
    ∙ sym (ap (find (is_behind s p)) (line-cons s x xs) ∙ best_joined s p x (line s xs) (line-sorted s xs h.1))

-- ---- by both tests

-- sought among those kept, or by both tests
pub some-both : {X : Type 0} (p test : X → Bool) (xs : List X) → list_any test (filter p xs) ≡ list_any (λ x. p x && test x) xs
some-both p test [] = refl
some-both p test (x ∷ xs) =
    elim (p x) as (λ b. list_any test (cond b (x ∷ filter p xs) (filter p xs)) ≡ ((b && test x) || list_any (λ y. p y && test y) xs))
    [ true ↦ ap (λ b. test x || b) (some-both p test xs) | false ↦ some-both p test xs ]

-- ---- the test of a put

side_arranged : (v : Side) (xs : List Order) → of_side v (arranged xs) ≡ line v xs
side_arranged Buy xs = refl
side_arranged Offer xs = refl

pub full-arranged : (n : ℕ) (o : Order) (xs : List Order) → full n o (arranged xs) ≡ over n o.number (line o.side xs)
full-arranged n o xs = ap (over n o.number) (side_arranged o.side xs)

-- a side that can take one more leaves a row
place_at : (v : Side) (n k : ℕ) (xs : List Order) → SheetLaws n (arranged xs) → over n k (line v xs) ≡ false → Free k xs → length xs < n + n
place_at v n k xs l f free =
    let total = length-arranged xs in
    let b = l.buys.fits in
    let a = l.offers.fits in
    ⊎_elim
    (λ h. short v (leb-false n (length (line v xs)) h) b a total)
    (λ h. absurd (both_ways (list_any (numbered k) (line v xs)) (free-none k (line v xs) (all-line (λ x. x.number ≡ k → ⊥) v xs free)) (not-false (list_any (numbered k) (line v xs)) h)))
    (and_cases (leb n (length (line v xs))) (not (list_any (numbered k) (line v xs))) f)
  where
    short : (w : Side) → length (line w xs) < n → length (line Buy xs) ≤ n → length (line Offer xs) ≤ n → length (line Buy xs) + length (line Offer xs) ≡ length xs → length xs < n + n
    short Buy lt b a t = omega arith
    short Offer lt b a t = omega arith

pub place-rows : (n : ℕ) (o : Order) (xs : List Order) → SheetLaws n (arranged xs) → full n o (arranged xs) ≡ false → list_any (numbered o.number) xs ≡ false → length xs < n + n
place-rows n o xs l f e = place_at o.side n o.number xs l (sym (full-arranged n o xs) ∙ f) (free-from o.number xs e)
