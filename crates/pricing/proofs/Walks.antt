-- A walk along a side: what is behind a place, and the first order there.
use Rattle.std.proofs.Common.{◌≡◌, ℕ, Bool, true, false, cond, Option, List, [], ◌∷◌, Some, None, filter, sym, refl, ap, subst, ⊎_elim, arith, length, ◌<◌}
use Rattle.std.specs.List.{AllByRecursion, find}
use Rattle.std.proofs.lemmas.Bool.{both_ways, cases_Bool}
use Rattle.ordered.specs.Sorting.{Sorted}
use Rattle.market.specs.declared.order.Order.{Order}
use Rattle.market.specs.declared.order.Side.{Side}
use Rattle.market.specs.declared.priority.Priority.{Priority}
use Rattle.market.specs.Priority.{priority_of}
use Rattle.market.specs.Ranked.{leads-transitive}
use Rattle.sheets.specs.Sides.{Sides, of_side, outranks, is_behind, next_in}
use Rattle.sheets.specs.Laws.{SheetLaws}
use Rattle.sheets.proofs.Tops.{side_laws}
use Rattle.sheets.proofs.Ranks.{outranks-irreflexive, outranks-transitive}

-- the orders of a side behind a place, which is its front where none is given
abbrev pub rest : Side → Option Priority → List Order → List Order
rest v after os = filter (is_behind v after) os

-- what is found has what holds of all
found-has : {X : Type 0} (P : X → Type 0) (p : X → Bool) (xs : List X) (x : X) → AllByRecursion P xs → find p xs ≡ Some x → P x
found-has P p [] x a e = absurd (let z : ◌≡◌ {A = ℕ} 0 1 = cc in omega arith)
found-has P p (y ∷ ys) x a e = either (p y) e (λ t. found-has P p ys x a.1 t)
  where
    either : (b : Bool) → cond b (Some y) (find p ys) ≡ Some x → (find p ys ≡ Some x → P x) → P x
    either true t more = let same : y ≡ x = cc in subst P same a.0
    either false t more = more t

pub rest-none : (v : Side) (os : List Order) → rest v None os ≡ os
rest-none v [] = refl
rest-none v (o ∷ os) = ap (λ xs. o ∷ xs) (rest-none v os)

pub next-stop : (v : Side) (after : Option Priority) (os : List Order) → find (is_behind v after) os ≡ None → rest v after os ≡ []
next-stop v after [] e = refl
next-stop v after (o ∷ os) e = either (is_behind v after o) e (λ t. next-stop v after os t)
  where
    either : (b : Bool) → cond b (Some o) (find (is_behind v after) os) ≡ None → (find (is_behind v after) os ≡ None → rest v after os ≡ []) → cond b (o ∷ rest v after os) (rest v after os) ≡ []
    either true t more = absurd (let z : ◌≡◌ {A = ℕ} 0 1 = cc in omega arith)
    either false t more = more t

kept-all : {X : Type 0} (p : X → Bool) (xs : List X) → AllByRecursion (λ x. p x ≡ true) xs → filter p xs ≡ xs
kept-all p [] h = refl
kept-all p (x ∷ xs) h = rw h.0 (ap (λ ys. x ∷ ys) (kept-all p xs h.1))

-- behind an order that is behind a place, all are behind the place
still-behind : (v : Side) (after : Option Priority) (x y : Order) → is_behind v after x ≡ true → outranks v x y ≡ true → is_behind v after y ≡ true
still-behind v None x y b o = refl
still-behind v (Some p) x y b o = leads-transitive v p (priority_of x) (priority_of y) b o

all-behind : (v : Side) (after : Option Priority) (x : Order) (ys : List Order) → is_behind v after x ≡ true → AllByRecursion (λ y. outranks v x y ≡ true) ys → AllByRecursion (λ y. is_behind v after y ≡ true) ys
all-behind v after x [] b a = tt
all-behind v after x (y ∷ ys) b a = (still-behind v after x y b a.0, all-behind v after x ys b a.1)

-- what is ahead is not behind
outranked : (v : Side) (x o : Order) → outranks v x o ≡ true → outranks v o x ≡ false
outranked v x o t =
    ⊎_elim
    (λ u. absurd (both_ways (outranks v x x) (outranks-irreflexive v x) (outranks-transitive v x o x t u)))
    (λ f. f)
    (cases_Bool (outranks v o x))

pub next-step : (v : Side) (after : Option Priority) (os : List Order) (o : Order) → Sorted (outranks v) os → find (is_behind v after) os ≡ Some o → rest v after os ≡ o ∷ rest v (Some (priority_of o)) os
next-step v after [] o s e = absurd (let z : ◌≡◌ {A = ℕ} 0 1 = cc in omega arith)
next-step v after (x ∷ xs) o s e = either (is_behind v after x) refl e (λ t. next-step v after xs o s.1 t)
  where
    either : (b : Bool) → is_behind v after x ≡ b → cond b (Some x) (find (is_behind v after) xs) ≡ Some o
        → (find (is_behind v after) xs ≡ Some o → rest v after xs ≡ o ∷ rest v (Some (priority_of o)) xs)
        → cond b (x ∷ rest v after xs) (rest v after xs) ≡ o ∷ cond (outranks v o x) (x ∷ rest v (Some (priority_of o)) xs) (rest v (Some (priority_of o)) xs)
    either true is t more =
        let same : x ≡ o = cc in
        rw (kept-all (is_behind v after) xs (all-behind v after x xs is s.0), sym same, outranks-irreflexive v x, kept-all (outranks v x) xs s.0) refl
    either false is t more =
        rw (outranked v x o (found-has (λ y. outranks v x y ≡ true) (is_behind v after) xs o s.0 t)) (more t)

-- the walk goes on behind the order that was answered
pub goes-on : (v : Side) (n : ℕ) (s : Sides) (after : Option Priority) (o : Order) (p : Priority) → SheetLaws n s → next_in v after s ≡ Some o → p ≡ priority_of o → rest v after (of_side v s) ≡ o ∷ rest v (Some p) (of_side v s)
goes-on v n s after o p l e same = rw same (next-step v after (of_side v s) o (side_laws v n s l).sorted e)

pub goes-shorter : (o : Order) (before left : List Order) → before ≡ o ∷ left → length left < length before
goes-shorter o before left e = omega (arith, ap length e)
