-- What is written or taken out at the index of the first order that passes a test.
use Rattle.std.proofs.Common.{◌≡◌, ℕ, zero, suc, ◌<◌, Bool, true, false, cond, List, [], ◌∷◌, ◌++◌, length, get_or, set, Some, sym, refl, ap, ⊎_elim, arith}
use Rattle.std.specs.List.{find, list_any, position, remove, slice_get}
use Rattle.std.specs.Option.{option_and_then}
use Rattle.std.proofs.lemmas.Bool.{cases_Bool, both_ways}
use Rattle.std.proofs.lemmas.List.Quantifiers.{position-Some}
use Rattle.std.proofs.lemmas.Option.{none-some}
use Rattle.market.specs.declared.order.Order.{Order}
use Rattle.ordered.proofs.Indexes.{find-position as first-stands}
use Rattle.sheets.specs.Rows.{put_of}

-- without the first that passes
abbrev pub drop_of : {X : Type 0} → (X → Bool) → List X → List X
drop_of test [] = []
drop_of test (x ∷ xs) = cond (test x) xs (x ∷ drop_of test xs)

module _ {X : Type 0} (test : X → Bool) where
  -- i is the index of the first that passes
  pub record Found (xs : List X) (i : ℕ) : Type 0 where
    pub within : i < length xs
    pub past : (k : ℕ) (d : X) → k < i → test (get_or xs k d) ≡ false
    pub here : (d : X) → test (get_or xs i d) ≡ true

  pub found : (xs : List X) (i : ℕ) → Some i ≡ position test xs → Found xs i
  found [] i e = absurd (none-some i (sym e))
  found (x ∷ xs) i e = record {
    within = (position-Some test (x ∷ xs) i x (sym e)).0;
    past = λ k d h. (position-Some test (x ∷ xs) i d (sym e)).2 k h;
    here = λ d. (position-Some test (x ∷ xs) i d (sym e)).1;
  }

  found-tail : (x : X) (xs : List X) (i : ℕ) → Found (x ∷ xs) (suc i) → Found xs i
  found-tail x xs i f = let w = f.within in record { within = omega arith; past = λ k d h. f.past (suc k) d (omega arith); here = λ d. f.here d }

  -- the first that passes stands at its index
  pub find-position : (xs : List X) → find test xs ≡ option_and_then (slice_get xs) (position test xs)
  find-position xs = first-stands test xs

  pub drop_at : (xs : List X) (i : ℕ) → Found xs i → remove xs i ≡ drop_of test xs
  drop_at [] i f = let w = f.within in absurd (omega arith)
  drop_at (x ∷ xs) zero f = rw (f.here x) refl
  drop_at (x ∷ xs) (suc n) f = rw (f.past 0 x (omega arith)) (ap (λ zs. x ∷ zs) (drop_at xs n (found-tail x xs n f)))

put-at : (test : Order → Bool) (o : Order) (xs : List Order) (i : ℕ) → Found test xs i → set xs i o ≡ put_of test o xs
put-at test o [] i f = let w = f.within in absurd (omega arith)
put-at test o (x ∷ xs) zero f = rw (f.here x) refl
put-at test o (x ∷ xs) (suc n) f = rw (f.past 0 x (omega arith)) (ap (λ zs. x ∷ zs) (put-at test o xs n (found-tail test x xs n f)))

-- written over the order of that index
pub row_put : (test : Order → Bool) (o : Order) (xs : List Order) (i : ℕ) → Some i ≡ position test xs → set xs i o ≡ put_of test o xs
row_put test o xs i e = put-at test o xs i (found test xs i e)

-- put behind the last
pub row-behind : (test : Order → Bool) (o : Order) (xs : List Order) → list_any test xs ≡ false → xs ++ o ∷ [] ≡ put_of test o xs
row-behind test o [] e = refl
row-behind test o (x ∷ xs) e =
    ⊎_elim
    (λ t. absurd (both_ways (list_any test (x ∷ xs)) e (rw t refl)))
    (λ f. rw f (ap (λ zs. x ∷ zs) (row-behind test o xs (rw f at e))))
    (cases_Bool (test x))
