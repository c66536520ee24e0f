-- Where the first of some rows that passes a test stands.
use Rattle.std.proofs.Common.{◌≡◌, ℕ, ◌<◌, ◌≤◌, Bool, true, false, cond, nat_lt, List, [], ◌∷◌, length, get_or, take, position, Some, None, refl, sym, ap, ◌∙◌, ⊎_elim, arith}
use Rattle.std.specs.Fn.{Called, ComputesKey}
use Rattle.std.specs.List.{find, position_or_len, slice_get}
use Rattle.std.specs.Option.{option_and_then}
use Rattle.std.proofs.lemmas.List.{get_or-take, length-take-le}
use Rattle.std.proofs.lemmas.List.Sums.{position_or_len_is}
use Rattle.std.proofs.lemmas.List.Folds.{find_at}
use Rattle.std.proofs.lemmas.Bool.{ltb-false, cond-true, cond-false, cases_Bool}
use Rattle.std.proofs.lemmas.Option.{slice_get_past}
use denote.Param.Members.{Mut}
use denote.Ref.{Bor}

-- what a call gave, of a closure that computes a test
pub call-computes : {F X : Type 0} (g : Mut F (Bor X × Unit {0}) Bool) (test : X → Bool) (f : F) (p : Bor X) (b : Bool)
    → ComputesKey g test f → (q : F) × Called g f (p, tt) b q → b ≡ test p.now
call-computes g test f p b computes k = (computes.at ((p, tt) ∷ []) b k.0 k.1).0

module _ {X : Type 0} (test : X → Bool) where
  placed : (xs : List X) (i : ℕ) (b : Bool) → position_or_len test xs ≡ i → nat_lt i (length xs) ≡ b → cond b (Some i) None ≡ position test xs
  placed xs i b e t = ap (λ c. cond c (Some i) None) (sym t) ∙ ap (λ n. cond (nat_lt n (length xs)) (Some n) None) (sym e)

  none-passes : (xs : List X) → ((k : ℕ) (d : X) → k < length xs → test (get_or xs k d) ≡ false) → None ≡ position test xs
  none-passes [] past = refl
  none-passes (x ∷ xs) past = placed (x ∷ xs) (length (x ∷ xs)) false (position_or_len_is test (x ∷ xs) _ x (omega arith) (λ k h. past k x h) (λ h. absurd (omega arith))) (grind arith)

  -- the first row that passes, and that none does, among the first n
  pub rows-found : (xs : List X) (i n : ℕ) (d : X) → n ≤ length xs → i < n → ((k : ℕ) (d : X) → k < i → test (get_or xs k d) ≡ false) → test (get_or xs i d) ≡ true → Some i ≡ position test (take n xs)
  rows-found xs i n d le lt past here =
      let l = length-take-le n xs le in
      placed (take n xs) i true
      (position_or_len_is test (take n xs) i d (omega arith)
      (λ k h. ap test (get_or-take n xs k d (omega arith)) ∙ past k d h)
      (λ _. ap test (get_or-take n xs i d lt) ∙ here))
      (grind arith)

  pub rows-missing : (xs : List X) (n : ℕ) → n ≤ length xs → ((k : ℕ) (d : X) → k < n → test (get_or xs k d) ≡ false) → None ≡ position test (take n xs)
  rows-missing xs n le past =
      let l = length-take-le n xs le in
      none-passes (take n xs) (λ k d h. ap test (get_or-take n xs k d (omega arith)) ∙ past k d (omega arith))

-- the first entry that passes stands at its index
pub find-position : {X : Type 0} (test : X → Bool) (xs : List X) → find test xs ≡ option_and_then (slice_get xs) (position test xs)
find-position test xs =
    let i = position_or_len test xs in
    let n = length xs in
    find_at test xs
    ∙ ⊎_elim
    (λ t. sym (ap (option_and_then (slice_get xs)) (cond-true (nat_lt i n) (Some i) None t)))
    (λ f. slice_get_past xs i (ltb-false i n f) ∙ sym (ap (option_and_then (slice_get xs)) (cond-false (nat_lt i n) (Some i) None f)))
    (cases_Bool (nat_lt i n))
