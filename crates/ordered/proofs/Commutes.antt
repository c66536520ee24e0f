-- Entries of different keys go in in any order.
use Rattle.std.proofs.Common.{◌≡◌, Bool, true, false, ◌≢◌, ◌⊎◌, List, [], ◌∷◌, sym, refl, ap, ◌∙◌, inl, inr, ⊎_elim}
use borrow.Author.Tests.{both_ways}
use Rattle.std.proofs.lemmas.Bool.{cases_Bool}
use Rattle.ordered.specs.Sorting.{insert_by}

module _ {X K : Type 0} (ahead : X → X → Bool) (key : X → K)
    (irr : (x : X) → ahead x x ≡ false)
    (tr : (x y z : X) → ahead x y ≡ true → ahead y z ≡ true → ahead x z ≡ true)
    (total : (x y : X) → ahead x y ≡ false → ahead y x ≡ false → key x ≡ key y) where
  asym : (x y : X) → ahead x y ≡ true → ahead y x ≡ false
  asym x y t = ⊎_elim (λ u. absurd (both_ways (ahead x x) (irr x) (tr x y x t u))) (λ f. f) (cases_Bool (ahead y x))

  -- of two entries of different keys one is ahead
  one_way : (x y : X) → key x ≢ key y → ((ahead x y ≡ true) × (ahead y x ≡ false)) ⊎ ((ahead x y ≡ false) × (ahead y x ≡ true))
  one_way x y ne =
      ⊎_elim (λ t. inl (t, asym x y t))
      (λ f. ⊎_elim (λ t. inr (f, t)) (λ f'. absurd (ne (total x y f f'))) (cases_Bool (ahead y x)))
      (cases_Bool (ahead x y))

  insert-true : (x z : X) (zs : List X) → ahead x z ≡ true → insert_by ahead x (z ∷ zs) ≡ x ∷ z ∷ zs
  insert-true x z zs t = rw t refl

  insert-false : (x z : X) (zs : List X) → ahead x z ≡ false → insert_by ahead x (z ∷ zs) ≡ z ∷ insert_by ahead x zs
  insert-false x z zs f = rw f refl

  abbrev Swaps : X → X → List X → Type 0
  Swaps x y zs = insert_by ahead x (insert_by ahead y zs) ≡ insert_by ahead y (insert_by ahead x zs)

  -- where x is ahead of y
  swap_at : (x y : X) → ahead x y ≡ true → ahead y x ≡ false → (zs : List X) → Swaps x y zs
  swap_at x y t f [] = insert-true x y [] t ∙ sym (insert-false y x [] f)
  swap_at x y t f (z ∷ zs) =
      ⊎_elim
      -- y is ahead of z, and so is x
      (λ yz. let xz = tr x y z t yz in
      ap (insert_by ahead x) (insert-true y z zs yz) ∙ insert-true x y (z ∷ zs) t
      ∙ sym (ap (insert_by ahead y) (insert-true x z zs xz) ∙ insert-false y x (z ∷ zs) f ∙ ap (λ ws. x ∷ ws) (insert-true y z zs yz)))
      (λ yz. ⊎_elim
      (λ xz. ap (insert_by ahead x) (insert-false y z zs yz) ∙ insert-true x z (insert_by ahead y zs) xz
      ∙ sym (ap (insert_by ahead y) (insert-true x z zs xz) ∙ insert-false y x (z ∷ zs) f ∙ ap (λ ws. x ∷ ws) (insert-false y z zs yz)))
      (λ xz. ap (insert_by ahead x) (insert-false y z zs yz) ∙ insert-false x z (insert_by ahead y zs) xz
      ∙ ap (λ ws. z ∷ ws) (swap_at x y t f zs)
      ∙ sym (ap (insert_by ahead y) (insert-false x z zs xz) ∙ insert-false y z (insert_by ahead x zs) yz))
      (cases_Bool (ahead x z)))
      (cases_Bool (ahead y z))

  pub insert-swap : (x y : X) → key x ≢ key y → (zs : List X) → Swaps x y zs
  insert-swap x y ne zs =
      ⊎_elim (λ p. swap_at x y p.0 p.1 zs) (λ p. sym (swap_at y x p.1 p.0 zs)) (one_way x y ne)
