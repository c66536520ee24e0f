-- A test of each element, and the fact that it tells.
use Rattle.std.proofs.Common.{◌≡◌, Bool, true, List, [], ◌∷◌, refl}
use Rattle.std.specs.List.{AllByRecursion, list_all}
use Rattle.std.proofs.lemmas.Bool.{and_parts, and_from}

pub all_from : {X : Type 0} (test : X → Bool) (P : X → Type 0) → ((x : X) → test x ≡ true → P x) → (xs : List X) → list_all test xs ≡ true → AllByRecursion P xs
all_from test P says [] e = tt
all_from test P says (x ∷ xs) e = let p = and_parts (test x) (list_all test xs) e in (says x p.0, all_from test P says xs p.1)

pub all-to : {X : Type 0} (test : X → Bool) (P : X → Type 0) → ((x : X) → P x → test x ≡ true) → (xs : List X) → AllByRecursion P xs → list_all test xs ≡ true
all-to test P says [] e = refl
all-to test P says (x ∷ xs) e = and_from (test x) (list_all test xs) (says x e.0) (all-to test P says xs e.1)
