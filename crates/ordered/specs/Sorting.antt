-- Lists kept in the order of a test.
use Rattle.std.specs.Prelude.{◌≡◌, Bool, true, cond, not, ◌&&◌, List, [], ◌∷◌}
use Rattle.std.specs.List.{AllByRecursion, list_all}

-- entries in the order of their keys
abbrev pub ranked : {E K : Type 0} → (K → K → Bool) → (E → K) → E → E → Bool
ranked ahead key_of x y = ahead (key_of x) (key_of y)

-- x goes before the first entry that it is ahead of, or to the end
abbrev pub insert_by : {E : Type 0} → (E → E → Bool) → E → List E → List E
insert_by ahead x [] = x ∷ []
insert_by ahead x (y ∷ ys) = cond (ahead x y) (x ∷ y ∷ ys) (y ∷ insert_by ahead x ys)

-- each entry is ahead of every later one
abbrev pub Sorted : {E : Type 0} → (E → E → Bool) → List E → Type 0
Sorted ahead [] = Unit {0}
Sorted ahead (x ∷ xs) = AllByRecursion (λ y. ahead x y ≡ true) xs × Sorted ahead xs

-- whether no entry is ahead of one before it
abbrev pub in_order : {E : Type 0} → (E → E → Bool) → List E → Bool
in_order ahead [] = true
in_order ahead (x ∷ xs) = list_all (λ y. not (ahead y x)) xs && in_order ahead xs

-- the entries in the order of the test
abbrev pub sort_by : {E : Type 0} → (E → E → Bool) → List E → List E
sort_by ahead [] = []
sort_by ahead (x ∷ xs) = insert_by ahead x (sort_by ahead xs)
