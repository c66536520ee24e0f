-- What an edit of the rows leaves of the first n.
use Rattle.std.proofs.Common.{◌≡◌, ◌≢◌, ℕ, ◌+◌, ◌-◌, ◌<◌, ◌≤◌, List, length, take, set, sym, ◌∙◌, ⊎_elim, rules, arith}
use Rattle.std.specs.List.{insert, remove, copy_within}
use Rattle.std.proofs.lemmas.List.{same_lists, places, get_or-take, get_or-set_same, get_or-set_other, length-take}
use Rattle.std.proofs.lemmas.List.Edits.{get_or-insert_at}
use Rattle.std.proofs.lemmas.Bool.{cases_order}

pub take-opened : {X : Type 0} (xs : List X) (at n : ℕ) (x : X) → at ≤ n → n < length xs → take (n + 1) (set (copy_within xs at n (at + 1)) at x) ≡ insert (take n xs) at x
take-opened {X = X} xs at n x le lt =
    same_lists _ _ (search (rules, places))
    (λ k d h. ⊎_elim
    (λ e. rw e (get_or-take (n + 1) _ at d (omega arith) ∙ get_or-set_same _ at x d (search (rules, places)) ∙ sym (get_or-insert_at (take n xs) at x d (search (rules, places)))))
    (λ o. let ne : k ≢ at = ⊎_elim (λ l. omega arith) (λ l. omega arith) o in
    let inside : k < n + 1 = omega (arith, length-take {A = X}) in
    get_or-take (n + 1) _ k d inside ∙ get_or-set_other _ at k x d ne ∙ ⊎_elim (λ l. grind (arith, places)) (λ l. grind (arith, places)) o)
    (cases_order k at))

pub take-closed : {X : Type 0} (xs : List X) (at n : ℕ) → at < n → n ≤ length xs → take (n - 1) (copy_within xs (at + 1) n at) ≡ remove (take n xs) at
take-closed xs at n lt le = same_lists _ _ (search (rules, places)) (λ k d h. grind (arith, places))
