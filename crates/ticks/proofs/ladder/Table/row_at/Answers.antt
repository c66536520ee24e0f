use Rattle.std.proofs.Common.{◌≡◌, leb, List, [], ◌∷◌, Some, None, Option, map, refl, ap, ◌∙◌, rules, tests}
use Rattle.std.specs.Iterator.{Drains}
use Rattle.std.specs.List.{last_or}
use Rattle.std.specs.Option.{option_map}
use Rattle.std.proofs.lemmas.Iterator.{YieldsList, YieldsList-from_slice, items_from_drains}
use Rattle.std.proofs.lemmas.Iterator.Search.{YieldsList-from_take_while}
use Rattle.ticks.proofs.ladder.Table.row_at.Goals as goal

last-map : {A B : Type 0} (f : A → B) (o : Option A) (xs : List A) → option_map f (last_or o xs) ≡ last_or (option_map f o) (map f xs)
last-map f o [] = refl
last-map f o (x ∷ xs) = last-map f (Some x) xs

-- what `last` answers over a chain
last_of : {S A B : Type 0} {steps : S → Option A → S → Type 0} {v : A → B} {all : List B} (s : S) (r : Option A) → (xs : List A) × Drains steps s xs × (r ≡ last_or None xs) → YieldsList steps v s all → option_map v r ≡ last_or None all
last_of {v = v} s r (xs, (u, (t, given, none)), e) y =
    ap (option_map v) e ∙ last-map v None xs ∙ ap (last_or None) (items_from_drains xs (t, given, λ _. (u, none)) y)

pub returns : goal.returns
returns c =
    c.copied.ensures
    ∙ last_of c.take_while.result c.last.result c.last.ensures.ran
    (YieldsList-from_take_while _ (λ r. leb r.start c.args.p) (YieldsList-from_slice c.args.self.now.rows.now cc) c.take_while.ensures.closure c.take_while.ensures.done (λ x b q k. search (rules, tests)))
