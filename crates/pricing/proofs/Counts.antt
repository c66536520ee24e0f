-- What a walk has counted at one price, and what is left to count.
use Rattle.std.proofs.Common.{◌≡◌, ℕ, ◌+◌, ◌<◌, Bool, true, false, cond, not, ◌&&◌, List, [], ◌∷◌, Some, filter, ◌==◌, nat_le, sym, refl, ap, ◌∙◌, arith}
use Rattle.std.specs.List.{AllByRecursion}
use Rattle.std.proofs.lemmas.Bool.Decides.{nat_tests}
use Rattle.market.specs.declared.order.Order.{Order}
use Rattle.market.specs.declared.order.Side.{Side}
use Rattle.market.specs.declared.order.Side.TheVariants.{Buy, Offer}
use Rattle.market.specs.declared.priority.Priority.{Priority}
use Rattle.market.specs.Priority.{priority_of}
use Rattle.sheets.specs.Sides.{Sides, of_side, is_behind, outranks}
use Rattle.sheets.specs.Laws.{Bounded, SheetLaws}
use Rattle.pricing.specs.Curves.{is_market, quantity_of}
use Rattle.pricing.specs.Totals.{edge}
use Rattle.pricing.specs.Walk.{quantity_at}
use Rattle.pricing.proofs.Bounds.{side-small}
use Rattle.pricing.proofs.Curves.{quantity-more}
use Rattle.pricing.proofs.Walks.{rest}

-- a limit order at p, or at a worse price
abbrev pub reaches : Side → ℕ → Order → Bool
reaches Buy p o = not (is_market o) && nat_le o.price p
reaches Offer p o = not (is_market o) && nat_le p o.price

edge-reaches : (v : Side) (p : ℕ) (o : Order) → p < 4294967296 → Bounded o → is_behind v (Some (edge v p)) o ≡ reaches v p o
edge-reaches Buy p o h f = let a = f.price in let b = f.rank in let c = f.number in grind (arith, nat_tests)
edge-reaches Offer p o h f = let a = f.price in let b = f.rank in let c = f.number in grind (arith, nat_tests)

-- n was counted at p, and what is left is still to count
pub record Counting (v : Side) (p n : ℕ) (left os : List Order) : Type 0 where
  pub sum : n + quantity_at p left ≡ quantity_at p os
  pub reach : AllByRecursion (λ o. reaches v p o ≡ true) left

-- what does not reach p is not at p
unreached : (v : Side) (p : ℕ) (o : Order) → reaches v p o ≡ false → (not (is_market o) && o.price == p) ≡ false
unreached Buy p o e = grind (arith, nat_tests)
unreached Offer p o e = grind (arith, nat_tests)

reach-kept : (v : Side) (p : ℕ) (os : List Order) → quantity_at p (filter (reaches v p) os) ≡ quantity_at p os
reach-kept v p [] = refl
reach-kept v p (o ∷ os) = either (reaches v p o) refl (reach-kept v p os)
  where
    either : (b : Bool) → reaches v p o ≡ b → quantity_at p (filter (reaches v p) os) ≡ quantity_at p os → quantity_at p (cond b (o ∷ filter (reaches v p) os) (filter (reaches v p) os)) ≡ quantity_at p (o ∷ os)
    either true is more = quantity-more (λ x. not (is_market x) && x.price == p) o (filter (reaches v p) os) ∙ ap (λ n. cond (not (is_market o) && o.price == p) o.quantity 0 + n) more ∙ sym (quantity-more (λ x. not (is_market x) && x.price == p) o os)
    either false is more = more ∙ sym (quantity-more (λ x. not (is_market x) && x.price == p) o os ∙ rw (unreached v p o is) (omega arith))

same-kept : (f h : Order → Bool) (os : List Order) → AllByRecursion (λ o. f o ≡ h o) os → filter f os ≡ filter h os
same-kept f h [] a = refl
same-kept f h (o ∷ os) a = rw (a.0, same-kept f h os a.1) refl

edges-reach : (v : Side) (p : ℕ) (os : List Order) → p < 4294967296 → AllByRecursion Bounded os → AllByRecursion (λ o. is_behind v (Some (edge v p)) o ≡ reaches v p o) os
edges-reach v p [] h a = tt
edges-reach v p (o ∷ os) h a = (edge-reaches v p o h a.0, edges-reach v p os h a.1)

kept-pass : {X : Type 0} (f : X → Bool) (xs : List X) → AllByRecursion (λ x. f x ≡ true) (filter f xs)
kept-pass f [] = tt
kept-pass f (x ∷ xs) = either (f x) refl (kept-pass f xs)
  where
    either : (b : Bool) → f x ≡ b → AllByRecursion (λ y. f y ≡ true) (filter f xs) → AllByRecursion (λ y. f y ≡ true) (cond b (x ∷ filter f xs) (filter f xs))
    either true is more = (is, more)
    either false is more = more

pub counting-none : (v : Side) (p : ℕ) (place : Priority) (os : List Order) → p < 4294967296 → AllByRecursion Bounded os → place ≡ edge v p → Counting v p 0 (rest v (Some place) os) os
counting-none v p place os h a same =
    rw (same, same-kept (is_behind v (Some (edge v p))) (reaches v p) os (edges-reach v p os h a)) (record { sum = omega (arith, reach-kept v p os); reach = kept-pass (reaches v p) os })

reached-at : (v : Side) (p : ℕ) (o : Order) → reaches v p o ≡ true → o.price ≡ p → (not (is_market o) && o.price == p) ≡ true
reached-at Buy p o h e = grind (arith, nat_tests)
reached-at Offer p o h e = grind (arith, nat_tests)

pub counting-more : (v : Side) (p n : ℕ) (o : Order) (before left os : List Order) → before ≡ o ∷ left → o.price ≡ p → Counting v p n before os → Counting v p (n + o.quantity) left os
counting-more v p n o before left os e here h =
    let k : Counting v p n (o ∷ left) os = rw e at h in
    let t = reached-at v p o k.reach.0 here in
    let s : quantity_at p (o ∷ left) ≡ o.quantity + quantity_at p left = quantity-more (λ x. not (is_market x) && x.price == p) o left ∙ rw t refl in
    record { sum = omega (arith, k.sum, s); reach = k.reach.1 }

-- behind an order at a worse price there is none at p
none-here : (v : Side) (p : ℕ) (o : Order) → reaches v p o ≡ true → (o.price ≡ p → ⊥) → (not (is_market o) && o.price == p) ≡ false
none-here Buy p o h ne = grind (arith, nat_tests)
none-here Offer p o h ne = grind (arith, nat_tests)

none-behind : (v : Side) (p : ℕ) (o x : Order) → reaches v p o ≡ true → (o.price ≡ p → ⊥) → outranks v o x ≡ true → (not (is_market x) && x.price == p) ≡ false
none-behind Buy p o x h ne k = grind (arith, nat_tests)
none-behind Offer p o x h ne k = grind (arith, nat_tests)

none-at : (f : Order → Bool) (xs : List Order) → AllByRecursion (λ x. f x ≡ false) xs → quantity_of f xs ≡ 0
none-at f [] a = refl
none-at f (x ∷ xs) a = (let more = none-at f xs a.1 in quantity-more f x xs ∙ rw a.0 (omega arith))

none-left : (v : Side) (p : ℕ) (o : Order) (xs : List Order) → reaches v p o ≡ true → (o.price ≡ p → ⊥) → AllByRecursion (λ x. outranks v o x ≡ true) xs → AllByRecursion (λ x. (not (is_market x) && x.price == p) ≡ false) xs
none-left v p o [] h ne a = tt
none-left v p o (x ∷ xs) h ne a = (none-behind v p o x h ne a.0, none-left v p o xs h ne a.1)

pub counting-past : (v : Side) (p n : ℕ) (o : Order) (before os : List Order) → before ≡ o ∷ rest v (Some (priority_of o)) os → (o.price ≡ p → ⊥) → Counting v p n before os → n ≡ quantity_at p os
counting-past v p n o before os e ne h =
    let left = rest v (Some (priority_of o)) os in
    let k : Counting v p n (o ∷ left) os = rw e at h in
    let none = none-at (λ x. not (is_market x) && x.price == p) (o ∷ left) (none-here v p o k.reach.0 ne, none-left v p o left k.reach.0 ne (kept-pass (outranks v o) os)) in
    omega (arith, k.sum, none)

pub counting-all : (v : Side) (p n : ℕ) (left os : List Order) → left ≡ [] → Counting v p n left os → n ≡ quantity_at p os
counting-all v p n left os e h = let k : Counting v p n [] os = rw e at h in omega (arith, k.sum)

-- what is counted fits
pub counting-fits : (v : Side) (p n m : ℕ) (o : Order) (before left : List Order) (s : Sides) → before ≡ o ∷ left → o.price ≡ p → Counting v p n before (of_side v s) → SheetLaws m s → n + o.quantity < 8796093022208
counting-fits v p n m o before left s e here h l =
    let k = counting-more v p n o before left (of_side v s) e here h in
    omega (arith, k.sum, side-small m s l v (λ x. not (is_market x) && x.price == p))
