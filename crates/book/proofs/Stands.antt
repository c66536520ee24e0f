-- An order that stands has its place: another of its number and side is never refused for want of room.
use Rattle.std.proofs.Common.{◌≡◌, ℕ, Bool, true, false, cond, not, List, [], ◌∷◌, Some, None, Option, sym, refl, ap, ◌∙◌, subst, arith}
use Rattle.std.specs.List.{AllByRecursion, find, list_any}
use Rattle.std.proofs.lemmas.Bool.{eqb-true, false≢true}
use Rattle.market.specs.declared.order.Order.{Order}
use Rattle.market.specs.declared.order.Side.{Side}
use Rattle.market.specs.declared.order.Side.TheVariants.{Buy, Offer}
use Rattle.sheets.specs.Sides.{Sides, of_side, numbered, find_in, over, full}
use Rattle.sheets.specs.Laws.{SheetLaws}
use Rattle.calls.specs.Machine.{with_terms}
use Rattle.sheets.proofs.Keeps.{over-some}
use Rattle.sheets.proofs.Numbers.{first-left, first-right, first_some, first-none-some}

-- the first order of number k has that number, and what holds of all
first-is : (P : Order → Type 0) (k : ℕ) (xs : List Order) (o : Order) → AllByRecursion P xs → Some o ≡ find (numbered k) xs → (o.number ≡ k) × P o
first-is P k [] o h e = absurd (let z : ◌≡◌ {A = ℕ} 0 1 = cc in omega arith)
first-is P k (x ∷ xs) o h e = either (numbered k x) refl e (first-is P k xs o h.1)
  where
    either : (b : Bool) → numbered k x ≡ b → Some o ≡ cond b (Some x) (find (numbered k) xs) → (Some o ≡ find (numbered k) xs → (o.number ≡ k) × P o) → (o.number ≡ k) × P o
    either true t e rest = let same : x ≡ o = cc in (ap (λ (y : Order). y.number) (sym same) ∙ eqb-true x.number k t, subst P same h.0)
    either false f e rest = rest e

-- an order that is found stands on its own side
pub found-stands : (n k : ℕ) (s : Sides) (o : Order) → SheetLaws n s → Some o ≡ find_in k s → (o.number ≡ k) × (list_any (numbered k) (of_side o.side s) ≡ true)
found-stands n k s o l e = which (find (numbered k) s.buys) refl
  where
    on-side : (v : Side) → AllByRecursion (λ x. x.side ≡ v) (of_side v s) → Some o ≡ find (numbered k) (of_side v s) → (o.number ≡ k) × (list_any (numbered k) (of_side o.side s) ≡ true)
    on-side v sided here =
        let is = first-is (λ x. x.side ≡ v) k (of_side v s) o sided here in
        (is.0, ap (λ (w : Side). list_any (numbered k) (of_side w s)) is.1 ∙ first_some (numbered k) (of_side v s) o here)

    which : (f : Option Order) → f ≡ find (numbered k) s.buys → (o.number ≡ k) × (list_any (numbered k) (of_side o.side s) ≡ true)
    which None none = on-side Offer l.offers.sided (e ∙ first-right (numbered k) s.buys s.offers (first-none-some (numbered k) s.buys none))
    which (Some x) some =
        let both = e ∙ sym (first-left (numbered k) s.buys s.offers x some) in
        on-side Buy l.buys.sided (both ∙ some)

-- so a put in its place is not refused
pub found-fits : (n k : ℕ) (s : Sides) (o p : Order) → SheetLaws n s → Some o ≡ find_in k s → p.number ≡ o.number → p.side ≡ o.side → full n p s ≡ false
found-fits n k s o p l e number side =
    let is = found-stands n k s o l e in
    ap (λ (v : Side). over n p.number (of_side v s)) side
    ∙ ap (λ (j : ℕ). over n j (of_side o.side s)) (number ∙ is.0)
    ∙ over-some n k (of_side o.side s) is.1

-- and an amendment never is
pub amend-fits : (n k : ℕ) (s : Sides) (o : Order) (price rank q : ℕ) → SheetLaws n s → Some o ≡ find_in k s → false ≡ not (full n (with_terms o price rank q) s) → ⊥
amend-fits n k s o price rank q l e refused =
    let fits = found-fits n k s o (with_terms o price rank q) l e refl refl in
    false≢true (refused ∙ ap not fits)
