-- Priority is a strict total order on each side.
use Rattle.std.specs.Prelude.{◌≡◌, ℕ, Bool, true, false, refl}
use Rattle.std.proofs.Common.{arith}
use Rattle.std.proofs.lemmas.Bool.Decides.{nat_tests}
use Rattle.market.specs.Priority.{first, level, better, leads}
use Rattle.market.specs.declared.order.Side.{Side}
use Rattle.market.specs.declared.order.Side.TheVariants.{Buy, Offer}
use Rattle.market.specs.declared.order.Kind.{Kind}
use Rattle.market.specs.declared.order.Kind.TheVariants.{Limit, Market}
use Rattle.market.specs.declared.priority.Priority.{Priority}

first-same : (a : ℕ) (p : Bool) → first a a p ≡ p
first-same a p = grind (arith, nat_tests)

first-trans : (a b c : ℕ) (p q r : Bool) → (p ≡ true → q ≡ true → r ≡ true) → first a b p ≡ true → first b c q ≡ true → first a c r ≡ true
first-trans a b c p q r h x y = grind (arith, nat_tests)

first-total : (a b : ℕ) (p q : Bool) → first a b p ≡ false → first b a q ≡ false → (a ≡ b) × (p ≡ false) × (q ≡ false)
first-total a b p q x y = (grind (arith, nat_tests), grind (arith, nat_tests), grind (arith, nat_tests))

better-same : (s : Side) (a : ℕ) (p : Bool) → better s a a p ≡ p
better-same Buy a p = first-same a p
better-same Offer a p = first-same a p

better-trans : (s : Side) (a b c : ℕ) (p q r : Bool) → (p ≡ true → q ≡ true → r ≡ true) → better s a b p ≡ true → better s b c q ≡ true → better s a c r ≡ true
better-trans Buy a b c p q r h x y = first-trans c b a q p r (λ v u. h u v) y x
better-trans Offer a b c p q r h x y = first-trans a b c p q r h x y

better-total : (s : Side) (a b : ℕ) (p q : Bool) → better s a b p ≡ false → better s b a q ≡ false → (a ≡ b) × (p ≡ false) × (q ≡ false)
better-total Buy a b p q x y = let t = first-total b a p q x y in (omega (arith, t.0), t.1, t.2)
better-total Offer a b p q x y = first-total a b p q x y

same-level : (j k : Kind) → level j ≡ level k → j ≡ k
same-level Limit Limit e = refl
same-level Limit Market e = absurd (omega arith)
same-level Market Limit e = absurd (omega arith)
same-level Market Market e = refl

pub leads-irreflexive : (s : Side) (x : Priority) → leads s x x ≡ false
leads-irreflexive s x = rw (first-same (level x.kind)) (rw (better-same s x.price) (rw (first-same x.rank) (first-same x.number false)))

pub leads-transitive : (s : Side) (x y z : Priority) → leads s x y ≡ true → leads s y z ≡ true → leads s x z ≡ true
leads-transitive s x y z =
    first-trans (level x.kind) (level y.kind) (level z.kind) _ _ _
    (better-trans s x.price y.price z.price _ _ _
    (first-trans x.rank y.rank z.rank _ _ _
    (first-trans x.number y.number z.number false false false (λ p _. p))))

pub leads-total : (s : Side) (x y : Priority) → leads s x y ≡ false → leads s y x ≡ false → x ≡ y
leads-total s x y p q =
    let k = first-total (level x.kind) (level y.kind) _ _ p q in
    let r = better-total s x.price y.price _ _ k.1 k.2 in
    let t = first-total x.rank y.rank _ _ r.1 r.2 in
    let n = first-total x.number y.number false false t.1 t.2 in
    let e : x.kind ≡ y.kind = same-level x.kind y.kind k.0 in
    λ i. record { kind = e i; price = r.0 i; rank = t.0 i; number = n.0 i }
