-- Demand and supply one tick further on.
use Rattle.std.proofs.Common.{not, ◌&&◌, [], ◌∷◌, ◌==◌, refl, arith}
use Rattle.std.proofs.lemmas.Bool.Decides.{nat_tests}
use Rattle.pricing.specs.Curves.{is_market, buys_at, sells_at}
use Rattle.pricing.specs.Walk.{DemandGoesOn, SupplyGoesOn}
use Rattle.pricing.proofs.Curves.{quantity-more}

pub demand-goes-on : DemandGoesOn
demand-goes-on [] p q l h = refl
demand-goes-on (o ∷ os) p q l h =
    let rest = demand-goes-on os p q l h.1 in
    let here = h.0 in
    let a = quantity-more (buys_at p) o os in
    let b = quantity-more (buys_at q) o os in
    let c = quantity-more (λ x. not (is_market x) && x.price == p) o os in
    grind (arith, nat_tests)

pub supply-goes-on : SupplyGoesOn
supply-goes-on [] p q l h = refl
supply-goes-on (o ∷ os) p q l h =
    let rest = supply-goes-on os p q l h.1 in
    let here = h.0 in
    let a = quantity-more (sells_at p) o os in
    let b = quantity-more (sells_at q) o os in
    let c = quantity-more (λ x. not (is_market x) && x.price == q) o os in
    grind (arith, nat_tests)
