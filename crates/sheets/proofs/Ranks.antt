-- Priority as an order of orders: strict, and total on orders of different numbers.
use Rattle.std.proofs.Common.{◌≡◌, true, false, ap}
use Rattle.market.specs.declared.order.Order.{Order}
use Rattle.market.specs.declared.order.Side.{Side}
use Rattle.market.specs.declared.priority.Priority.{Priority}
use Rattle.market.specs.Priority.{priority_of}
use Rattle.market.specs.Ranked.{leads-irreflexive, leads-transitive, leads-total}
use Rattle.sheets.specs.Sides.{outranks}

pub outranks-irreflexive : (v : Side) (x : Order) → outranks v x x ≡ false
outranks-irreflexive v x = leads-irreflexive v (priority_of x)

pub outranks-transitive : (v : Side) (x y z : Order) → outranks v x y ≡ true → outranks v y z ≡ true → outranks v x z ≡ true
outranks-transitive v x y z = leads-transitive v (priority_of x) (priority_of y) (priority_of z)

pub outranks-total : (v : Side) (x y : Order) → outranks v x y ≡ false → outranks v y x ≡ false → x.number ≡ y.number
outranks-total v x y p q = ap (λ (r : Priority). r.number) (leads-total v (priority_of x) (priority_of y) p q)
