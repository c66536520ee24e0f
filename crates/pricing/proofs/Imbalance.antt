-- The sign and the size of an imbalance.
use Rattle.std.proofs.Common.{◌≡◌, ℕ, zero, suc, pos, ◌-ℤ◌, unsigned_abs, int_lt, nat_lt, arith}
use Rattle.std.specs.Int.{abs_diff}
use Rattle.std.proofs.lemmas.Bool.Decides.{nat_tests}
use Rattle.std.proofs.lemmas.Grind.{common_steps}
use Rattle.pricing.specs.Pricing.{EachImbalance}

size : (a b : ℕ) → unsigned_abs (pos a -ℤ pos b) ≡ abs_diff a b
size a zero = grind (arith, common_steps)
size a (suc b) = grind (arith, common_steps, nat_tests)

over : (a b : ℕ) → int_lt (pos 0) (pos a -ℤ pos b) ≡ nat_lt b a
over a zero = grind (arith, common_steps)
over a (suc b) = grind (arith, common_steps, nat_tests)

under : (a b : ℕ) → int_lt (pos a -ℤ pos b) (pos 0) ≡ nat_lt a b
under a zero = grind (arith, common_steps)
under a (suc b) = grind (arith, common_steps, nat_tests)

pub each-imbalance : EachImbalance
each-imbalance m t = record { size = size (m.demand t) (m.supply t); positive = over (m.demand t) (m.supply t); negative = under (m.demand t) (m.supply t) }
