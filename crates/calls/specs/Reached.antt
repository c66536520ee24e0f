-- What holds of every book that calls lead to from a new one.
use Rattle.std.specs.Prelude.{◌≡◌, ℕ, ◌≤◌, List, Ok, IfSome, ◌==◌}
use Rattle.std.specs.List.{AllByRecursion, IsDistinct}
use Rattle.market.specs.declared.order.Kind.{Kind}
use Rattle.market.specs.declared.order.Kind.TheVariants.{Limit, Market}
use Rattle.market.specs.declared.order.Order.{Order}
use Rattle.ticks.specs.Ticks.{admitted}
use Rattle.sheets.specs.Sides.{standing}
use Rattle.calls.specs.declared.call.Phase.TheVariants.{Shut, Calling}
use Rattle.calls.specs.declared.call.Call.{Call}
use Rattle.calls.specs.State.{Rule, Setting, State, opened}
use Rattle.calls.specs.Machine.{next_all}

-- the rule admits price p
abbrev pub Admitted : Rule → ℕ → Type 0
Admitted rule p = admitted rule.ticks rule.floor rule.ceiling p ≡ Ok tt

-- a limit price is one that the rule admits, a market price is 0
abbrev pub Priced : Rule → Kind → ℕ → Type 0
Priced rule Limit p = Admitted rule p
Priced rule Market p = p ≡ 0

-- of an order after `used` ranks: a quantity from 1 to 1,000,000, a price that suits its kind, a rank that was given,
-- and a number from 1 up to the rank
pub record Proper (rule : Rule) (used : ℕ) (o : Order) : Type 0 where
  pub some : 1 ≤ o.quantity
  pub few : o.quantity ≤ 1000000
  pub priced : Priced rule o.kind o.price
  pub numbered : 1 ≤ o.number
  pub number : o.number ≤ o.rank
  pub rank : o.rank ≤ used

-- of a book: at most 1,000,000 ranks are used; each order that stands is proper, and no two have the same rank;
-- a shut book is a new one; the prices that a calling book was started with are admitted
pub record Reached (g : Setting) (s : State) : Type 0 where
  pub ranks : s.used ≤ 1000000
  pub orders : AllByRecursion (Proper g.rule s.used) (standing s.sides)
  pub distinct : IsDistinct (λ x y. x.rank == y.rank) (standing s.sides)
  pub shut : s.phase ≡ Shut → s ≡ opened
  pub prior : s.phase ≡ Calling → Admitted g.rule s.prior
  pub last : s.phase ≡ Calling → IfSome s.last (Admitted g.rule)

-- whatever the setting, and whatever is called
abbrev pub EachReached : Type 0
EachReached = (g : Setting) (cs : List Call) → Reached g (next_all g opened cs)
