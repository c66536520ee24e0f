use Rattle.std.proofs.Common.{◌≡◌, ◌≤◌, length, take, filter}
use Rattle.sheets.specs.Sides.{on}
use Rattle.sheets.proofs.scans.count_on.Given as goal

abbrev pub invariant-loop-order : goal.invariant-loop-order
invariant-loop-order l = (l.count ≤ l.order-index) × (l.count ≡ length (filter (on l.side) (take l.order-index l.orders)))
