use Rattle.std.proofs.Common.{◌≡◌, ℕ, ◌<◌, Bool, false, get_or}
use Rattle.std.specs.Fn.{ComputesKey}
use Rattle.ordered.proofs.rows.position.Given as goal

abbrev pub invariant-loop-i : goal.invariant-loop-i
invariant-loop-i g l = (passes : g.row.E.Denot → Bool) → ComputesKey g.F.Fn passes l.test → (k : ℕ) (d : _) → k < l.i → passes (get_or l.rows k d) ≡ false
