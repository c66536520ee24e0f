-- What a check that passes leaves, the last start of longer lists, and a progression that is not empty. `grind` finds these by itself now; they
-- stand for a proof that would name them.
use Rattle.std.proofs.Common.{◌≡◌, ℕ, zero, suc, ◌-◌, ◌≤◌, Bool, true, false, cond, List, ◌∷◌, ◌++◌, length, is_ok, Ok, Err, refl, ap, arith}
use Rattle.std.proofs.lemmas.Bool.{false≢true}
use Rattle.ticks.specs.declared.row.Row.{Row}
use Rattle.ticks.specs.declared.banded.fault.BandedFault.{BandedFault}
use Rattle.ticks.specs.Ticks.{progression}
use Rattle.ticks.specs.Rows.{start_at, Checked, and_then}

past : (b : Bool) (f : BandedFault) (x : Checked) → cond b (Err f) x ≡ Ok tt → (b ≡ false) × (x ≡ Ok tt)
past true f x e = absurd (false≢true (ap is_ok e))
past false f x e = (refl, e)

both : (x y : Checked) → and_then x y ≡ Ok tt → (x ≡ Ok tt) × (y ≡ Ok tt)
both (Ok tt) y e = (refl, e)
both (Err f) y e = absurd (false≢true (ap is_ok e))

ok-is : (x : Checked) → is_ok x ≡ true → x ≡ Ok tt
ok-is (Ok tt) e = refl
ok-is (Err f) e = absurd (false≢true e)

-- the last row of a longer list is the last of its rest
pub last-start : (r s : Row) (rs : List Row) → start_at (r ∷ s ∷ rs) (length (r ∷ s ∷ rs) - 1) ≡ start_at (s ∷ rs) (length (s ∷ rs) - 1)
last-start r s rs =
    let e : length (r ∷ s ∷ rs) - 1 ≡ suc (length (s ∷ rs) - 1) = omega arith in
    ap (λ k. start_at (r ∷ s ∷ rs) k) e

counted : (a s n : ℕ) (ts : List ℕ) → 1 ≤ length ts → 1 ≤ length (progression a s n ++ ts)
counted a s zero ts h = h
counted a s (suc n) ts h = omega arith
