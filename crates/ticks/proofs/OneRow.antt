-- A flat rule's ticks are the ladder of one row.
use Rattle.std.proofs.Common.{◌≡◌, ℕ, zero, suc, ◌+◌, ◌-◌, ◌*◌, ◌/◌, ◌%◌, true, [], ◌∷◌, ◌++◌, is_ok, ap, ◌∙◌, mul-zero, mul-suc, arith}
use Rattle.std.proofs.Math.Nat.{add-sub_cancel_left, mul-mod_right, mul-div_cancel_left}
use Rattle.ticks.specs.declared.row.Row.{Row}
use Rattle.ticks.specs.Ticks.{progression}
use Rattle.ticks.specs.Flats.{Sound}
use Rattle.ticks.specs.Rows.{ladder, load_check}
use Rattle.ticks.specs.Evidence.{length-progression}
use Rattle.ticks.proofs.RowsHold.{accepted}

one_more : (a s n : ℕ) → progression a s n ++ ((a + s * n) ∷ []) ≡ progression a s (suc n)
one_more a s zero = ap (λ x. x ∷ []) (omega (arith, mul-zero s))
one_more a s (suc n) =
    let e : a + s * suc n ≡ (a + s) + s * n = omega (arith, mul-suc s n) in
    rw e (ap (λ ts. a ∷ ts) (one_more (a + s) s n))

module _ (a s n : ℕ) (ok : Sound a s n) where
  abbrev pub row : Row
  row = record { start = a; step = s }

  up : (a + s * (n - 1)) - a ≡ s * (n - 1)
  up = add-sub_cancel_left a (s * (n - 1))

  steps : ((a + s * (n - 1)) - a) / s ≡ n - 1
  steps = rw up (mul-div_cancel_left (n - 1) (omega arith))

  even : ((a + s * (n - 1)) - a) % s ≡ 0
  even = rw up (mul-mod_right s (n - 1))

  pub ladder-one : ladder (row ∷ []) (a + s * (n - 1)) ≡ progression a s n
  ladder-one =
      let e : suc (n - 1) ≡ n = omega arith in
      rw steps (one_more a s (n - 1) ∙ ap (λ k. progression a s k) e)

  pub load-one : is_ok (load_check (row ∷ []) (a + s * (n - 1))) ≡ true
  load-one = accepted (row ∷ []) (a + s * (n - 1)) record {
    some = omega arith;
    fit = omega arith;
    first = ok.0;
    rising = λ i l. absurd (omega arith);
    steps = λ i l. let z : i ≡ 0 = omega arith in rw z ok.1;
    ends = λ i l. let z : i ≡ 0 = omega arith in rw z (omega arith);
    high = ok.4;
    even = λ i l. absurd (omega arith);
    last = λ i l. let z : i ≡ 0 = omega arith in rw z even;
    few = rw ladder-one (rw (length-progression a s n) ok.3);
  }
