-- Evidence that each rule is lawful. A trait's ghost member takes it from here, so it stands among the definitions;
-- nothing in this file has to be believed.
use Rattle.std.specs.Prelude.{◌≡◌, ℕ, zero, suc, ◌+◌, ◌-◌, ◌*◌, ◌/◌, ◌%◌, ◌<◌, ◌≤◌, min, max, true, List, [], ◌∷◌, ◌++◌, length, is_ok, Ok, slice_index, slice_index_or, refl}
use Rattle.std.proofs.Common.{length-append, ap, ◌∙◌, mul-zero, mul-suc, mul-add, mul-le-mul_left, arith}
use Rattle.std.proofs.Math.Nat.{div-add-mod}
use Rattle.std.proofs.lemmas.Grind.{common_steps}
use Rattle.ticks.specs.declared.row.Row.{Row}
use Rattle.ticks.specs.Ticks.{progression, Lawful, Rising}
use Rattle.ticks.specs.Flats.{Sound}
use Rattle.ticks.specs.Rows.{start_of, stretch, ladder, start_at, rows_check, distances_check, load_check, Ordered}

-- a progression, place by place
pub length-progression : (a s n : ℕ) → length (progression a s n) ≡ n
length-progression a s zero = refl
length-progression a s (suc n) = ap suc (length-progression (a + s) s n)

pub slice_index-progression : (a s n k : ℕ) → k < n → slice_index (progression a s n) k ≡ a + s * k
slice_index-progression a s zero k h = absurd (omega arith)
slice_index-progression a s (suc n) zero h = omega (arith, mul-zero s)
slice_index-progression a s (suc n) (suc k) h =
    let rest : slice_index_or (progression (a + s) s n) k 0 ≡ (a + s) + s * k = slice_index-progression (a + s) s n k (omega arith) in
    rest ∙ omega (arith, mul-suc s k)

module _ (a s n : ℕ) where
  pub at_place : (P : ℕ → Type 0) (j : ℕ) → j < length (progression a s n) → (j < n → P (a + s * j)) → P (slice_index (progression a s n) j)
  at_place P j l f =
      let m : j < n = omega (arith, length-progression a s n) in
      let e : slice_index_or (progression a s n) j 0 ≡ a + s * j = slice_index-progression a s n j m in
      rw e (f m)

  -- the flat rule
  pub lawful_flat : Sound a s n → Lawful (progression a s n) a (a + s * (n - 1))
  lawful_flat ok = record {
    rising = λ i j l m.
        let im : i < n = omega (arith, length-progression a s n) in
        let jm : j < n = omega (arith, length-progression a s n) in
        let t : i + 1 ≤ j = omega arith in
        omega (arith, slice_index-progression a s n i im, slice_index-progression a s n j jm, mul-le-mul_left s t, mul-add s i 1);
    some = omega (arith, length-progression a s n);
    few = omega (arith, length-progression a s n);
    least = λ i l. at_place (λ x. 1 ≤ x) i l (λ m. omega arith);
    most = λ i l. at_place (λ x. x ≤ 1000000000) i l (λ m. let t : i ≤ n - 1 = omega arith in omega (arith, mul-le-mul_left s t));
    floor-fits = omega arith;
    ceiling-fits = omega arith;
  }

-- the daily band
pub lawful_band : (ts : List ℕ) (floor ceiling lower upper : ℕ) → Lawful ts floor ceiling → lower < 4294967296 → Lawful ts (max floor lower) (min ceiling upper)
lawful_band ts floor ceiling lower upper l h = record {
  rising = l.rising;
  some = l.some;
  few = l.few;
  least = l.least;
  most = l.most;
  floor-fits = omega (arith, l.floor-fits);
  ceiling-fits = omega (arith, l.ceiling-fits);
}

-- what a check that passes leaves
pub row-passes : (i low : ℕ) (r : Row) (rs : List Row) → rows_check i low (r ∷ rs) ≡ Ok tt → (low < r.start) × (1 ≤ r.step) × (rows_check (i + 1) r.start rs ≡ Ok tt)
row-passes i low r rs e = (grind (arith, common_steps), grind (arith, common_steps), grind (arith, common_steps))

pub distance-passes : (i : ℕ) (r : Row) (rs : List Row) (end : ℕ) → distances_check i (r ∷ rs) end ≡ Ok tt → ((start_of rs end - r.start) % r.step ≤ 0) × (distances_check (i + 1) rs end ≡ Ok tt)
distance-passes i r rs end e = (grind (arith, common_steps), grind (arith, common_steps))

-- rows that pass are in order
pub ordered : (i low : ℕ) (rs : List Row) (end : ℕ) → rows_check i low rs ≡ Ok tt → start_at rs (length rs - 1) ≤ end → Ordered rs end
ordered i low [] end e l = tt
ordered i low (r ∷ []) end e l = ((row-passes i low r [] e).1, l, tt)
ordered i low (r ∷ s ∷ rs) end e l =
    let k = row-passes i low r (s ∷ rs) e in
    let m = row-passes (i + 1) r.start s rs k.2 in
    (k.1, omega (arith, m.0), ordered (i + 1) r.start (s ∷ rs) end k.2 (grind (arith, common_steps)))

-- each row's steps come out at the start of the next, or at the end
abbrev pub Chain : List Row → ℕ → Type 0
Chain [] end = Unit {0}
Chain (r ∷ rs) end = (1 ≤ r.step) × (r.start ≤ start_of rs end) × (r.start + r.step * ((start_of rs end - r.start) / r.step) ≡ start_of rs end) × Chain rs end

pub chained : (i : ℕ) (rs : List Row) (end : ℕ) → Ordered rs end → distances_check i rs end ≡ Ok tt → Chain rs end
chained i [] end o e = tt
chained i (r ∷ rs) end o e =
    let k = distance-passes i r rs end e in
    (o.0, o.1, omega (arith, div-add-mod (start_of rs end - r.start) r.step, o.1, k.0), chained (i + 1) rs end o.2 k.1)

pub first_some : (rs : List Row) (end : ℕ) → rows_check 0 0 rs ≡ Ok tt → 1 ≤ length rs → 1 ≤ start_of rs end
first_some [] end e h = absurd (omega arith)
first_some (r ∷ rs) end e h = (row-passes 0 0 r rs e).0

-- what an accepted load keeps
pub record Found (rs : List Row) (end : ℕ) : Type 0 where
  pub fine : rows_check 0 0 rs ≡ Ok tt
  pub ends : start_at rs (length rs - 1) ≤ end
  pub even : distances_check 0 rs end ≡ Ok tt
  pub chain : Chain rs end
  pub least : 1 ≤ start_of rs end
  pub some : 1 ≤ length rs
  pub rows : length rs ≤ 16
  pub high : end ≤ 1000000000
  pub few : length (ladder rs end) ≤ 1000000

pub found : (rs : List Row) (end : ℕ) → is_ok (load_check rs end) ≡ true → Found rs end
found rs end e =
    let fine' : rows_check 0 0 rs ≡ Ok tt = grind (arith, common_steps) in
    let ends' : start_at rs (length rs - 1) ≤ end = grind (arith, common_steps) in
    let even' : distances_check 0 rs end ≡ Ok tt = grind (arith, common_steps) in
    let some' : 1 ≤ length rs = grind (arith, common_steps) in
    record {
      fine = fine';
      ends = ends';
      even = even';
      chain = chained 0 rs end (ordered 0 0 rs end fine' ends') even';
      least = first_some rs end fine' some';
      some = some';
      rows = grind (arith, common_steps);
      high = grind (arith, common_steps);
      few = grind (arith, common_steps);
    }

-- each is at least `low`, and greater than the one before
abbrev pub Climbs : ℕ → List ℕ → Type 0
Climbs low [] = Unit {0}
Climbs low (t ∷ ts) = (low ≤ t) × Climbs (t + 1) ts

pub climbs-less : (a b : ℕ) (ts : List ℕ) → a ≤ b → Climbs b ts → Climbs a ts
climbs-less a b [] l c = tt
climbs-less a b (t ∷ ts) l c = (omega (arith, c.0), c.1)

pub climbs-stretch : (a s n : ℕ) (ts : List ℕ) → 1 ≤ s → Climbs (a + s * n) ts → Climbs a (progression a s n ++ ts)
climbs-stretch a s zero ts h c = climbs-less a (a + s * 0) ts (omega arith) c
climbs-stretch a s (suc n) ts h c = (
  omega arith,
  climbs-less (a + 1) (a + s) _ (omega arith)
      (climbs-stretch (a + s) s n ts h (climbs-less ((a + s) + s * n) (a + s * suc n) ts (omega (arith, mul-suc s n)) c)),
)

pub climbs : (rs : List Row) (end : ℕ) → Chain rs end → Climbs (start_of rs end) (ladder rs end)
climbs [] end c = (omega arith, tt)
climbs (r ∷ rs) end c =
    climbs-stretch r.start r.step _ _ c.0 (climbs-less _ _ _ (omega (arith, c.2)) (climbs rs end c.3))

pub climbs-least : (low : ℕ) (ts : List ℕ) → Climbs low ts → (j : ℕ) → j < length ts → low ≤ slice_index ts j
climbs-least low [] c j l = absurd (omega arith)
climbs-least low (t ∷ ts) c zero l = c.0
climbs-least low (t ∷ ts) c (suc j) l = let m = climbs-least (t + 1) ts c.1 j (omega arith) in omega (arith, c.0, m)

pub climbs-rising : (low : ℕ) (ts : List ℕ) → Climbs low ts → Rising ts
climbs-rising low [] c i j l m = absurd (omega arith)
climbs-rising low (t ∷ ts) c i zero l m = absurd (omega arith)
climbs-rising low (t ∷ ts) c zero (suc j) l m = let k = climbs-least (t + 1) ts c.1 j (omega arith) in omega (arith, k)
climbs-rising low (t ∷ ts) c (suc i) (suc j) l m = climbs-rising (t + 1) ts c.1 i j (omega arith) (omega arith)

pub start-end : (rs : List Row) (end : ℕ) → Chain rs end → start_of rs end ≤ end
start-end [] end c = omega arith
start-end (r ∷ rs) end c = omega (arith, c.1, start-end rs end c.3)

-- none is over the end
pub tops-stretch : (a s n : ℕ) (ts : List ℕ) (end : ℕ) → a + s * n ≤ end → ((j : ℕ) → j < length ts → slice_index ts j ≤ end) → (j : ℕ) → j < length (progression a s n ++ ts) → slice_index (progression a s n ++ ts) j ≤ end
tops-stretch a s zero ts end h f j l = f j l
tops-stretch a s (suc n) ts end h f zero l = omega arith
tops-stretch a s (suc n) ts end h f (suc j) l = tops-stretch (a + s) s n ts end (omega (arith, mul-suc s n)) f j (omega arith)

pub tops : (rs : List Row) (end : ℕ) → Chain rs end → (j : ℕ) → j < length (ladder rs end) → slice_index (ladder rs end) j ≤ end
tops [] end c zero l = omega arith
tops [] end c (suc j) l = absurd (omega arith)
tops (r ∷ rs) end c j l =
    tops-stretch r.start r.step _ _ end (omega (arith, c.2, start-end rs end c.3)) (tops rs end c.3) j l

pub one : (rs : List Row) (end : ℕ) → 1 ≤ length (ladder rs end)
one [] end = omega arith
one (r ∷ rs) end = let o = one rs end in omega (arith, length-append (stretch r (start_of rs end)) (ladder rs end))

-- the banded rule
pub lawful_banded : (rs : List Row) (end : ℕ) → is_ok (load_check rs end) ≡ true → Lawful (ladder rs end) (start_of rs end) end
lawful_banded rs end e =
    let f = found rs end e in
    record {
      rising = climbs-rising _ _ (climbs rs end f.chain);
      some = one rs end;
      few = f.few;
      least = λ i l. omega (arith, f.least, climbs-least _ _ (climbs rs end f.chain) i l);
      most = λ i l. omega (arith, f.high, tops rs end f.chain i l);
      floor-fits = omega (arith, f.high, start-end rs end f.chain);
      ceiling-fits = omega (arith, f.high);
    }
