-- The banded rule in words.
use Rattle.std.proofs.lemmas.Grind.{common_steps}
use Rattle.std.proofs.Common.{◌≡◌, ℕ, zero, suc, ◌+◌, ◌-◌, ◌*◌, ◌/◌, ◌%◌, ◌<◌, ◌≤◌, true, ◌⊎◌, List, [], ◌∷◌, ◌++◌, length, get_or, drop, is_ok, Ok, sym, refl, ap, ◌∙◌, inl, inr, ⊎_elim, arith}
use native.Mathlib.Nat.{div-add-mod, mul-mod_right}
use Rattle.std.proofs.lemmas.Bool.{eqb-true, cases_lt, cases_eq, both_ways}
use Rattle.std.proofs.lemmas.List.{at_drop_more, at_drop_all, length-append, get_or-append_right}
use Rattle.ticks.specs.declared.row.Row.{Row}
use Rattle.ticks.specs.Ticks.{is_tick, progression}
use Rattle.ticks.specs.Questions.{Tick}
use Rattle.ticks.specs.Rows.{start_of, stretch, ladder, blank, start_at, step_at, rows_check, distances_check, load_check}
use Rattle.ticks.specs.RowWords.{Conditions, LoadConditions, OnRow, RowLadder}
use Rattle.ticks.specs.Evidence.{Chain, row-passes, distance-passes, found, one, lawful_banded}
use Rattle.ticks.proofs.Appends.{tick-append}
use Rattle.ticks.proofs.Spans.{row-tick, here-tick, there_tick, tick-before, tick-end}

-- an accepted load keeps every condition
rising-rows : (i low : ℕ) (rs : List Row) → rows_check i low rs ≡ Ok tt → (j : ℕ) → suc j < length rs → start_at rs j < start_at rs (suc j)
rising-rows i low [] e j l = absurd (omega arith)
rising-rows i low (r ∷ []) e j l = absurd (omega arith)
rising-rows i low (r ∷ s ∷ rs) e zero l = grind (arith, common_steps)
rising-rows i low (r ∷ s ∷ rs) e (suc j) l = rising-rows (i + 1) r.start (s ∷ rs) (row-passes i low r (s ∷ rs) e).2 j (omega arith)

steps-rows : (i low : ℕ) (rs : List Row) → rows_check i low rs ≡ Ok tt → (j : ℕ) → j < length rs → 1 ≤ step_at rs j
steps-rows i low [] e j l = absurd (omega arith)
steps-rows i low (r ∷ rs) e zero l = (row-passes i low r rs e).1
steps-rows i low (r ∷ rs) e (suc j) l = steps-rows (i + 1) r.start rs (row-passes i low r rs e).2 j (omega arith)

even-rows : (i : ℕ) (rs : List Row) (end : ℕ) → distances_check i rs end ≡ Ok tt → (j : ℕ) → suc j < length rs → (start_at rs (suc j) - start_at rs j) % step_at rs j ≡ 0
even-rows i [] end e j l = absurd (omega arith)
even-rows i (r ∷ []) end e j l = absurd (omega arith)
even-rows i (r ∷ s ∷ rs) end e zero l = omega (arith, (distance-passes i r (s ∷ rs) end e).0)
even-rows i (r ∷ s ∷ rs) end e (suc j) l = even-rows (i + 1) (s ∷ rs) end (distance-passes i r (s ∷ rs) end e).1 j (omega arith)

last_row : (i : ℕ) (rs : List Row) (end : ℕ) → distances_check i rs end ≡ Ok tt → (j : ℕ) → suc j ≡ length rs → (end - start_at rs j) % step_at rs j ≡ 0
last_row i [] end e j l = absurd (omega arith)
last_row i (r ∷ []) end e zero l = omega (arith, (distance-passes i r [] end e).0)
last_row i (r ∷ []) end e (suc j) l = absurd (omega arith)
last_row i (r ∷ s ∷ rs) end e zero l = absurd (omega arith)
last_row i (r ∷ s ∷ rs) end e (suc j) l = last_row (i + 1) (s ∷ rs) end (distance-passes i r (s ∷ rs) end e).1 j (omega arith)

first-start : (rs : List Row) (end : ℕ) → 1 ≤ length rs → start_of rs end ≡ start_at rs 0
first-start [] end h = absurd (omega arith)
first-start (r ∷ rs) end h = refl

kept : (rows : List Row) (end : ℕ) → is_ok (load_check rows end) ≡ true → Conditions rows end
kept rows end e =
    let f = found rows end e in
    record {
      some = f.some;
      fit = f.rows;
      first = omega (arith, f.least, first-start rows end f.some);
      rising = rising-rows 0 0 rows f.fine;
      steps = steps-rows 0 0 rows f.fine;
      ends = λ i l. let k : i ≡ length rows - 1 = omega arith in omega (arith, f.ends, ap (λ j. start_at rows j) k);
      high = f.high;
      even = even-rows 0 rows end f.even;
      last = last_row 0 rows end f.even;
      few = f.few;
    }

-- and where every condition holds a load is accepted
rows-fine : (i low : ℕ) (rs : List Row) → (1 ≤ length rs → low < start_at rs 0) → ((j : ℕ) → suc j < length rs → start_at rs j < start_at rs (suc j)) → ((j : ℕ) → j < length rs → 1 ≤ step_at rs j) → rows_check i low rs ≡ Ok tt
rows-fine i low [] f up st = refl
rows-fine i low (r ∷ rs) f up st =
    let e = rows-fine (i + 1) r.start rs (λ h. up 0 (omega arith)) (λ j l. up (suc j) (omega arith)) (λ j l. st (suc j) (omega arith)) in
    let l = f (omega arith) in
    let m = st 0 (omega arith) in
    grind (arith, common_steps)

distances_fine : (i : ℕ) (rs : List Row) (end : ℕ) → ((j : ℕ) → suc j < length rs → (start_at rs (suc j) - start_at rs j) % step_at rs j ≡ 0) → ((j : ℕ) → suc j ≡ length rs → (end - start_at rs j) % step_at rs j ≡ 0) → distances_check i rs end ≡ Ok tt
distances_fine i [] end ev la = refl
distances_fine i (r ∷ []) end ev la = let z = la 0 (omega arith) in grind (arith, common_steps)
distances_fine i (r ∷ s ∷ rs) end ev la =
    let e = distances_fine (i + 1) (s ∷ rs) end (λ j l. ev (suc j) (omega arith)) (λ j l. la (suc j) (omega arith)) in
    let z = ev 0 (omega arith) in
    grind (arith, common_steps)

pub accepted : (rows : List Row) (end : ℕ) → Conditions rows end → is_ok (load_check rows end) ≡ true
accepted rows end c =
    let lasts = c.ends (length rows - 1) (omega (arith, c.some)) in
    let d = rows-fine 0 0 rows (λ _. c.first) c.rising c.steps in
    let g = distances_fine 0 rows end c.even c.last in
    grind (arith, common_steps)

pub load-conditions : LoadConditions
load-conditions rows end = (kept rows end, accepted rows end)

-- the first and the last tick
head-stretch : (a s n : ℕ) (ts : List ℕ) → get_or ts 0 0 ≡ a + s * n → get_or (progression a s n ++ ts) 0 0 ≡ a
head-stretch a s zero ts e = e ∙ omega arith
head-stretch a s (suc n) ts e = refl

first-tick : (rs : List Row) (end : ℕ) → Chain rs end → get_or (ladder rs end) 0 0 ≡ start_of rs end
first-tick [] end c = refl
first-tick (r ∷ rs) end c = head-stretch r.start r.step _ (ladder rs end) (first-tick rs end c.3 ∙ sym c.2)

last-append : (xs ys : List ℕ) (x : ℕ) → 1 ≤ length ys → get_or ys (length ys - 1) 0 ≡ x → get_or (xs ++ ys) (length (xs ++ ys) - 1) 0 ≡ x
last-append xs ys x h e =
    let n = length-append xs ys in
    let i : length (xs ++ ys) - 1 - length xs ≡ length ys - 1 = omega (arith, n) in
    get_or-append_right xs ys (length xs) (length (xs ++ ys) - 1) 0 refl (omega (arith, n)) ∙ ap (λ k. get_or ys k 0) i ∙ e

last-tick : (rs : List Row) (end : ℕ) → get_or (ladder rs end) (length (ladder rs end) - 1) 0 ≡ end
last-tick [] end = refl
last-tick (r ∷ rs) end = last-append (stretch r (start_of rs end)) (ladder rs end) end (one rs end) (last-tick rs end)

-- p lies on a step of row i, under the next start or the end
abbrev RowHas : List Row → ℕ → ℕ → ℕ → Type 0
RowHas rows end p i = (i < length rows) × (start_at rows i ≤ p) × (p < start_of (drop (suc i) rows) end) × ((p - start_at rows i) % step_at rows i ≡ 0)

in_row : (rs : List Row) (end p i : ℕ) → Chain rs end → RowHas rs end p i → Tick (ladder rs end) p
in_row [] end p i c h = absurd (omega (arith, h.0))
in_row (r ∷ rs) end p zero c h =
    let hi : p < r.start + r.step * ((start_of rs end - r.start) / r.step) = omega (arith, c.2, h.2) in
    let e = tick-append (stretch r (start_of rs end)) (ladder rs end) p in
    let t = row-tick r.start r.step _ p (ladder rs end) c.0 h.1 hi in
    grind (arith, common_steps)
in_row (r ∷ rs) end p (suc i) c h =
    let e = tick-append (stretch r (start_of rs end)) (ladder rs end) p in
    let t = in_row rs end p i c.3 (omega (arith, h.0), h.1, h.2, h.3) in
    grind (arith, common_steps)

next_row : (r : Row) (rs : List Row) (end p : ℕ) → (p ≡ end) ⊎ ((i : ℕ) × RowHas rs end p i) → (p ≡ end) ⊎ ((i : ℕ) × RowHas (r ∷ rs) end p i)
next_row r rs end p (inl e) = inl e
next_row r rs end p (inr (i, h)) = inr (suc i, (omega (arith, h.0), h.1, h.2, h.3))

only-rows : (rs : List Row) (end p : ℕ) → Chain rs end → Tick (ladder rs end) p → (p ≡ end) ⊎ ((i : ℕ) × RowHas rs end p i)
only-rows [] end p c e = inl (grind (arith, common_steps))
only-rows (r ∷ rs) end p c e =
    ⊎_elim
    (λ low. absurd (both_ways _ (tick-before (r ∷ rs) end p c low) e))
    (λ lo. ⊎_elim
    (λ hi.
    let hi' : p < r.start + r.step * ((start_of rs end - r.start) / r.step) = omega (arith, c.2, hi) in
    let t = here-tick r.start r.step _ p (ladder rs end) c.0 lo hi' (tick-before rs end p c.3 hi) in
    inr (0, (omega arith, lo, hi, eqb-true ((p - r.start) % r.step) 0 (sym t ∙ e))))
    (λ hi.
    let hi' : r.start + r.step * ((start_of rs end - r.start) / r.step) ≤ p = omega (arith, c.2, hi) in
    let t = there_tick r.start r.step _ p (ladder rs end) c.0 hi' in
    next_row r rs end p (only-rows rs end p c.3 (sym t ∙ e)))
    (cases_lt p (start_of rs end)))
    (cases_lt p r.start)

-- where the rows after row i start
next_start : (rows : List Row) (end i : ℕ) → suc i < length rows → start_of (drop (suc i) rows) end ≡ start_at rows (suc i)
next_start rows end i l = at_drop_more (λ xs. start_of xs end) rows (suc i) blank l

next-end : (rows : List Row) (end i : ℕ) → suc i ≡ length rows → start_of (drop (suc i) rows) end ≡ end
next-end rows end i l = at_drop_all (λ xs. start_of xs end) rows (suc i) (omega arith)

-- a whole number of steps, by its quotient
by-quotient : (a s p : ℕ) → a ≤ p → (p - a) % s ≡ 0 → (k : ℕ) × (p ≡ a + s * k)
by-quotient a s p l e = ((p - a) / s, omega (arith, div-add-mod (p - a) s))

no_rest : (a s p k : ℕ) → p ≡ a + s * k → (p - a) % s ≡ 0
no_rest a s p k e =
    let d : p - a ≡ s * k = omega arith in
    ap (λ x. x % s) d ∙ mul-mod_right s k

module _ (rows : List Row) (end : ℕ) (ok : Conditions rows end) (chain : Chain rows end) where
  at-end : (p : ℕ) → p ≡ end → (i : ℕ) × OnRow rows end p i
  at-end p e =
      let some = ok.some in
      let i : ℕ = length rows - 1 in
      let l : suc (length rows - 1) ≡ length rows = omega arith in
      let low = ok.ends (length rows - 1) l in
      let q = by-quotient (start_at rows (length rows - 1)) (step_at rows (length rows - 1)) end low (ok.last (length rows - 1) l) in (
        length rows - 1,
        record {
          row = omega arith;
          step = (q.0, e ∙ q.1);
          next = λ m. absurd (omega arith);
          last = λ m. omega arith;
        },
      )

  in_one : (p i : ℕ) → RowHas rows end p i → OnRow rows end p i
  in_one p i h = record {
    row = h.0;
    step = by-quotient (start_at rows i) (step_at rows i) p h.1 h.3;
    next = λ l. omega (arith, h.2, next_start rows end i l);
    last = λ l. omega (arith, h.2, next-end rows end i l);
  }

  only : (p : ℕ) → Tick (ladder rows end) p → (i : ℕ) × OnRow rows end p i
  only p t = ⊎_elim (at-end p) (λ h. (h.0, in_one p h.0 h.1)) (only-rows rows end p chain t)

  each : (p i : ℕ) → OnRow rows end p i → Tick (ladder rows end) p
  each p i h =
      let row = h.row in
      let low : start_at rows i ≤ p = omega (arith, h.step.1) in
      let even = no_rest (start_at rows i) (step_at rows i) p h.step.0 h.step.1 in
      ⊎_elim
      (λ more. in_row rows end p i chain (h.row, low, omega (arith, h.next more, next_start rows end i more), even))
      (λ none.
      let l : suc i ≡ length rows = omega arith in
      let most = h.last l in
      ⊎_elim
      (λ same. ap (λ x. is_tick (ladder rows end) x) same ∙ tick-end rows end)
      (λ other. in_row rows end p i chain (h.row, low, omega (arith, next-end rows end i l), even))
      (cases_eq p end))
      (cases_lt (suc i) (length rows))

pub row-ladder : RowLadder
row-ladder rows end ok =
    let fine = accepted rows end ok in
    let chain = (found rows end fine).chain in
    record {
      rising = (lawful_banded rows end fine).rising;
      only = only rows end ok chain;
      each = each rows end ok chain;
      floor = first-tick rows end chain ∙ first-start rows end ok.some;
      ceiling = last-tick rows end;
    }
