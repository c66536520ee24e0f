-- The ticks of a list, one by one.
use Rattle.std.proofs.Common.{◌≡◌, ℕ, true, Bool, List, [], ◌∷◌, ◌==◌, ◌⊎◌, filter, refl, inl, inr, ⊎_elim, arith}
use Rattle.std.proofs.lemmas.Bool.{cond_both, or_cases, or_left, or_right, eqb-true, eq-eqb}
use Rattle.ticks.specs.Ticks.{is_tick}
use Rattle.ticks.specs.Questions.{Tick}

pub tick-here : (t : ℕ) (ts : List ℕ) → Tick (t ∷ ts) t
tick-here t ts = or_left (t == t) (is_tick ts t) (eq-eqb t t refl)

pub tick-there : (t : ℕ) (ts : List ℕ) (u : ℕ) → Tick ts u → Tick (t ∷ ts) u
tick-there t ts u h = or_right (t == u) (is_tick ts u) h

pub tick-cases : (t : ℕ) (ts : List ℕ) (u : ℕ) → Tick (t ∷ ts) u → (t ≡ u) ⊎ Tick ts u
tick-cases t ts u h = ⊎_elim (λ e. inl (eqb-true t u e)) (λ k. inr k) (or_cases (t == u) (is_tick ts u) h)

pub tick-from : (t : ℕ) (ts : List ℕ) (u : ℕ) → (t ≡ u) ⊎ Tick ts u → Tick (t ∷ ts) u
tick-from t ts u = ⊎_elim (λ e. or_left (t == u) (is_tick ts u) (eq-eqb t u e)) (λ k. tick-there t ts u k)

pub tick-none : (u : ℕ) → Tick [] u → ⊥
tick-none u h = let z : ◌≡◌ {A = ℕ} 0 1 = cc in absurd (omega arith)

-- a tick that passes a test is one of those that do
pub tick-kept : (test : ℕ → Bool) (ts : List ℕ) (u : ℕ) → test u ≡ true → Tick ts u → Tick (filter test ts) u
tick-kept test [] u h k = absurd (tick-none u k)
tick-kept test (t ∷ ts) u h k =
    ⊎_elim
    (λ e. let passes : test t ≡ true = rw e h in rw passes (tick-from t (filter test ts) u (inl e)))
    (λ m.
    let rest = tick-kept test ts u h m in
    cond_both (test t) (t ∷ filter test ts) (filter test ts) (λ us. Tick us u) (λ _. tick-there t (filter test ts) u rest) (λ _. rest))
    (tick-cases t ts u k)

-- and one of those is a tick
pub kept-tick : (test : ℕ → Bool) (ts : List ℕ) (u : ℕ) → Tick (filter test ts) u → Tick ts u
kept-tick test [] u h = h
kept-tick test (t ∷ ts) u h =
    cond_both (test t) (t ∷ filter test ts) (filter test ts) (λ us. Tick us u → Tick (t ∷ ts) u)
    (λ _ k. ⊎_elim (λ e. tick-from t ts u (inl e)) (λ m. tick-there t ts u (kept-tick test ts u m)) (tick-cases t (filter test ts) u k))
    (λ _ k. tick-there t ts u (kept-tick test ts u k))
    h
