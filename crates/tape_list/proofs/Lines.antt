-- One line more in a listing.
use Rattle.std.proofs.Common.{◌≡◌, ℕ, ◌+◌, List, [], ◌∷◌, ◌++◌, length, drop, Ok, ◌∙◌, append_assoc, append-nil, arith}
use Rattle.std.proofs.lemmas.List.{length_push}
use Rattle.tape.specs.Format.{Record, width, decode}
use Rattle.tape.specs.Sequence.{Stand}
use Rattle.tape.proofs.Sequence.{stand-push}
use Rattle.tape_list.specs.Listing.{line, lines}

lines-push : (tape : List ℕ) (k i : ℕ) (cs : List Record) (j n : ℕ) (c : Record) → Stand tape i cs j → n ≡ k + length cs → lines k i (cs ++ c ∷ []) ≡ lines k i cs ++ line n j c
lines-push tape k i [] j n c e h = append-nil (line k i c) ∙ (let m : k ≡ n = omega arith in λ t. line (m t) (e t) c)
lines-push tape k i (x ∷ cs) j n c s h = let more = lines-push tape (k + 1) (i + width x) cs j n c s.1 (omega arith) in grind (arith, append_assoc)

-- the n records up to place j stand on the tape, and the text is the front with their lines
abbrev pub Told : List ℕ → List ℕ → List ℕ → ℕ → ℕ → Type 0
Told tape front text n j = (cs : List Record) × Stand tape 0 cs j × (n ≡ length cs) × (text ≡ front ++ lines 1 0 cs)

-- the record at place i too, once its line is added
pub told-more : (tape front text more : List ℕ) (n i j : ℕ) (c : Record) → Told tape front text n i → decode (drop i tape) ≡ Ok c → j ≡ i + width c → more ≡ text ++ line (n + 1) i c → Told tape front more (n + 1) j
told-more tape front text more n i j c (cs, stand, counted, before) reads to after = (
  cs ++ c ∷ [],
  rw to (stand-push tape 0 cs i c stand reads),
  omega (arith, length_push cs c),
  (let more = lines-push tape 1 0 cs i (n + 1) c stand (omega arith) in grind (arith, append_assoc)),
)
