-- One record more on a tape.
use Rattle.std.proofs.Common.{◌≡◌, ℕ, ◌+◌, ◌≤◌, List, [], ◌∷◌, ◌++◌, drop, Ok, ap, ◌∙◌, arith}
use Rattle.tape.specs.Format.{Record, decode, width}
use Rattle.tape.specs.Sequence.{Stand}

pub stand-push : (tape : List ℕ) (i : ℕ) (cs : List Record) (j : ℕ) (c : Record) → Stand tape i cs j → decode (drop j tape) ≡ Ok c → Stand tape i (cs ++ c ∷ []) (j + width c)
stand-push tape i [] j c e d = (ap (λ n. decode (drop n tape)) e ∙ d, ap (λ n. n + width c) e)
stand-push tape i (x ∷ cs) j c r d = (r.0, stand-push tape (i + width x) cs j c r.1 d)

-- a record has a byte
pub width_some : (c : Record) → 1 ≤ width c
width_some c = grind arith
