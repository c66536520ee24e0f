-- A record that was read has the eight bytes of its account.
use Rattle.std.proofs.Common.{◌≡◌, ℕ, ◌+◌, ◌≤◌, true, List, ◌++◌, length, drop, refl, ap, ◌∙◌, arith}
use Rattle.std.proofs.lemmas.List.{length-append, length-drop}
use Rattle.std.proofs.lemmas.Bool.{eq-eqb}
use Rattle.tape.specs.Format.{Record, start, enter, withdraw, amend, encode, width, word}
use Rattle.tape.specs.Views.{has_account}

pub account-read : (tape : List ℕ) (i j : ℕ) (c : Record) → drop i tape ≡ encode c ++ drop j tape → j ≡ i + width c → j ≤ length tape → has_account c ≡ true
account-read tape i j (start _ _) e at fits = refl
account-read tape i j (withdraw _) e at fits = refl
account-read tape i j (amend _ _ _) e at fits = refl
account-read tape i j (enter side kind price quantity account) e at fits =
    let a = length-drop i tape in
    let b = length-drop j tape in
    let whole = ap length e ∙ length-append (encode (enter side kind price quantity account)) (drop j tape) in
    let parts = length-append (word price) (word quantity ++ account) in
    let last = length-append (word quantity) account in
    eq-eqb (length account) 8 (omega arith)
