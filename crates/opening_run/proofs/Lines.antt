-- One line more in a listing.
use Rattle.std.proofs.Common.{◌≡◌, ℕ, ◌+◌, List, [], ◌∷◌, ◌++◌, length, map, Result, ap, ◌∙◌, append_assoc, append-nil, arith}
use Rattle.ticks.specs.declared.rule.TickRule as TickRule
use Rattle.sheets.specs.declared.sheet.OrderSheet as OrderSheet
use Rattle.calls.specs.declared.call.Answer.{Answer}
use Rattle.calls.specs.Listed.{Listed}
use Rattle.calls.specs.Machine.{replies}
use Rattle.book.specs.declared.book.Book.{Book}
use Rattle.book.specs.Books.{setting_of, state_of}
use Rattle.opening.specs.declared.runs.Counts.{Counts}
use Rattle.opening.specs.Calls.{call_of}
use Rattle.opening.proofs.Going.{Going}
use Rattle.opening_run.specs.Listing.{line, lines}

pub lines-push : (k n : ℕ) (rs : List (Result Answer Listed)) (r : Result Answer Listed) → n ≡ k + length rs → lines k (rs ++ r ∷ []) ≡ lines k rs ++ line n r
lines-push k n [] r h = append-nil (line k r) ∙ (let m : k ≡ n = omega arith in λ t. line (m t) r)
lines-push k n (x ∷ rs) r h = let more = lines-push (k + 1) n rs r (omega arith) in grind (arith, append_assoc)

-- the lines of the replies to what stands on the tape
pub lines-told : {R S : Type 0} {rules : TickRule.Ghosts R} {sheets : OrderSheet.Ghosts S} {tape : List ℕ} {b b' : Book R S} {rs : List (Result Answer Listed)} {i : ℕ} {n : Counts}
    (w : Going rules sheets tape b rs i b' n) (front : List ℕ) → {text : List ℕ} → text ≡ front ++ lines 1 rs
    → text ≡ front ++ lines 1 (replies (setting_of rules sheets b) (state_of sheets b) (map call_of w.records))
lines-told w front e = e ∙ ap (λ rs. front ++ lines 1 rs) w.replied
