-- What is left of the spare rows.
use Rattle.std.proofs.Common.{◌≡◌, ℕ, zero, suc, ◌+◌, ◌-◌, ◌≤◌, false, List, [], ◌∷◌, ◌++◌, length, drop, is_some, Some, None, MatchBool, Option, sym, refl, ap, ◌∙◌, arith}
use Rattle.std.proofs.lemmas.List.{drop-drop}
use Rattle.std.proofs.lemmas.Bool.{both_ways}
use Rattle.market.specs.declared.order.Order.{Order}
use Rattle.ordered.specs.declared.lent.LentList.{LentList}
use Rattle.ordered.specs.Lent.{RowsKept}
use Rattle.sheets.specs.Rows.{Row, marked, SpareRowsKept}
use Rattle.sheets.specs.Held.{rows_of}

-- the rows from n on are as they were, where the first n hold orders afterwards
pub rows-kept : (m n : ℕ) (xs ys : List Order) → length ys ≡ length xs → drop n ys ≡ drop n xs → SpareRowsKept (marked m xs) (marked n ys)
rows-kept zero zero [] [] l e = tt
rows-kept zero (suc n) [] [] l e = tt
rows-kept (suc m) zero [] [] l e = tt
rows-kept (suc m) (suc n) [] [] l e = tt
rows-kept m n [] (y ∷ ys) l e = absurd (omega arith)
rows-kept m n (x ∷ xs) [] l e = absurd (omega arith)
rows-kept zero zero (x ∷ xs) (y ∷ ys) l e = let h : y ≡ x = cc in let t : ys ≡ xs = cc in ((λ _. h), rows-kept zero zero xs ys (omega arith) t)
rows-kept (suc m) zero (x ∷ xs) (y ∷ ys) l e = let h : y ≡ x = cc in let t : ys ≡ xs = cc in ((λ _. h), rows-kept m zero xs ys (omega arith) t)
rows-kept zero (suc n) (x ∷ xs) (y ∷ ys) l e = ((λ h. absurd (both_ways false refl h)), rows-kept zero n xs ys (omega arith) e)
rows-kept (suc m) (suc n) (x ∷ xs) (y ∷ ys) l e = ((λ h. absurd (both_ways false refl h)), rows-kept m n xs ys (omega arith) e)

-- the same of a lent list
pub kept_rows : (l m : LentList Order) → RowsKept l m → SpareRowsKept (rows_of l) (rows_of m)
kept_rows l m k = rows-kept l.len m.len l.rows.now m.rows.now k.size k.spare

-- two lots of rows
pub lots_kept : (es bs cs ds : List Row) → SpareRowsKept es bs → SpareRowsKept cs ds → SpareRowsKept (es ++ cs) (bs ++ ds)
lots_kept [] [] cs ds p q = q
lots_kept [] (b ∷ bs) cs ds p q = absurd p
lots_kept (a ∷ es) [] cs ds p q = absurd p
lots_kept (a ∷ es) (b ∷ bs) cs ds p q = (p.0, lots_kept es bs cs ds p.1 q)

-- what is as it was from m on is so from any later row on
pub drop-further : {X : Type 0} (m n : ℕ) (xs ys : List X) → m ≤ n → drop m xs ≡ drop m ys → drop n xs ≡ drop n ys
drop-further m n xs ys le e =
    let k : n ≡ m + (n - m) = omega arith in
    ap (λ j. drop j xs) k ∙ sym (drop-drop (n - m) m xs) ∙ ap (drop (n - m)) e ∙ drop-drop (n - m) m ys ∙ ap (λ j. drop j ys) (sym k)

-- ---- by whether an order was found

pub when_some : (P Q : Type 0) (o : Option Order) (x : Order) → Some x ≡ o → P → MatchBool (is_some o) P Q
when_some P Q None x e p = absurd (let z : ◌≡◌ {A = ℕ} 0 1 = cc in omega arith)
when_some P Q (Some y) x e p = p

pub when_none : (P Q : Type 0) (o : Option Order) → None ≡ o → Q → MatchBool (is_some o) P Q
when_none P Q None e q = q
when_none P Q (Some y) e q = absurd (let z : ◌≡◌ {A = ℕ} 0 1 = cc in omega arith)

pub when_either : (P Q : Type 0) (o : Option Order) → P → (o ≡ None → Q) → MatchBool (is_some o) P Q
when_either P Q None p q = q refl
when_either P Q (Some y) p q = p
