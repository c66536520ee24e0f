-- The two lists of a priority sheet, by their side.
use Rattle.std.proofs.Common.{refl, ◌≡◌, ◌<◌, ◌≤◌, ◌++◌, Bool, length, ap, ◌∙◌, ap₂, subst, arith}
use Rattle.std.proofs.lemmas.List.{length-take-le}
use Rattle.ordered.specs.declared.lent.LentList.{LentList}
use Rattle.ordered.specs.Lent.{entries, RowsKept}
use Rattle.ordered.specs.Meaning.{lent}
use Rattle.ordered.specs.Sorting.{insert_by}
use Rattle.ordered.proofs.Sorts.{length-insert}
use Rattle.market.specs.declared.order.Order.{Order}
use Rattle.market.specs.declared.order.Side.{Side}
use Rattle.sheets.specs.declared.priority.PrioritySheet.{PrioritySheet}
use Rattle.sheets.specs.Sides.{of_side}
use Rattle.sheets.specs.Rows.{SpareRowsKept}
use Rattle.sheets.specs.Held.{rows_of, held_by_priority, rows_by_priority, ListsKept, NoShorter}
use Rattle.sheets.proofs.Spares.{kept_rows, lots_kept, drop-further}

pub kept_same : (l : LentList Order) → RowsKept l l
kept_same l = record { size = refl; spare = refl }

-- what both lists keep, the sheet's rows keep
pub lists-kept : (b a : LentList Order) (s : PrioritySheet) → RowsKept (lent s.buys) b → RowsKept (lent s.offers) a → SpareRowsKept (rows_by_priority s) (rows_of b ++ rows_of a)
lists-kept b a s h k = lots_kept (rows_of (lent s.buys)) (rows_of b) (rows_of (lent s.offers)) (rows_of a) (kept_rows (lent s.buys) b h) (kept_rows (lent s.offers) a k)

-- two changes, the second of which leaves no list shorter
kept-further : (a b c : LentList Order) → RowsKept a b → RowsKept b c → b.len ≤ c.len → RowsKept a c
kept-further a b c p q le = record { size = q.size ∙ p.size; spare = q.spare ∙ drop-further b.len c.len b.rows.now a.rows.now le p.spare }

pub lists-further : (a b c : PrioritySheet) → ListsKept a b → ListsKept b c → NoShorter b c → ListsKept a c
lists-further a b c p q le = (kept-further (lent a.buys) (lent b.buys) (lent c.buys) p.0 q.0 le.0, kept-further (lent a.offers) (lent b.offers) (lent c.offers) p.1 q.1 le.1)

-- how many entries a list has
pub length-entries : (l : LentList Order) → length (entries l) ≡ l.len
length-entries l = length-take-le l.len l.rows.now l.fits

-- lists that are as they were have their rows as they were
pub lists-rows : (b a : LentList Order) (s : PrioritySheet) → b ≡ lent s.buys → a ≡ lent s.offers → rows_of b ++ rows_of a ≡ rows_by_priority s
lists-rows b a s p q = ap₂ (λ (l m : LentList Order). rows_of l ++ rows_of m) p q

-- the order's side is v, and has a place
pub place-at : (v : Side) (o : Order) (s : PrioritySheet) → o.side ≡ v → length (of_side o.side (held_by_priority s)) < s.capacity → length (of_side v (held_by_priority s)) < s.capacity
place-at v o s e lt = subst (λ (w : Side). length (of_side w (held_by_priority s)) < s.capacity) e lt

-- where its list took an order in, the list of a side is longer
pub longer : (ahead : Order → Order → Bool) (o : Order) (l m : LentList Order) → entries m ≡ insert_by ahead o (entries l) → l.len ≤ m.len
longer ahead o l m e = omega (arith, length-entries l, length-entries m, ap length e, length-insert ahead o (entries l))
