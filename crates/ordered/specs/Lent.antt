-- A list over lent rows.
use Rattle.std.specs.Prelude.{◌≡◌, ℕ, List, take, drop, length}
use Rattle.ordered.specs.declared.lent.LentList.{LentList}

-- its entries
abbrev pub entries : {E : Type 0} → LentList E → List E
entries l = take l.len l.rows.now

-- the rows without an entry
abbrev pub spare : {E : Type 0} → LentList E → List E
spare l = drop l.len l.rows.now

-- how many rows there are
abbrev pub size : {E : Type 0} → LentList E → ℕ
size l = length l.rows.now

-- as many rows as before, and every row that is spare afterwards is as it was before
pub record RowsKept {E : Type 0} (before after : LentList E) : Type 0 where
  pub size : size after ≡ size before
  pub spare : spare after ≡ drop after.len before.rows.now
