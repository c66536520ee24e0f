-- What the two sheets hold, and their rows.
use Rattle.std.specs.Prelude.{◌≤◌, List, ◌++◌}
use Rattle.ordered.specs.declared.lent.LentList.{LentList}
use Rattle.ordered.specs.Lent.{entries, RowsKept}
use Rattle.ordered.specs.Meaning.{held, lent}
use Rattle.market.specs.declared.order.Order.{Order}
use Rattle.sheets.specs.declared.priority.PrioritySheet.{PrioritySheet}
use Rattle.sheets.specs.declared.arrival.ArrivalSheet.{ArrivalSheet}
use Rattle.sheets.specs.Sides.{Sides, sides_of}
use Rattle.sheets.specs.Rows.{Row, marked, arranged}

-- the rows of a lent list: those that hold its entries, and the spare ones
abbrev pub rows_of : LentList Order → List Row
rows_of l = marked l.len l.rows.now

-- a priority sheet holds its sides in its two lists
abbrev pub held_by_priority : PrioritySheet → Sides
held_by_priority s = sides_of (held s.buys) (held s.offers)

-- the rows of a priority sheet: those of the buys, then those of the offers
abbrev pub rows_by_priority : PrioritySheet → List Row
rows_by_priority s = rows_of (lent s.buys) ++ rows_of (lent s.offers)

-- in both lists of a priority sheet, as many rows as before, and every row that is spare afterwards is as it was before
abbrev pub ListsKept : PrioritySheet → PrioritySheet → Type 0
ListsKept before after = RowsKept (lent before.buys) (lent after.buys) × RowsKept (lent before.offers) (lent after.offers)

-- neither list of a priority sheet is shorter afterwards
abbrev pub NoShorter : PrioritySheet → PrioritySheet → Type 0
NoShorter before after = ((lent before.buys).len ≤ (lent after.buys).len) × ((lent before.offers).len ≤ (lent after.offers).len)

-- the orders of an arrival sheet, as their rows lie
abbrev pub arrivals : ArrivalSheet → List Order
arrivals s = entries s.orders

-- an arrival sheet holds the sides that its orders make
abbrev pub held_by_arrival : ArrivalSheet → Sides
held_by_arrival s = arranged (arrivals s)

-- the rows of an arrival sheet
abbrev pub rows_by_arrival : ArrivalSheet → List Row
rows_by_arrival s = rows_of s.orders
