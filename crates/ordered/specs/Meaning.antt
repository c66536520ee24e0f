-- What an ordered list holds.
use Rattle.std.specs.Prelude.{List}
use Rattle.ordered.specs.declared.ranking.Ranking as Ranking
use Rattle.ordered.specs.declared.lent.LentList.{LentList}
use Rattle.ordered.specs.declared.list.OrderedList.{OrderedList}
use Rattle.ordered.specs.Lent.{entries}

-- its rows
abbrev pub lent : {E R K : Type 0} {ranking : Ranking.Ghosts R E K} → OrderedList E R K ranking → LentList E
lent l = l.list

-- its entries, in order
abbrev pub held : {E R K : Type 0} {ranking : Ranking.Ghosts R E K} → OrderedList E R K ranking → List E
held l = entries l.list
