use Rattle.std.proofs.Common.{◌≡◌, Some, rules}
use Rattle.sheets.specs.Sides.{find_in}
use Rattle.book.proofs.Stands.{amend-fits}
use Rattle.book.proofs.book.Book.amend.Goals as goal

pub returns-in_err-put : goal.returns-in_err-put
returns-in_err-put g c =
    let m = g.S.OrderSheet in
    let s = c.args.self.now.sheet in
    let found : Some c.in_ok-order.order ≡ find_in c.args.number (m.meaning s) = search rules in
    absurd (amend-fits (m.room s) c.args.number (m.meaning s) c.in_ok-order.order c.args.price c.if-loses_place.rank.0 c.args.quantity (m.laws s) found c.in_err-put.ensures.test)
