use Rattle.std.proofs.Common.{Some, Ok, rules}
use Rattle.tape.specs.Views.{view, Steps}
use Rattle.opening.proofs.Accounts.{account-read}
use Rattle.opening.proofs.commands.advance.Goals as goal

pub call_of-requires : goal.call_of-requires
call_of-requires g c =
    let r = c.args.reader.now in
    let steps : Steps r.tape r.place r.began (Ok (Some c.in-Some.command)) c.next.new.self.place c.next.new.self.began = search rules in
    let read = steps.1 in
    account-read r.tape.now r.place c.next.new.self.place (view c.in-Some.command) read.2 read.3 read.4
