-- The call that a record of an order tape makes.
use Rattle.std.specs.Prelude.{ℕ, List}
use Rattle.std.specs.Borrow.{Bor}
use Rattle.market.specs.declared.order.Terms.{Terms}
use Rattle.tape.specs.Format.{Record, start, enter, withdraw, amend}
use Rattle.calls.specs.declared.call.Call.{Call}
use Rattle.calls.specs.declared.call.Call.TheVariants.{Start, Enter, Withdraw, Amend}

-- terms whose account is held, from those that borrow it
abbrev pub held : Terms (Bor (List ℕ)) → Terms (List ℕ)
held t = record { side = t.side; kind = t.kind; price = t.price; quantity = t.quantity; account = t.account.now }

abbrev pub call_of : Record → Call
call_of (start prior last) = Start prior last
call_of (enter side kind price quantity account) = Enter (record { side = side; kind = kind; price = price; quantity = quantity; account = account })
call_of (withdraw number) = Withdraw number
call_of (amend number price quantity) = Amend number price quantity
