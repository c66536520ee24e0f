-- How refusals are listed: by their numbers, and where a price is refused by the letter of the cause as well.
use Rattle.std.specs.Prelude.{ℕ, Some, None, Ok, Err, Option, Result}
use Rattle.ticks.specs.Causes.{letter_of}
use Rattle.calls.specs.declared.refusal.PriceFault.{PriceFault}
use Rattle.calls.specs.declared.refusal.PriceFault.TheVariants.{NotAdmitted, MarketPriced}
use Rattle.calls.specs.declared.refusal.Refusal.{Refusal}
use Rattle.calls.specs.declared.refusal.Refusal.TheVariants.{Shut, AlreadyCalling, Reference, UnknownNumber, Quantity, Price, RanksSpent, SideFull}

-- a refusal's number, and the letter of its cause if it has one
pub record Listed : Type 0 where
  pub number : ℕ
  pub letter : Option ℕ

-- a refusal by number n, and one by number n and a letter
abbrev pub by : ℕ → Listed
by n = record { number = n; letter = None }

abbrev pub by_letter : ℕ → ℕ → Listed
by_letter n letter = record { number = n; letter = Some letter }

-- F, C or N of the tick rule's cause, or M
abbrev pub price_letter : PriceFault → ℕ
price_letter (NotAdmitted c) = letter_of c
price_letter MarketPriced = 77

abbrev pub listed : Refusal → Listed
listed Shut = by 5
listed AlreadyCalling = by 6
listed (Reference c) = by_letter 7 (letter_of c)
listed UnknownNumber = by 8
listed Quantity = by 9
listed (Price f) = by_letter 10 (price_letter f)
listed RanksSpent = by 11
listed SideFull = by 12

-- how a call was refused, if it was
abbrev pub refusal_in : {A : Type 0} → Result A Refusal → Option Listed
refusal_in (Ok a) = None
refusal_in (Err e) = Some (listed e)

-- what a call says: its answer, or how its refusal is listed
abbrev pub told : {A : Type 0} → Result A Refusal → Result A Listed
told (Ok a) = Ok a
told (Err e) = Err (listed e)
