-- The rules of the book: which calls are refused, what the others answer, and how the book goes on.
use Rattle.std.specs.Prelude.{◌≡◌, ℕ, ◌+◌, Bool, cond, not, ◌||◌, List, [], ◌∷◌, IfOk, Some, None, Ok, Err, Option, Result, ◌==◌, nat_le, nat_lt}
use Rattle.market.specs.declared.order.Kind.{Kind}
use Rattle.market.specs.declared.order.Kind.TheVariants.{Limit, Market}
use Rattle.market.specs.declared.order.Order.{Order}
use Rattle.market.specs.declared.order.Terms.{Terms}
use Rattle.ticks.specs.declared.rule.Cause.{Cause}
use Rattle.ticks.specs.Causes.{letter_of}
use Rattle.ticks.specs.Ticks.{admitted}
use Rattle.sheets.specs.Sides.{find_in, take_from, put_in, full}
use Rattle.calls.specs.declared.call.Phase.{Phase}
use Rattle.calls.specs.declared.call.Phase.TheVariants.{Shut, Calling}
use Rattle.calls.specs.declared.call.Call.{Call}
use Rattle.calls.specs.declared.call.Call.TheVariants.{Start, Enter, Withdraw, Amend, Show}
use Rattle.calls.specs.declared.call.Answer.{Answer}
use Rattle.calls.specs.declared.call.Answer.TheVariants.{Started, Entered, Withdrawn, Amended, Shown}
use Rattle.calls.specs.declared.refusal.Refusal.{Refusal}
use Rattle.calls.specs.Listed.{Listed, by, by_letter, refusal_in}
use Rattle.calls.specs.State.{Rule, Setting, State, with_orders}

-- ---- orders

-- a new order takes the next rank for its place in the queue and for its number
abbrev pub new_order : ℕ → Terms (List ℕ) → Order
new_order next t =
    record { number = next; side = t.side; kind = t.kind; price = t.price; rank = next; quantity = t.quantity; account = t.account }

-- an order with another price, rank and quantity
abbrev pub with_terms : Order → ℕ → ℕ → ℕ → Order
with_terms o price rank q =
    record { number = o.number; side = o.side; kind = o.kind; price = price; rank = rank; quantity = q; account = o.account }

-- a new price or a raise loses the order's place: it needs the next rank
abbrev pub loses_place : Order → ℕ → ℕ → Bool
loses_place o price q = not (price == o.price) || nat_lt o.quantity q

-- an order amended after `used` ranks
abbrev pub amended : ℕ → Order → ℕ → ℕ → Order
amended used o price q = with_terms o price (cond (loses_place o price q) (used + 1) o.rank) q

-- ---- what is refused

-- the first of two that fits
abbrev pub first_fit : Option Listed → Option Listed → Option Listed
first_fit (Some r) next = Some r
first_fit None next = next

-- refused by number n where the test passes
abbrev pub refused_if : Bool → ℕ → Option Listed
refused_if test n = cond test (Some (by n)) None

-- refused by number n and the letter of the cause
abbrev pub refused_for : ℕ → Result (Unit {0}) Cause → Option Listed
refused_for n (Ok _) = None
refused_for n (Err c) = Some (by_letter n (letter_of c))

-- refused by number n where the rule does not admit price p
abbrev pub unless_admitted : ℕ → Rule → ℕ → Option Listed
unless_admitted n rule p = refused_for n (admitted rule.ticks rule.floor rule.ceiling p)

-- start: the prior price, and after it a last sale other than 0
abbrev pub start_due : Rule → ℕ → ℕ → Option Listed
start_due rule prior last = first_fit (unless_admitted 7 rule prior) (cond (last == 0) None (unless_admitted 7 rule last))

-- a quantity of 0 or over 1,000,000
abbrev pub quantity_due : ℕ → Option Listed
quantity_due q = refused_if (q == 0 || nat_lt 1000000 q) 9

-- a limit price that is not admitted; a market price other than 0, by M
abbrev pub price_due : Rule → Kind → ℕ → Option Listed
price_due rule Limit p = unless_admitted 10 rule p
price_due rule Market p = cond (p == 0) None (Some (by_letter 10 77))

-- a rank is needed and 1,000,000 are used
abbrev pub rank_due : ℕ → Option Listed
rank_due used = refused_if (nat_le 1000000 used) 11

-- enter: quantity, price, rank, and room for the new order on its side
abbrev pub enter_due : Setting → State → Terms (List ℕ) → Option Listed
enter_due g s t =
    first_fit (quantity_due t.quantity)
    (first_fit (price_due g.rule t.kind t.price)
    (first_fit (rank_due s.used)
    (refused_if (full g.room (new_order (s.used + 1) t) s.sides) 12)))

-- withdraw: a number that does not stand
abbrev pub withdraw_due : Option Order → Option Listed
withdraw_due None = Some (by 8)
withdraw_due (Some o) = None

-- amend: a number that does not stand; else quantity, price, and a rank where the order loses its place
abbrev pub amend_due : Rule → ℕ → Option Order → ℕ → ℕ → Option Listed
amend_due rule used None price q = Some (by 8)
amend_due rule used (Some o) price q =
    first_fit (quantity_due q)
    (first_fit (price_due rule o.kind price)
    (cond (loses_place o price q) (rank_due used) None))

-- a shut book takes start alone
abbrev pub shut_due : Rule → Call → Option Listed
shut_due rule (Start prior last) = start_due rule prior last
shut_due rule (Enter t) = Some (by 5)
shut_due rule (Withdraw n) = Some (by 5)
shut_due rule (Amend n price q) = Some (by 5)
shut_due rule (Show n) = Some (by 5)

-- a calling book takes all else
abbrev pub calling_due : Setting → State → Call → Option Listed
calling_due g s (Start prior last) = Some (by 6)
calling_due g s (Enter t) = enter_due g s t
calling_due g s (Withdraw n) = withdraw_due (find_in n s.sides)
calling_due g s (Amend n price q) = amend_due g.rule s.used (find_in n s.sides) price q
calling_due g s (Show n) = None

abbrev pub due_in : Phase → Setting → State → Call → Option Listed
due_in Shut g s c = shut_due g.rule c
due_in Calling g s c = calling_due g s c

-- the refusal that is due to a call, if any
abbrev pub due : Setting → State → Call → Option Listed
due g s c = due_in s.phase g s c

-- ---- what is answered where nothing is refused

abbrev pub quantity_in : Option Order → ℕ
quantity_in None = 0
quantity_in (Some o) = o.quantity

abbrev pub answer_to : State → Call → Answer
answer_to s (Start prior last) = Started
answer_to s (Enter t) = Entered (s.used + 1)
answer_to s (Withdraw n) = Withdrawn (quantity_in (find_in n s.sides))
answer_to s (Amend n price q) = Amended n
answer_to s (Show n) = Shown (find_in n s.sides)

-- ---- how the book goes on

-- a last sale of 0 is none
abbrev pub sale_of : ℕ → Option ℕ
sale_of last = cond (last == 0) None (Some last)

abbrev pub after_amend : State → Option Order → ℕ → ℕ → State
after_amend s None price q = s
after_amend s (Some o) price q =
    with_orders (cond (loses_place o price q) (s.used + 1) s.used) (put_in (amended s.used o price q) s.sides) s

abbrev pub after : State → Call → State
after s (Start prior last) = record { phase = Calling; prior = prior; last = sale_of last; used = s.used; sides = s.sides }
after s (Enter t) = with_orders (s.used + 1) (put_in (new_order (s.used + 1) t) s.sides) s
after s (Withdraw n) = with_orders s.used (take_from n s.sides) s
after s (Amend n price q) = after_amend s (find_in n s.sides) price q
after s (Show n) = s

-- ---- one call

-- a refusal leaves the state as it was
abbrev pub goes_on : Option Listed → State → State → State
goes_on None s s' = s'
goes_on (Some r) s s' = s

-- r is the refusal that is due, and then t is s; where none is due it is the answer a, and t is s'
pub record Ends (refused : Option Listed) (a : Answer) (s s' : State) (r : Result Answer Refusal) (t : State) : Type 0 where
  pub refusal : refusal_in r ≡ refused
  pub answer : IfOk r (λ x. x ≡ a)
  pub next : t ≡ goes_on refused s s'

-- ---- one call after another

-- the answer to a call, or how its refusal is listed
abbrev pub unless : Option Listed → Answer → Result Answer Listed
unless None a = Ok a
unless (Some r) a = Err r

abbrev pub reply : Setting → State → Call → Result Answer Listed
reply g s c = unless (due g s c) (answer_to s c)

abbrev pub next : Setting → State → Call → State
next g s c = goes_on (due g s c) s (after s c)

-- what is said to each of the calls, from state s on
abbrev pub replies : Setting → State → List Call → List (Result Answer Listed)
replies g s [] = []
replies g s (c ∷ cs) = reply g s c ∷ replies g (next g s c) cs

-- the state that they lead to
abbrev pub next_all : Setting → State → List Call → State
next_all g s [] = s
next_all g s (c ∷ cs) = next_all g (next g s c) cs
