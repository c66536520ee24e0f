-- The rows of a sheet: an emptied one has only spare rows, and none gets more or fewer.
use Rattle.std.proofs.Common.{◌≡◌, ℕ, suc, Bool, true, false, cond, List, [], ◌∷◌, length, Ok, Err, MatchBool, filter, Result, refl, ap, ◌∙◌, arith}
use Rattle.std.specs.List.{AllZip, AllByRecursion}
use Rattle.ordered.specs.Sorting.{sort_by, insert_by}
use Rattle.market.specs.declared.order.Order.{Order}
use Rattle.market.specs.declared.order.Side.{Side}
use Rattle.market.specs.declared.order.Side.TheVariants.{Buy, Offer}
use Rattle.sheets.specs.Sides.{Sides, sides_of, same_side, on, outranks}
use Rattle.sheets.specs.Rows.{Row, occupied, SpareRowsKept, line, arranged}
use Rattle.calls.specs.declared.call.Answer.{Answer}
use Rattle.calls.specs.declared.call.Answer.TheVariants.{Started, Entered, Withdrawn, Amended, Shown}
use Rattle.calls.specs.declared.refusal.Refusal.{Refusal}
use Rattle.book.specs.Books.{RowsLeft}

-- a list with an entry put in is not empty
insert-some : (v : Side) (o : Order) (xs : List Order) → insert_by (outranks v) o xs ≡ [] → ⊥
insert-some v o [] e = let z : ◌≡◌ {A = ℕ} 0 1 = cc in omega arith
insert-some v o (x ∷ xs) e = either (outranks v o x) e
  where
    either : (b : Bool) → cond b (o ∷ x ∷ xs) (x ∷ insert_by (outranks v) o xs) ≡ [] → ⊥
    either true e = let z : ◌≡◌ {A = ℕ} 0 1 = cc in omega arith
    either false e = let z : ◌≡◌ {A = ℕ} 0 1 = cc in omega arith

-- an order stands on one side or the other
none-sided : (o : Order) (xs : List Order) → line Buy (o ∷ xs) ≡ [] → line Offer (o ∷ xs) ≡ [] → ⊥
none-sided o xs b a = which o.side b a
  where
    which : (v : Side) → sort_by (outranks Buy) (cond (same_side Buy v) (o ∷ filter (on Buy) xs) (filter (on Buy) xs)) ≡ [] → sort_by (outranks Offer) (cond (same_side Offer v) (o ∷ filter (on Offer) xs) (filter (on Offer) xs)) ≡ [] → ⊥
    which Buy b a = insert-some Buy o (sort_by (outranks Buy) (filter (on Buy) xs)) b
    which Offer b a = insert-some Offer o (sort_by (outranks Offer) (filter (on Offer) xs)) a

-- no orders make empty sides
none-arranged : (xs : List Order) → arranged xs ≡ sides_of [] [] → xs ≡ []
none-arranged [] e = refl
none-arranged (o ∷ xs) e = absurd (none-sided o xs (ap (λ (s : Sides). s.buys) e) (ap (λ (s : Sides). s.offers) e))

-- rows of which none is occupied are spare
pub none-occupied : (rs : List Row) → occupied rs ≡ [] → AllByRecursion (λ r. r.spare ≡ true) rs
none-occupied [] e = tt
none-occupied (r ∷ rs) e = either r.spare refl e (none-occupied rs)
  where
    either : (b : Bool) → r.spare ≡ b → cond b (occupied rs) (r.order ∷ occupied rs) ≡ [] → (occupied rs ≡ [] → AllByRecursion (λ x. x.spare ≡ true) rs) → (r.spare ≡ true) × AllByRecursion (λ x. x.spare ≡ true) rs
    either true same e rest = (same, rest e)
    either false same e rest = absurd (let z : ◌≡◌ {A = ℕ} 0 1 = cc in omega arith)

-- every row of an empty sheet is spare
pub all-spare : (rs : List Row) (s : Sides) → arranged (occupied rs) ≡ s → s ≡ sides_of [] [] → AllByRecursion (λ r. r.spare ≡ true) rs
all-spare rs s stored empty = none-occupied rs (none-arranged (occupied rs) (stored ∙ empty))

each-length : {X : Type 0} (P : X → X → Type 0) (xs ys : List X) → AllZip P xs ys → length ys ≡ length xs
each-length P [] [] h = refl
each-length P [] (y ∷ ys) h = absurd h
each-length P (x ∷ xs) [] h = absurd h
each-length P (x ∷ xs) (y ∷ ys) h = ap suc (each-length P xs ys h.1)

-- a take leaves as many rows as there were
pub as_many : (found : Bool) (before after : List Row) → MatchBool found (SpareRowsKept before after) (after ≡ before) → length after ≡ length before
as_many true before after kept = each-length _ before after kept
as_many false before after same = ap length same

-- and so does a call
pub as_many_left : (r : Result Answer Refusal) (before after : List Row) → RowsLeft r before after → length after ≡ length before
as_many_left (Ok Started) before after same = ap length same
as_many_left (Ok (Entered n)) before after kept = each-length _ before after kept
as_many_left (Ok (Withdrawn q)) before after kept = each-length _ before after kept
as_many_left (Ok (Amended n)) before after kept = each-length _ before after kept
as_many_left (Ok (Shown o)) before after same = ap length same
as_many_left (Err e) before after same = ap length same
