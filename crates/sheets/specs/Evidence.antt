-- That the two sheets keep the laws: the evidence that their ghost members `laws` and `stored` give. A reader need not follow it.
use Rattle.std.specs.Prelude.{◌≡◌, ℕ, zero, suc, ◌^◌, Bool, true, false, cond, not, ◌&&◌, List, [], ◌∷◌, ◌++◌, length, take, filter, nat_le, nat_lt, refl}
use Rattle.std.proofs.Common.{ap, ap₂, ◌∙◌, ⊎_elim}
use Rattle.std.specs.List.{AllByRecursion, list_all, list_any}
use Rattle.std.proofs.lemmas.List.{append-nil}
use Rattle.std.proofs.lemmas.List.Elements.{filter-append}
use Rattle.std.proofs.lemmas.Bool.{and_parts, ltb-true, leb-true, eq-eqb, not-true, both_ways, cases_Bool}
use Rattle.ordered.specs.Sorting.{sort_by, Sorted}
use Rattle.ordered.specs.Meaning.{lent}
use Rattle.ordered.proofs.Tests.{all_from}
use Rattle.ordered.proofs.Sorts.{sort_sorted}
use Rattle.market.specs.declared.order.Order.{Order}
use Rattle.market.specs.declared.order.Side.{Side}
use Rattle.market.specs.declared.order.Side.TheVariants.{Buy, Offer}
use Rattle.sheets.specs.declared.priority.PrioritySheet.{PrioritySheet}
use Rattle.sheets.specs.declared.arrival.ArrivalSheet.{ArrivalSheet}
use Rattle.sheets.specs.Sides.{Sides, sides_of, standing, numbered, same_side, on, outranks}
use Rattle.sheets.specs.Rows.{Row, marked, occupied, line, arranged}
use Rattle.sheets.specs.Tests.{is_sorted, is_apart, is_bounded, is_line, is_sheet}
use Rattle.sheets.specs.Laws.{Free, Apart, Bounded, LineLaws, SheetLaws}
use Rattle.sheets.specs.Held.{rows_of, held_by_priority, rows_by_priority, held_by_arrival, rows_by_arrival}

-- ---- what the test tells

-- the test of order
pub sorted-from : {X : Type 0} (ahead : X → X → Bool) (xs : List X) → is_sorted ahead xs ≡ true → Sorted ahead xs
sorted-from ahead [] e = tt
sorted-from ahead (x ∷ xs) e =
    let p = and_parts (list_all (ahead x) xs) (is_sorted ahead xs) e in
    (all_from (ahead x) (λ y. ahead x y ≡ true) (λ y h. h) xs p.0, sorted-from ahead xs p.1)

-- the test of a side
pub same-side : (v w : Side) → same_side v w ≡ true → w ≡ v
same-side Buy Buy e = refl
same-side Buy Offer e = absurd (both_ways false refl e)
same-side Offer Buy e = absurd (both_ways false refl e)
same-side Offer Offer e = refl

-- the test of a number
pub free-from : (n : ℕ) (xs : List Order) → list_any (numbered n) xs ≡ false → Free n xs
free-from n [] e = tt
free-from n (x ∷ xs) e =
    ⊎_elim
    (λ t. absurd (both_ways (list_any (numbered n) (x ∷ xs)) e (rw t refl)))
    (λ f. ((λ h. both_ways (numbered n x) f (eq-eqb x.number n h)), free-from n xs (rw f at e)))
    (cases_Bool (numbered n x))

-- the test that no number stands twice
pub apart_from : (xs : List Order) → is_apart xs ≡ true → Apart xs
apart_from [] e = tt
apart_from (x ∷ xs) e =
    let p = and_parts (not (list_any (numbered x.number) xs)) (is_apart xs) e in
    (free-from x.number xs (not-true (list_any (numbered x.number) xs) p.0), apart_from xs p.1)

-- the test of 32 bits
pub bounded-from : (o : Order) → is_bounded o ≡ true → Bounded o
bounded-from o e =
    let p = and_parts (nat_lt o.number (2 ^ 32) && nat_lt o.price (2 ^ 32)) (nat_lt o.rank (2 ^ 32) && nat_lt o.quantity (2 ^ 32)) e in
    let a = and_parts (nat_lt o.number (2 ^ 32)) (nat_lt o.price (2 ^ 32)) p.0 in
    let b = and_parts (nat_lt o.rank (2 ^ 32)) (nat_lt o.quantity (2 ^ 32)) p.1 in
    record { number = ltb-true o.number (2 ^ 32) a.0; price = ltb-true o.price (2 ^ 32) a.1; rank = ltb-true o.rank (2 ^ 32) b.0; quantity = ltb-true o.quantity (2 ^ 32) b.1 }

-- the test of one side of a sheet
pub line-from : (v : Side) (n : ℕ) (xs : List Order) → is_line v n xs ≡ true → LineLaws v n xs
line-from v n xs e =
    let p = and_parts (nat_le (length xs) n && list_all (on v) xs) (is_sorted (outranks v) xs && list_all is_bounded xs) e in
    let a = and_parts (nat_le (length xs) n) (list_all (on v) xs) p.0 in
    let b = and_parts (is_sorted (outranks v) xs) (list_all is_bounded xs) p.1 in
    record {
      fits = leb-true (length xs) n a.0;
      sided = all_from (on v) (λ o. o.side ≡ v) (λ o. same-side v o.side) xs a.1;
      sorted = sorted-from (outranks v) xs b.0;
      bounded = all_from is_bounded Bounded bounded-from xs b.1;
    }

-- the test of a sheet
pub lawful : (n : ℕ) (s : Sides) → is_sheet n s ≡ true → SheetLaws n s
lawful n s e =
    let p = and_parts (nat_le n 2048 && is_apart (standing s)) (is_line Buy n s.buys && is_line Offer n s.offers) e in
    let a = and_parts (nat_le n 2048) (is_apart (standing s)) p.0 in
    let b = and_parts (is_line Buy n s.buys) (is_line Offer n s.offers) p.1 in
    record { small = leb-true n 2048 a.0; buys = line-from Buy n s.buys b.0; offers = line-from Offer n s.offers b.1; apart = apart_from (standing s) a.1 }

-- ---- what the rows hold

-- the first n rows
occupied-marked : (n : ℕ) (xs : List Order) → occupied (marked n xs) ≡ take n xs
occupied-marked zero [] = refl
occupied-marked (suc n) [] = refl
occupied-marked zero (x ∷ xs) = occupied-marked zero xs
occupied-marked (suc n) (x ∷ xs) = ap (λ ys. x ∷ ys) (occupied-marked n xs)

-- two lots of rows
occupied-append : (rs ts : List Row) → occupied (rs ++ ts) ≡ occupied rs ++ occupied ts
occupied-append [] ts = refl
occupied-append (r ∷ rs) ts =
    elim r.spare as (λ b. cond b (occupied (rs ++ ts)) (r.order ∷ occupied (rs ++ ts)) ≡ cond b (occupied rs) (r.order ∷ occupied rs) ++ occupied ts)
    [ true ↦ occupied-append rs ts | false ↦ ap (λ ys. r.order ∷ ys) (occupied-append rs ts) ]

-- orders of one side
kept-own : (v : Side) (xs : List Order) → AllByRecursion (λ o. o.side ≡ v) xs → filter (on v) xs ≡ xs
kept-own v [] h = refl
kept-own v (x ∷ xs) h = let t : on v x ≡ true = ap (same_side v) h.0 ∙ self v in rw t (ap (λ ys. x ∷ ys) (kept-own v xs h.1))
  where
    self : (w : Side) → same_side w w ≡ true
    self Buy = refl
    self Offer = refl

-- orders of the other side
kept-other : (v w : Side) → same_side v w ≡ false → (xs : List Order) → AllByRecursion (λ o. o.side ≡ w) xs → filter (on v) xs ≡ []
kept-other v w e [] h = refl
kept-other v w e (x ∷ xs) h = let f : on v x ≡ false = ap (same_side v) h.0 ∙ e in rw f (kept-other v w e xs h.1)

-- the two lists of a priority sheet, one after the other, make its sides
arranged-sides : (n : ℕ) (s : Sides) → SheetLaws n s → arranged (standing s) ≡ s
arranged-sides n s l =
    let b : line Buy (standing s) ≡ s.buys =
    ap (sort_by (outranks Buy)) (filter-append (on Buy) s.buys s.offers
    ∙ ap₂ (λ (x y : List Order). x ++ y) (kept-own Buy s.buys l.buys.sided) (kept-other Buy Offer refl s.offers l.offers.sided)
    ∙ append-nil s.buys)
    ∙ sort_sorted (outranks Buy) s.buys l.buys.sorted in
    let a : line Offer (standing s) ≡ s.offers =
    ap (sort_by (outranks Offer)) (filter-append (on Offer) s.buys s.offers
    ∙ ap₂ (λ (x y : List Order). x ++ y) (kept-other Offer Buy refl s.buys l.buys.sided) (kept-own Offer s.offers l.offers.sided))
    ∙ sort_sorted (outranks Offer) s.offers l.offers.sorted in
    ap₂ sides_of b a

-- ---- the two sheets

-- the laws of the priority sheet
pub priority_laws : (s : PrioritySheet) → SheetLaws s.capacity (held_by_priority s)
priority_laws s = lawful s.capacity (held_by_priority s) s.lawful

-- its rows hold its orders
pub priority_stored : (s : PrioritySheet) → arranged (occupied (rows_by_priority s)) ≡ held_by_priority s
priority_stored s =
    let b = lent s.buys in
    let a = lent s.offers in
    ap arranged (occupied-append (rows_of b) (rows_of a) ∙ ap₂ (λ (x y : List Order). x ++ y) (occupied-marked b.len b.rows.now) (occupied-marked a.len a.rows.now))
    ∙ arranged-sides s.capacity (held_by_priority s) (priority_laws s)

-- the laws of the arrival sheet
pub arrival_laws : (s : ArrivalSheet) → SheetLaws s.capacity (held_by_arrival s)
arrival_laws s = lawful s.capacity (held_by_arrival s) s.lawful

-- its rows hold its orders
pub arrival_stored : (s : ArrivalSheet) → arranged (occupied (rows_by_arrival s)) ≡ held_by_arrival s
arrival_stored s = ap arranged (occupied-marked s.orders.len s.orders.rows.now)
