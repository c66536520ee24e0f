-- A run on its way, and one command more.
use Rattle.std.proofs.Common.{◌≡◌, ℕ, ◌+◌, ◌≤◌, List, [], ◌∷◌, ◌++◌, map, length, IfOk, Some, Ok, Err, Option, Result, sym, refl, ap, ◌∙◌, subst, arith}
use Rattle.std.proofs.lemmas.List.{map-append, length_push}
use Rattle.ticks.specs.declared.rule.TickRule as TickRule
use Rattle.sheets.specs.declared.sheet.OrderSheet as OrderSheet
use Rattle.tape.specs.Format.{Record}
use Rattle.tape.specs.Sequence.{Stand}
use Rattle.tape.proofs.Sequence.{stand-push, width_some}
use Rattle.calls.specs.declared.call.Answer.{Answer}
use Rattle.calls.specs.declared.call.Call.{Call}
use Rattle.calls.specs.declared.refusal.Refusal.{Refusal}
use Rattle.calls.specs.Listed.{Listed, refusal_in, told}
use Rattle.calls.specs.State.{Setting, State}
use Rattle.calls.specs.Machine.{unless, reply, next, replies, next_all}
use Rattle.book.specs.declared.book.Book.{Book}
use Rattle.book.specs.Books.{rule_of, setting_of, state_of}
use Rattle.book.proofs.Clears.{as_many_left}
use Rattle.opening.specs.Calls.{call_of}
use Rattle.opening.specs.Steps.{Advanced}
use Rattle.opening.specs.declared.runs.Counts.{Counts}
use Rattle.opening.specs.Runs.{yes_of, no_of, accepted, refused}

-- ---- one call more

next_all-push : (g : Setting) (s : State) (cs : List Call) (c : Call) → next_all g s (cs ++ c ∷ []) ≡ next g (next_all g s cs) c
next_all-push g s [] c = refl
next_all-push g s (x ∷ cs) c = next_all-push g (next g s x) cs c

replies-push : (g : Setting) (s : State) (cs : List Call) (c : Call) → replies g s (cs ++ c ∷ []) ≡ replies g s cs ++ reply g (next_all g s cs) c ∷ []
replies-push g s [] c = refl
replies-push g s (x ∷ cs) c = ap (λ rs. reply g s x ∷ rs) (replies-push g (next g s x) cs c)

-- what a book said is its reply
told_is : (said : Result Answer Refusal) (d : Option Listed) (a : Answer) → refusal_in said ≡ d → IfOk said (λ x. x ≡ a) → told said ≡ unless d a
told_is (Ok x) d a e m = ap Ok m ∙ ap (λ (o : Option Listed). unless o a) e
told_is (Err x) d a e m = ap (λ (o : Option Listed). unless o a) e

-- ---- counts

accepted-push : (rs : List (Result Answer Listed)) (said : Result Answer Refusal) → accepted (rs ++ told said ∷ []) ≡ accepted rs + yes_of said
accepted-push [] (Ok a) = refl
accepted-push [] (Err e) = refl
accepted-push (x ∷ rs) said = let h = accepted-push rs said in omega arith

refused-push : (rs : List (Result Answer Listed)) (said : Result Answer Refusal) → refused (rs ++ told said ∷ []) ≡ refused rs + no_of said
refused-push [] (Ok a) = refl
refused-push [] (Err e) = refl
refused-push (x ∷ rs) said = let h = refused-push rs said in omega arith

-- each is accepted or refused
pub both-counted : (rs : List (Result Answer Listed)) → accepted rs + refused rs ≡ length rs
both-counted [] = refl
both-counted (Ok a ∷ rs) = let h = both-counted rs in omega arith
both-counted (Err e ∷ rs) = let h = both-counted rs in omega arith

-- one call is accepted or refused
pub one-counted : (said : Result Answer Refusal) → yes_of said + no_of said ≡ 1
one-counted (Ok a) = refl
one-counted (Err e) = refl

-- ---- a run on its way

-- book b has been run over the tape up to place i, with the replies rs and their counts n, and is b' now
pub record Going {R S : Type 0} (rules : TickRule.Ghosts R) (sheets : OrderSheet.Ghosts S) (tape : List ℕ) (b : Book R S) (rs : List (Result Answer Listed)) (i : ℕ) (b' : Book R S) (n : Counts) : Type 0 where
  pub records : List Record
  pub stand : Stand tape 0 records i
  pub replied : rs ≡ replies (setting_of rules sheets b) (state_of sheets b) (map call_of records)
  pub state : state_of sheets b' ≡ next_all (setting_of rules sheets b) (state_of sheets b) (map call_of records)
  pub rule : b'.rule ≡ b.rule
  pub room : sheets.room b'.sheet ≡ sheets.room b.sheet
  pub rows : length (sheets.rows b'.sheet) ≡ length (sheets.rows b.sheet)
  pub few : length rs ≤ i
  pub accepts : n.accepted ≡ accepted rs
  pub refuses : n.refused ≡ refused rs

module _ {R S : Type 0} (rules : TickRule.Ghosts R) (sheets : OrderSheet.Ghosts S) (tape : List ℕ) (b : Book R S) where
  pub going_none : (i : ℕ) (n : Counts) → i ≡ 0 → n.accepted ≡ 0 → n.refused ≡ 0 → Going rules sheets tape b [] i b n
  going_none i n e a r = record { records = []; stand = sym e; replied = refl; state = refl; rule = refl; room = refl; rows = refl; few = omega arith; accepts = a; refuses = r }

  -- one command more, read from the same tape
  pub going_more : (rs : List (Result Answer Listed)) (i j : ℕ) (b' b'' : Book R S) (n n' : Counts) (read : List ℕ) (said : Result Answer Refusal)
      → Going rules sheets tape b rs i b' n → read ≡ tape → Advanced rules sheets read i b' (Ok (Some said)) j b''
      → n'.accepted ≡ n.accepted + yes_of said → n'.refused ≡ n.refused + no_of said
      → Going rules sheets tape b (rs ++ told said ∷ []) j b'' n'
  going_more rs i j b' b'' n n' read said w same_tape advanced a r =
      let step = subst (λ (t : List ℕ). Advanced rules sheets t i b' (Ok (Some said)) j b'') same_tape advanced in
      let c : Record = step.0 in
      let cs : List Record = w.records in
      let g : Setting = setting_of rules sheets b in
      let s : State = state_of sheets b in
      let t : State = next_all g s (map call_of cs) in
      let took = step.4 in
      let setting : setting_of rules sheets b' ≡ g = same w.rule w.room in
      let calls : map call_of (cs ++ c ∷ []) ≡ map call_of cs ++ call_of c ∷ [] = map-append call_of cs (c ∷ []) in
      let here : told said ≡ reply g t (call_of c) =
      told_is said _ _ took.ends.refusal took.ends.answer
      ∙ ap (λ (h : Setting). reply h (state_of sheets b') (call_of c)) setting
      ∙ ap (λ (u : State). reply g u (call_of c)) w.state in
      record {
        records = cs ++ c ∷ [];
        stand = subst (λ (k : ℕ). Stand tape 0 (cs ++ c ∷ []) k) (sym step.3) (stand-push tape 0 cs i c w.stand step.2);
        replied =
            ap (λ (ls : List (Result Answer Listed)). ls ++ told said ∷ []) w.replied
            ∙ ap (λ (r : Result Answer Listed). replies g s (map call_of cs) ++ r ∷ []) here
            ∙ sym (ap (replies g s) calls ∙ replies-push g s (map call_of cs) (call_of c));
        state =
            took.ends.next
            ∙ ap (λ (h : Setting). next h (state_of sheets b') (call_of c)) setting
            ∙ ap (λ (u : State). next g u (call_of c)) w.state
            ∙ sym (ap (next_all g s) calls ∙ next_all-push g s (map call_of cs) (call_of c));
        rule = took.rule ∙ w.rule;
        room = took.room ∙ w.room;
        rows = as_many_left said _ _ took.rows ∙ w.rows;
        few = let h = w.few in let one = width_some c in let at = step.3 in let long = length_push rs (told said) in omega arith;
        accepts = a ∙ ap (λ m. m + yes_of said) w.accepts ∙ sym (accepted-push rs said);
        refuses = r ∙ ap (λ m. m + no_of said) w.refuses ∙ sym (refused-push rs said);
      }
    where
      same : b'.rule ≡ b.rule → sheets.room b'.sheet ≡ sheets.room b.sheet → setting_of rules sheets b' ≡ setting_of rules sheets b
      same p q = λ k. record { rule = rule_of rules (p k); room = q k }
