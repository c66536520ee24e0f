-- A reading of what lies behind a place is a reading at that place.
use Rattle.std.proofs.Common.{◌≡◌, ℕ, ◌-◌, ◌≤◌, List, ◌++◌, length, take, drop, IfOk, Ok, Err, Result, sym, ap, ◌∙◌, arith, Bor}
use Rattle.std.proofs.lemmas.List.{drop-drop, length-drop, length-append, take_at, take_rest}
use Rattle.tape.specs.declared.fault.TapeFault.{TapeFault}
use Rattle.tape.proofs.Codec.{Bytes, one-writing}
use Rattle.tape.specs.declared.command.Command.{Command}
use Rattle.tape.specs.declared.command.Command.TheVariants.{Start, Enter, Withdraw, Amend}
use Rattle.tape.specs.Format.{decode, encode}
use Rattle.tape.specs.Views.{view, RestOf, Borrows, Taken, ReadAt}

-- an account lies as far behind the place as behind the bytes' front
pub borrowed : (tape bytes : Bor (List ℕ)) (i : ℕ) (c : Command) → RestOf tape i bytes → Borrows bytes 0 c → Borrows tape i c
borrowed tape bytes i (Start _ _) r b = tt
borrowed tape bytes i (Enter _) r b =
    (b.0 ∙ r.0, omega (arith, b.1, r.1), b.2 ∙ ap (λ l. take 8 (drop 11 l)) r.2 ∙ ap (take 8) (drop-drop 11 i tape.now))
borrowed tape bytes i (Withdraw _) r b = tt
borrowed tape bytes i (Amend _ _ _) r b = tt

-- what a reading at a place stands on
pub ruleset behind = (borrowed, take_rest, drop-drop, length-drop)

-- the bytes from a place up to where its command ends are the command's writing
pub part_is : (tape : Bor (List ℕ)) (i : ℕ) (c : Command) (end : ℕ) → ReadAt tape i (Ok (c, end)) → take (end - i) (drop i tape.now) ≡ encode (view c)
part_is tape i c end r = grind (arith, length-append, length-drop, take_at)

-- the bytes that a reading took are the record's writing, and the rest comes behind it
pub writing : (bytes : Bor (List ℕ)) (r : Result (Command × Bor (List ℕ)) TapeFault) → Taken bytes (decode bytes.now) r → Bytes bytes.now → IfOk r (λ x. bytes.now ≡ encode (view x.0) ++ x.1.now)
writing bytes (Ok x) t b = one-writing (view x.0) bytes.now b (sym t.value) ∙ ap (λ l. encode (view x.0) ++ l) (sym t.rest.2)
writing bytes (Err f) t b = tt
