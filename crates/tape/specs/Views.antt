-- What the code's values say in the words of the format.
use Rattle.std.specs.Prelude.{◌≡◌, ℕ, ◌+◌, ◌<◌, ◌≤◌, Bool, true, cond, List, ◌++◌, length, take, drop, IfOk, Some, None, Ok, Err, Option, Result, ◌==◌, nat_le}
use Rattle.std.specs.Borrow.{Bor}
use Rattle.market.specs.declared.order.Terms.{Terms}
use Rattle.tape.specs.declared.fault.TapeFault.{TapeFault}
use Rattle.tape.specs.declared.fault.WriteFault.{WriteFault}
use Rattle.tape.specs.declared.fault.WriteFault.TheVariants.{AccountLength, ShortOutput}
use Rattle.tape.specs.declared.command.Command.{Command}
use Rattle.tape.specs.declared.command.Command.TheVariants.{Start, Enter, Withdraw, Amend}
use Rattle.tape.specs.Format.{Record, start, enter, withdraw, amend, decode, encode, width}

-- the record of an order's terms
abbrev pub entered : Terms (Bor (List ℕ)) → Record
entered t = enter t.side t.kind t.price t.quantity t.account.now

-- the record that a command stands for
abbrev pub view : Command → Record
view (Start prior last) = start prior last
view (Enter t) = entered t
view (Withdraw number) = withdraw number
view (Amend number price quantity) = amend number price quantity

-- part is the n bytes of whole from i on: the same memory, and no copy
abbrev pub PartOf : Bor (List ℕ) → ℕ → ℕ → Bor (List ℕ) → Type 0
PartOf whole i n part = (part.ref_ptr.0 ≡ whole.ref_ptr.0) × (part.ref_ptr.1 ≡ whole.ref_ptr.1 + i) × (part.now ≡ take n (drop i whole.now))

-- rest is all of whole from i on
abbrev pub RestOf : Bor (List ℕ) → ℕ → Bor (List ℕ) → Type 0
RestOf whole i rest = (rest.ref_ptr.0 ≡ whole.ref_ptr.0) × (rest.ref_ptr.1 ≡ whole.ref_ptr.1 + i) × (rest.now ≡ drop i whole.now)

-- the account of a command that was read at i is a part of the tape
abbrev pub Borrows : Bor (List ℕ) → ℕ → Command → Type 0
Borrows tape i (Start prior last) = Unit {0}
Borrows tape i (Enter t) = PartOf tape (i + 11) 8 t.account
Borrows tape i (Withdraw number) = Unit {0}
Borrows tape i (Amend number price quantity) = Unit {0}

-- what a reading says, in the words of the format
abbrev pub told : {Rest : Type 0} → Result (Command × Rest) TapeFault → Result Record TapeFault
told (Ok x) = Ok (view x.0)
told (Err f) = Err f

-- a reading of bytes: the record that they begin with or the fault, as says has it, and the rest of the bytes
pub record Taken (bytes : Bor (List ℕ)) (says : Result Record TapeFault) (r : Result (Command × Bor (List ℕ)) TapeFault) : Type 0 where
  pub value : told r ≡ says
  pub rest : IfOk r (λ x. RestOf bytes (width (view x.0)) x.1)
  pub account : IfOk r (λ x. Borrows bytes 0 x.0)
  pub fits : IfOk r (λ x. width (view x.0) ≤ length bytes.now)

-- a reading at a place of a tape: the command there and where it ends, or the fault
abbrev pub ReadAt : Bor (List ℕ) → ℕ → Result (Command × ℕ) TapeFault → Type 0
ReadAt tape i (Ok x) =
    (decode (drop i tape.now) ≡ Ok (view x.0)) × Borrows tape i x.0
    × (drop i tape.now ≡ encode (view x.0) ++ drop x.1 tape.now) × (x.1 ≡ i + width (view x.0)) × (x.1 ≤ length tape.now)
ReadAt tape i (Err f) = decode (drop i tape.now) ≡ Err f

-- the part of the tape that the command at a place takes up, or the fault there
abbrev pub CommandPart : Bor (List ℕ) → ℕ → Result (Bor (List ℕ)) TapeFault → Type 0
CommandPart tape i (Ok part) = (c : Record) × (decode (drop i tape.now) ≡ Ok c) × PartOf tape i (width c) part × (part.now ≡ encode c)
CommandPart tape i (Err f) = decode (drop i tape.now) ≡ Err f

-- one step of a reader at i whose last command began at b: what it answers, and where it and the last command stand then
abbrev pub Steps : Bor (List ℕ) → ℕ → ℕ → Result (Option Command) TapeFault → ℕ → ℕ → Type 0
Steps tape i b (Ok None) i' b' = (i ≡ length tape.now) × (i' ≡ i) × (b' ≡ b)
Steps tape i b (Ok (Some c)) i' b' = (i < length tape.now) × ReadAt tape i (Ok (c, i')) × (b' ≡ i)
Steps tape i b (Err f) i' b' = (i < length tape.now) × ReadAt tape i (Err f) × (i' ≡ i) × (b' ≡ b)

-- whether the account of a record has its eight bytes
abbrev pub has_account : Record → Bool
has_account (start _ _) = true
has_account (enter _ _ _ _ account) = length account == 8
has_account (withdraw _) = true
has_account (amend _ _ _) = true

-- how many bytes are written of a record to an output of n bytes, or why none is
abbrev pub written : Record → ℕ → Result ℕ WriteFault
written c n = cond (has_account c) (cond (nat_le (width c) n) (Ok (width c)) (Err ShortOutput)) (Err AccountLength)
