-- The order tape's format: what a record is, the bytes that it is written as, and the record that bytes begin with.
use Rattle.std.specs.Prelude.{ℕ, ◌+◌, ◌*◌, ◌/◌, ◌%◌, cond, List, [], ◌∷◌, ◌++◌, length, take, drop, Ok, Err, Result, ◌==◌, nat_le, slice_index}
use Rattle.market.specs.declared.order.Side.{Side}
use Rattle.market.specs.declared.order.Side.TheVariants.{Buy, Offer}
use Rattle.market.specs.declared.order.Kind.{Kind}
use Rattle.market.specs.declared.order.Kind.TheVariants.{Limit, Market}
use Rattle.tape.specs.declared.fault.TapeFault.{TapeFault}
use Rattle.tape.specs.declared.fault.TapeFault.TheVariants.{UnknownCommand, Truncated, UnlistedByte}

-- a command with its operands
pub data Record : Type 0 where
  start : (prior last : ℕ) → Record
  enter : (side : Side) (kind : Kind) (price quantity : ℕ) (account : List ℕ) → Record
  withdraw : (number : ℕ) → Record
  amend : (number price quantity : ℕ) → Record

-- ---- writing

-- a number, in four bytes, the most significant first
abbrev pub word : ℕ → List ℕ
word n = (n / 16777216 % 256) ∷ (n / 65536 % 256) ∷ (n / 256 % 256) ∷ (n % 256) ∷ []

abbrev pub side_byte : Side → ℕ
side_byte Buy = 0x42
side_byte Offer = 0x4F

abbrev pub kind_byte : Kind → ℕ
kind_byte Limit = 0x4C
kind_byte Market = 0x4D

-- the bytes of a record
abbrev pub encode : Record → List ℕ
encode (start prior last) = 0x53 ∷ (word prior ++ word last)
encode (enter side kind price quantity account) = 0x45 ∷ side_byte side ∷ kind_byte kind ∷ (word price ++ (word quantity ++ account))
encode (withdraw number) = 0x58 ∷ word number
encode (amend number price quantity) = 0x41 ∷ (word number ++ (word price ++ word quantity))

-- how many bytes a record has
abbrev pub width : Record → ℕ
width (start _ _) = 9
width (enter _ _ _ _ _) = 19
width (withdraw _) = 5
width (amend _ _ _) = 13

-- ---- reading

-- the number in the four bytes at i
abbrev pub word_at : List ℕ → ℕ → ℕ
word_at xs i = slice_index xs i * 16777216 + slice_index xs (i + 1) * 65536 + slice_index xs (i + 2) * 256 + slice_index xs (i + 3)

-- the side that a byte stands for
abbrev pub with_side : {X : Type 0} → ℕ → (Side → Result X TapeFault) → Result X TapeFault
with_side b then = cond (b == 0x42) (then Buy) (cond (b == 0x4F) (then Offer) (Err UnlistedByte))

-- the kind that a byte stands for
abbrev pub with_kind : {X : Type 0} → ℕ → (Kind → Result X TapeFault) → Result X TapeFault
with_kind b then = cond (b == 0x4C) (then Limit) (cond (b == 0x4D) (then Market) (Err UnlistedByte))

-- a record of w bytes, where the bytes reach that far
abbrev pub within : {X : Type 0} → ℕ → List ℕ → Result X TapeFault → Result X TapeFault
within w xs r = cond (nat_le w (length xs)) r (Err Truncated)

-- what the operands behind each command byte say
abbrev pub start_in : List ℕ → Result Record TapeFault
start_in xs = within 9 xs (Ok (start (word_at xs 1) (word_at xs 5)))

abbrev pub enter_in : List ℕ → Result Record TapeFault
enter_in xs = within 19 xs (with_side (slice_index xs 1) (λ s. with_kind (slice_index xs 2) (λ k. Ok (enter s k (word_at xs 3) (word_at xs 7) (take 8 (drop 11 xs))))))

abbrev pub withdraw_in : List ℕ → Result Record TapeFault
withdraw_in xs = within 5 xs (Ok (withdraw (word_at xs 1)))

abbrev pub amend_in : List ℕ → Result Record TapeFault
amend_in xs = within 13 xs (Ok (amend (word_at xs 1) (word_at xs 5) (word_at xs 9)))

-- bytes that begin with the command byte b say r, all others what comes next
abbrev pub command : {X : Type 0} → ℕ → List ℕ → Result X TapeFault → Result X TapeFault → Result X TapeFault
command b xs r next = cond (slice_index xs 0 == b) r next

-- the record that the bytes begin with, or why there is none: the list of commands
abbrev pub decode : List ℕ → Result Record TapeFault
decode xs =
    within 1 xs
    (command 0x53 xs (start_in xs)
    (command 0x45 xs (enter_in xs)
    (command 0x58 xs (withdraw_in xs)
    (command 0x41 xs (amend_in xs)
    (Err UnknownCommand)))))
