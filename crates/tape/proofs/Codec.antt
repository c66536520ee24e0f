-- What is written is read back, and a record has one writing.
use Rattle.std.proofs.Common.{◌≡◌, ℕ, ◌+◌, ◌*◌, ◌/◌, ◌%◌, ◌^◌, ◌<◌, ◌≤◌, List, [], ◌∷◌, ◌++◌, length, get_or, drop, Ok, refl, arith, Fits, w8}
use Rattle.std.proofs.lemmas.Nat.{from_be_bytes-to_be_bytes_4}
use Rattle.std.proofs.lemmas.List.{take_at, length-append, drop_more, drop-drop, take-append-drop}
use Rattle.std.proofs.lemmas.Bool.Decides.{nat_tests}
use Rattle.tape.specs.Format.{Record, start, enter, withdraw, amend, encode, decode, width, word, word_at}

-- a number of four bytes
abbrev pub Word : ℕ → Type 0
Word n = n < 2 ^ 32

-- a record whose numbers have four bytes and whose account has eight
abbrev pub Writable : Record → Type 0
Writable (start prior last) = Word prior × Word last
Writable (enter side kind price quantity account) = Word price × Word quantity × (length account ≡ 8)
Writable (withdraw number) = Word number
Writable (amend number price quantity) = Word number × Word price × Word quantity

-- each number of a list is a byte
abbrev pub Bytes : List ℕ → Type 0
Bytes xs = (k : ℕ) → Fits w8 (get_or xs k 0)

-- ---- what is written is read back

-- the four bytes of a number give it back
whole : (n : ℕ) → Word n → n / 16777216 % 256 * 16777216 + n / 65536 % 256 * 65536 + n / 256 % 256 * 256 + n % 256 ≡ n
whole n h = from_be_bytes-to_be_bytes_4 n h

-- whatever follows it
pub round_trip : (c : Record) (rest : List ℕ) → Writable c → decode (encode c ++ rest) ≡ Ok c
round_trip (start p l) rest h = grind (arith, nat_tests, whole)
round_trip (enter s k p q a) rest h = let t = take_at a rest 8 h.2 in grind (arith, nat_tests, whole, length-append)
round_trip (withdraw n) rest h = grind (arith, nat_tests, whole)
round_trip (amend n p q) rest h = grind (arith, nat_tests, whole)

-- ---- a record has one writing

-- the four bytes at i are the writing of the number there
four : (xs : List ℕ) (i : ℕ) → Bytes xs → i + 4 ≤ length xs → drop i xs ≡ word (word_at xs i) ++ drop (i + 4) xs
four xs i b h = grind (arith, drop_more)

-- bytes that are read as a record begin with its writing
pub one-writing : (c : Record) (xs : List ℕ) → Bytes xs → decode xs ≡ Ok c → xs ≡ encode c ++ drop (width c) xs
one-writing c xs b e =
    let byte0 = drop_more xs 0 0 in
    let byte1 = drop_more xs 1 0 in
    let byte2 = drop_more xs 2 0 in
    let word1 = four xs 1 b in
    let word3 = four xs 3 b in
    let word5 = four xs 5 b in
    let word7 = four xs 7 b in
    let word9 = four xs 9 b in
    let account = take-append-drop 8 (drop 11 xs) in
    let rest = drop-drop 8 11 xs in
    grind (arith, nat_tests)

-- the eight bytes of a list
pub eight : (xs : List ℕ) → length xs ≡ 8 → xs ≡ get_or xs 0 0 ∷ get_or xs 1 0 ∷ get_or xs 2 0 ∷ get_or xs 3 0 ∷ get_or xs 4 0 ∷ get_or xs 5 0 ∷ get_or xs 6 0 ∷ get_or xs 7 0 ∷ []
eight (a ∷ b ∷ c ∷ d ∷ e ∷ f ∷ g ∷ h ∷ []) l = refl
eight _ l = absurd (omega arith)
