-- What the listing of a tape says: a line for each record, and a last line.
use Rattle.std.specs.Prelude.{◌≡◌, ℕ, ◌+◌, ◌/◌, ◌%◌, Bool, true, cond, not, ◌&&◌, List, [], ◌∷◌, ◌++◌, length, Some, codes, decimal, MatchBool, ◌==◌, nat_le}
use Rattle.std.specs.Char.{is_ascii_graphic}
use Rattle.std.specs.Fmt.{digit_glyph}
use Rattle.market.specs.Words.{side_word, kind_word}
use Rattle.tape.specs.declared.fault.TapeFault.TheVariants.{OutOfBounds}
use Rattle.tape.specs.Format.{Record, start, enter, withdraw, amend, width}
use Rattle.tape.specs.Sequence.{Stand, Ends}
use Rattle.tape_list.specs.declared.end.End.{End}
use Rattle.tape_list.specs.Closing.{closing}

-- a visible character but the backslash
abbrev pub plain : ℕ → Bool
plain b = is_ascii_graphic b && not (b == 92)

-- a byte of an account: its character, or a backslash, x and two hexadecimal digits, in capitals
abbrev pub byte_text : ℕ → List ℕ
byte_text b = cond (plain b) (b ∷ []) (92 ∷ 120 ∷ digit_glyph true (b / 16) ∷ digit_glyph true (b % 16) ∷ [])

abbrev pub account_text : List ℕ → List ℕ
account_text [] = []
account_text (b ∷ bs) = byte_text b ++ account_text bs

-- a record in words
abbrev pub words : Record → List ℕ
words (start prior last) = codes "start prior " ++ (decimal prior ++ (codes " last " ++ decimal last))
words (enter side kind price quantity account) =
    codes "enter " ++ (side_word side ++ (codes " " ++ (kind_word kind ++ (codes " price " ++ (decimal price
    ++ (codes " quantity " ++ (decimal quantity ++ (codes " account " ++ account_text account))))))))
words (withdraw number) = codes "withdraw number " ++ decimal number
words (amend number price quantity) =
    codes "amend number " ++ (decimal number ++ (codes " price " ++ (decimal price ++ (codes " quantity " ++ decimal quantity))))

-- the line of the k-th record, which stands at place i
abbrev pub line : ℕ → ℕ → Record → List ℕ
line k i c = decimal k ++ (codes " at " ++ (decimal i ++ (codes " " ++ (words c ++ (10 ∷ [])))))

-- the lines of the k-th record and those behind it, from place i on
abbrev pub lines : ℕ → ℕ → List Record → List ℕ
lines k i [] = []
lines k i (c ∷ cs) = line k i c ++ lines (k + 1) (i + width c) cs

-- the records stand on the tape from its front, and it ends so
abbrev pub Holds : List ℕ → List Record → End → Type 0
Holds tape cs end = Stand tape 0 cs end.place × (end.count ≡ length cs) × Ends tape end.place end.fault

-- what a listing says of a tape; one over 65,535 bytes is not read at all
abbrev pub Listed : List ℕ → List Record → End → Type 0
Listed tape cs end =
    MatchBool (nat_le (length tape) 65535) (Holds tape cs end) ((cs ≡ []) × (end ≡ record { count = 0; place = 0; fault = Some OutOfBounds }))

-- text is the listing of a tape
abbrev pub Listing : List ℕ → List ℕ → Type 0
Listing tape text = (cs : List Record) × (end : End) × Listed tape cs end × (text ≡ lines 1 0 cs ++ (closing end ++ (10 ∷ [])))
