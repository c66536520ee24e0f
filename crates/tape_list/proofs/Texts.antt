-- The texts of accounts.
use Rattle.std.proofs.Common.{◌≡◌, ℕ, ◌+◌, ◌-◌, ◌^◌, ◌<◌, true, false, List, [], ◌∷◌, ◌++◌, length, get_or, take, sym, ap, append_assoc, append-nil, arith}
use lib.Utf8.{encode}
use Rattle.std.specs.Fmt.{digits, padded_integral, format_spec}
use Rattle.std.proofs.lemmas.Fmt.{hex_byte}
use Rattle.std.proofs.lemmas.List.{take_more}
use Rattle.std.proofs.lemmas.Str.Ascii.{encode_ascii}
use Rattle.std.proofs.lemmas.Bool.Decides.{nat_tests}
use Rattle.tape_list.specs.Listing.{plain, byte_text, account_text}

-- a visible character is shown as itself
pub plain_text : (b : ℕ) → plain b ≡ true → encode b ≡ byte_text b
plain_text b p = let low : b < 128 = grind (arith, nat_tests) in rw p (encode_ascii b low)

-- any other byte by its two digits
pub escaped_text : (b : ℕ) → b < 256 → plain b ≡ false → 92 ∷ 120 ∷ padded_integral (format_spec 32 0 4 2 (2 ^ 64 - 1)) false [] (digits 16 true b) ≡ byte_text b
escaped_text b fits p = rw p (ap (λ l. 92 ∷ 120 ∷ l) (hex_byte true b fits))

account-push : (xs : List ℕ) (b : ℕ) → account_text (xs ++ b ∷ []) ≡ account_text xs ++ byte_text b
account-push [] b = append-nil (byte_text b)
account-push (x ∷ xs) b = grind (arith, account-push xs b, append_assoc)

-- one byte more
pub account-more : (xs : List ℕ) (i : ℕ) → i < length xs → account_text (take i xs) ++ byte_text (get_or xs i 0) ≡ account_text (take (i + 1) xs)
account-more xs i h = rw (take_more xs i 0 h) (sym (account-push (take i xs) (get_or xs i 0)))
