-- What is read of a slice.
use Rattle.std.proofs.Common.{◌≡◌, ℕ, length, List, Some, None, Option, sym, refl}
use Rattle.std.specs.Option.{option_copied}
use Rattle.std.specs.List.{slice_get}
use Rattle.std.specs.Slice.{IsItemAt}
use Rattle.std.proofs.lemmas.Option.{slice_get_past, slice_get_read}
use denote.Ref.{Bor}

-- what `get` lends, copied
pub copied-item : {X : Type 0} (xs : List X) (i : ℕ) (r : Option (Bor X)) → IsItemAt xs i r → option_copied r ≡ slice_get xs i
copied-item xs i None h = sym (slice_get_past xs i h.3)
copied-item xs i (Some x) h = sym (slice_get_read xs (length xs) i x.now refl h.3.0 h.1)
