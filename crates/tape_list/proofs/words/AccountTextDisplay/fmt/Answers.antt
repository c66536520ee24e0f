use Rattle.std.proofs.Common.{◌≡◌, true, false, refl, get_or, rules, arith}
use Rattle.std.specs.Fmt.{HasWritten}
use Rattle.std.proofs.Output.{has_written_of_eq, has_written_append}
use Rattle.std.proofs.lemmas.Bool.Decides.{nat_tests}
use Rattle.tape_list.specs.Listing.{plain, byte_text}
use Rattle.tape_list.proofs.Texts.{plain_text, escaped_text, account-more}
use Rattle.tape_list.proofs.words.AccountTextDisplay.fmt.Goals as goal
use Rattle.tape_list.proofs.words.AccountTextDisplay.fmt.Goals.{then-is_ascii_graphic+then-byte-ne92+in_ok-write_char, else-is_ascii_graphic+in_ok-write}

pub loop-byte-preserved : goal.loop-byte-preserved
loop-byte-preserved g c is_plain =
    let xs = c.args.self.now.0.now in
    let b = get_or xs c.loop-byte.byte-index 0 in
    let before = c.loop-byte.invariant is_plain in
    let byte : HasWritten g.W.Write.write_str_gives c.loop-byte.f (byte_text b) c.if-is_ascii_graphic.f =
    elim c.if-is_ascii_graphic.branch [
      | then-is_ascii_graphic+then-byte-ne92+in_ok-write_char w ↦
          rw w.f-is (has_written_of_eq _ _ _ _ _ (plain_text b (search rules)) (w.in_ok-write_char.ensures.writes before.plain (refl {a = true})))
      | else-is_ascii_graphic+in_ok-write w ↦
          let escaped : plain b ≡ false = grind (arith, nat_tests, w.else-is_ascii_graphic.either) in
          let writes = rw (w.laid_out.ensures, w.in_radix.ensures) at w.in_ok-write.ensures.writes in
          rw w.f-is (has_written_of_eq _ _ _ _ _ (escaped_text b (omega arith) escaped) (writes before.plain (refl {a = true})))
    ] in
    has_written_of_eq _ _ _ _ _ (account-more xs c.loop-byte.byte-index c.loop-byte-test.true) (has_written_append _ _ _ _ _ _ before byte)
