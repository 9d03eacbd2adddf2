use Rattle.std.proofs.Common.{◌≡◌, ◌≤◌, true, refl, sym, ◌∙◌, get_or, arith}
use Rattle.std.specs.Char.{is_ascii_digit}
use Rattle.std.proofs.lemmas.List.Folds.{list_all_more}
use Rattle.script_text.proofs.NumberLaws.{digit_fits, digit_range, value_more}
use Rattle.script_text.proofs.parts.number_in_front.Goals as goal

pub loop-byte-preserved : goal.loop-byte-preserved
loop-byte-preserved c =
    let ds = c.args.text.now in
    let i = c.loop-byte.byte-index in
    let kept = c.loop-byte.invariant in
    let one : is_ascii_digit (get_or ds i 0) ≡ true = sym c.is_ascii_digit.ensures.value ∙ c.if-not-is_ascii_digit.false in
    let range = digit_range (get_or ds i 0) one in
    let low : c.from.result ≤ 9 = omega (arith, c.from.ensures, range.0, range.1) in
    record {
      at = omega (arith, kept.at);
      few = omega (arith, kept.few, c.if-len-eq-MOST_ENTRY_DIGITS.false);
      all = list_all_more is_ascii_digit ds i 0 c.loop-byte-test.true ∙ (rw (kept.all, one) refl);
      value = omega (arith, c.from.ensures, value_more ds i c.loop-byte.value c.loop-byte-test.true kept.value range.0 range.1);
      small = omega (arith, digit_fits c.loop-byte.value c.from.result i kept.small low);
    }
