use Rattle.std.proofs.Common.{arith, take}
use Rattle.std.specs.Char.{is_digit}
use Rattle.std.proofs.lemmas.List.{length-take}
use Rattle.std.proofs.lemmas.List.Sums.{prefix_len-le-length}
use Rattle.psdl_tokens.proofs.character.digit_count.Goals as goal

pub returns-clause-within : goal.returns-clause-within
returns-clause-within c =
    rw (c.leading_digits.ensures, c.front.ensures)
    (omega (arith, prefix_len-le-length (λ digit. is_digit digit c.args.radix) (take c.args.most c.args.rest.now), length-take c.args.most c.args.rest.now))

pub returns-clause-few : goal.returns-clause-few
returns-clause-few c =
    rw (c.leading_digits.ensures, c.front.ensures)
    (omega (arith, prefix_len-le-length (λ digit. is_digit digit c.args.radix) (take c.args.most c.args.rest.now), length-take c.args.most c.args.rest.now))
