use Rattle.std.proofs.Common.{rules}
use Rattle.cdr_codec.proofs.NumberValues.{all_pads}
use Rattle.cdr_codec.proofs.numbers.pads_of.Goals as goal

pub returns-then-are_padding-clause-given : goal.returns-then-are_padding-clause-given
returns-then-are_padding-clause-given c =
    let there = c.in-Some.ensures.lookup.0 in
    all_pads c.args.count c.args.bytes.now c.args.at c.in-Some.octets.now there.1 there.2 there.3 (c.if-are_padding.ensures (search rules))
