use Rattle.std.proofs.Common.{arith, subst, sym}
use Rattle.page_format.specs.inner.Packing.{AreFilledUpTo}
use Rattle.page_format.proofs.Answered.{told_both}
use Rattle.page_format.proofs.Filling.{filled_begun, filled_put}
use Rattle.page_format.proofs.packing.add.Goals as goal

pub begin-requires-clause-used : goal.begin-requires-clause-used
begin-requires-clause-used c = sym c.requires.so_far.packed.used_

pub returns-then-filling-size-gt-MOST_USED-clause-filled : goal.returns-then-filling-size-gt-MOST_USED-clause-filled
returns-then-filling-size-gt-MOST_USED-clause-filled c =
    told_both c.begin.result c.begin.ensures.filling c.begin.ensures.closed (λ new is closed.
    subst (AreFilledUpTo c.args.puts.now c.begin.new.pages.items) (sym is)
    (filled_begun c.args.puts.now c.args.pages.now.items c.begin.new.pages.items c.args.filling c.args.put.now c.size_of-size.result c.size_of-size.ensures (omega (arith, c.size_of-size.ensures, c.requires.short)) closed c.requires.there c.requires.next c.if-filling-size-gt-MOST_USED.true c.requires.so_far))

pub returns-clause-filled : goal.returns-clause-filled
returns-clause-filled c = filled_put c.args.puts.now _ c.args.filling c.args.put.now c.size_of-size.result c.row_with.result c.row_with.ensures c.size_of-size.ensures c.requires.there c.requires.next (omega (arith, c.if-filling-size-gt-MOST_USED.false)) c.requires.so_far
