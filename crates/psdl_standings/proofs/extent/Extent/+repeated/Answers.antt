use Rattle.std.proofs.Common.{◌∙◌, arith}
use Rattle.psdl_standings.specs.Extents.{extent_view}
use Rattle.psdl_standings.proofs.Extents.{repeated_even, repeated_odd}
use Rattle.psdl_standings.proofs.extent.Extent.+repeated.Goals as goal

pub returns-then-count-eq0-2 : goal.returns-then-count-eq0-2
returns-then-count-eq0-2 t c = c.followed_by-even.ensures ∙ rw c.repeated-half.ensures (repeated_even (extent_view c.args.self) c.args.count (omega (arith, c.if-count-eq0-2.true)))

pub returns-else-count-eq0-2 : goal.returns-else-count-eq0-2
returns-else-count-eq0-2 t c =
    c.followed_by.ensures ∙ rw (c.followed_by-even.ensures, c.repeated-half.ensures) (repeated_odd (extent_view c.args.self) c.args.count (omega (arith, c.if-count-eq0-2.false)))
