use Rattle.std.proofs.Common.{◌∙◌, arith, sym}
use Rattle.std.specs.Cmp.Lexicographic.{bytes_decides}
use Rattle.page_format.proofs.Buffers.{part_inside}
use Rattle.page_format.proofs.page.has_zeros.Goals as goal

pub returns : goal.returns
returns c =
    let inside = part_inside 28 12 c.args.page.now (omega arith) in
    (λ t. inside ∙ (bytes_decides _ _).0 (sym c.eq.ensures ∙ t), λ s. c.eq.ensures ∙ (bytes_decides _ _).1 (sym inside ∙ s))
