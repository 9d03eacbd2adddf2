use Rattle.std.proofs.Common.{◌≡◌, None, length, get_or, sym, ap, ◌∙◌, arith}
use Rattle.storage_home.specs.Cells.{cells_of}
use Rattle.storage_home.proofs.Bits.{cells_none}
use Rattle.storage_home.proofs.Places.{no_items}
use Rattle.storage_home.proofs.chunk.Chunk.is_empty.Goals as goal

pub returns : goal.returns
returns c e q =
    let none : length c.self.inside.rows.items ≡ 0 = grind (arith, e, c.is_empty.ensures, c.self.inside.rows.ok.0) in
    ap (λ l. get_or l q None) (sym c.self.view_is) ∙ ap (λ l. get_or (cells_of 64 c.self.inside.present l) q None) (no_items c.self.inside.rows.items none) ∙ cells_none 64 c.self.inside.present q
