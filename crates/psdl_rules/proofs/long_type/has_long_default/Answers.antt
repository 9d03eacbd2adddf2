use Rattle.std.proofs.Common.{Option, option_map, nat_lt, false, sym, ap, ◌∙◌}
use Rattle.type_layout.specs.Schemas.{given}
use Rattle.psdl_standings.specs.Extents.{Extent, extent_view}
use Rattle.psdl_rules.proofs.long_type.has_long_default.Goals as goal

pub returns-in-Some : goal.returns-in-Some
returns-in-Some c = c.is_over.ensures ∙ ap (λ (o : Option Extent). given o false (λ f. nat_lt 8000 (f 0))) (ap (option_map extent_view) (sym c.in-Some.is) ∙ c.record_extent.ensures)

pub returns-in-None : goal.returns-in-None
returns-in-None c = ap (λ (o : Option Extent). given o false (λ f. nat_lt 8000 (f 0))) (ap (option_map extent_view) (sym c.in-None.is) ∙ c.record_extent.ensures)
