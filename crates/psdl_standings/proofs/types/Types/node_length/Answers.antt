use Rattle.std.proofs.Common.{◌∙◌, ap, sym}
use Rattle.psdl_tree.specs.Views.{identifiers_view}
use Rattle.psdl_standings.specs.declared.types.Node.{Node}
use Rattle.psdl_standings.specs.TextLengths.{text_length}
use Rattle.psdl_standings.specs.inner.TypeNodes.{node_type}
use Rattle.psdl_standings.proofs.Lettering.{enumeration_length}
use Rattle.psdl_standings.proofs.types.Types.node_length.Goals as goal

pub returns-in-Enumeration : goal.returns-in-Enumeration
returns-in-Enumeration c = c.enumeration_length.ensures ∙ enumeration_length (identifiers_view c.in-Enumeration.enumerators.now).first (identifiers_view c.in-Enumeration.enumerators.now).others ∙ ap (λ (x : Node). text_length (node_type c.args.self.now x)) (sym c.in-Enumeration.is)
