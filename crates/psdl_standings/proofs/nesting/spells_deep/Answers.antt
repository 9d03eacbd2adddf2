use Rattle.std.proofs.Common.{map, sym, ap, ◌∙◌}
use Rattle.std.proofs.lemmas.List.{length-map}
use Rattle.psdl_tree.specs.Views.{expression_view, type_spec_view}
use Rattle.psdl_directory.specs.Directories.{all_of}
use Rattle.psdl_directory.specs.inner.Nodes.{what_view}
use Rattle.psdl_standings.proofs.Deeply.{deep_alias}
use Rattle.psdl_standings.proofs.nesting.spells_deep.Goals as goal

pub returns-in-Alias : goal.returns-in-Alias
returns-in-Alias c done e =
    let dimensions = c.in-Alias.dimensions.now in
    deep_alias (all_of c.args.directory.now) done c.args.levels.now c.args.number c.in-Alias.field-0 _ (type_spec_view c.in-Alias.field-1.now) (map expression_view dimensions) c.args.spec c.raised.result c.is_deep.result
    (sym c.what.ensures ∙ ap what_view c.in-Alias.is) e (sym (length-map dimensions expression_view)) c.requires.spec c.raised.ensures c.is_deep.ensures
