use Rattle.std.proofs.Common.{map, sym, ap, ◌∙◌, arith}
use Rattle.psdl_tree.specs.Views.{expression_view, type_spec_view}
use Rattle.psdl_directory.specs.Directories.{all_of}
use Rattle.psdl_directory.specs.inner.Nodes.{what_view}
use Rattle.psdl_standings.proofs.Deeply.{depth_next}
use Rattle.psdl_standings.proofs.nesting.alias_nesting.Goals as goal

pub returns-in-Alias : goal.returns-in-Alias
returns-in-Alias c =
    depth_next (all_of c.args.directory.now) c.args.levels.now c.args.number c.in-Alias.field-0 (type_spec_view c.in-Alias.field-1.now) (map expression_view c.in-Alias.field-2.now) c.args.last c.requires.turn c.requires.number
    (sym c.what.ensures ∙ ap what_view c.in-Alias.is) (omega (arith, c.in-Alias.field-0-test, c.in-Alias.field-0-is)) c.requires.last
