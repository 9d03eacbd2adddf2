use Rattle.std.proofs.Common.{map, ap, arith}
use Rattle.psdl_tree.specs.Views.{expression_view, type_spec_view}
use Rattle.psdl_directory.specs.inner.Nodes.{what_view}
use Rattle.psdl_standings.proofs.Walking.{alias_first, alias_next}
use Rattle.psdl_standings.proofs.walk.Walk.alias_type.Goals as goal

pub returns-in_ok-found-in-Alias : goal.returns-in_ok-found-in-Alias
returns-in_ok-found-in-Alias c =
    let a = c.in-Alias in
    alias_first c.args.self.now c.spec.new.self c.args.number (what_view c.args.what) a.before (type_spec_view a.spec.now) (map expression_view a.field-2.now) c.in_ok-found-in-Alias.found (ap what_view a.is) (omega (arith, c.if-before-ne0.false)) c.in_ok-found-in-Alias.ensures

pub returns-then-before-ne0 : goal.returns-then-before-ne0
returns-then-before-ne0 c =
    let a = c.in-Alias in
    alias_next c.args.self.now c.args.number (what_view c.args.what) a.before (type_spec_view a.spec.now) (map expression_view a.field-2.now) c.args.last (ap what_view a.is) (omega (arith, c.if-before-ne0.true)) c.requires.there c.requires.last
