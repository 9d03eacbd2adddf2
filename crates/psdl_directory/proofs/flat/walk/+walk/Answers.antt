use Rattle.std.proofs.Common.{◌∙◌, ap, refl, ◌++◌, ◌∷◌, map}
use Rattle.psdl_tree.specs.declared.definitions.Definition.TheViews.{out-Module}
use Rattle.psdl_tree.specs.Views.{definition_view, definitions_of}
use Rattle.psdl_directory.specs.Declarations.{Path, IsModule, declared, declared_by, declarations}
use Rattle.psdl_directory.specs.inner.Flattened.{all_in}
use Rattle.psdl_directory.specs.inner.Scopes.{path_at}
use Rattle.psdl_directory.proofs.Walked.{module_seen, one_then, definition_more}
use Rattle.psdl_directory.proofs.flat.walk.+walk.Goals as goal

pub add_definitions-loop-definition-preserved : goal.add_definitions-loop-definition-preserved
add_definitions-loop-definition-preserved t c =
    let before = c.loop-definition.invariant in
    let start = c.args.flat.now.scopes in
    record {
      grows = λ n l. let one = before.grows n l in let two = c.in_ok-add_definition.ensures.grows n one.0 in (two.0, two.1 ∙ one.1);
      so_far = definition_more (path_at start c.args.scope) c.args.definitions.now c.loop-definition.definition-index c.definition-item.result _ _ _ c.loop-definition-test.true c.definition-item.is before.so_far
          (c.in_ok-add_definition.ensures.declarations ∙ ap (λ (p : Path). all_in c.loop-definition.flat ++ declared_by p (definition_view c.definition-item.result)) (before.grows c.args.scope c.requires).1);
    }

pub add_module-returns-clause-declarations : goal.add_module-returns-clause-declarations
add_module-returns-clause-declarations t c =
    let x = c.args.«module».now in
    let id = (out-Module x).name in
    let path = path_at c.args.flat.now.scopes c.args.scope in
    rw (module_seen x)
    (one_then (all_in c.args.flat.now) (all_in c.open.new.flat) _ (all_in c.add_definitions.new.flat) (declared path IsModule id) (declarations (id.name ∷ path) (definitions_of (map definition_view (out-Module x).definitions.items)))
    c.in_ok-inner.ensures.declarations refl (rw (c.deref.ensures.value, c.in_ok-inner.ensures.path) at c.in_ok-add_definitions.ensures.declarations))
