use Rattle.std.proofs.Common.{List, ℕ, [], ◌∷◌, ◌++◌, ap, ◌∙◌}
use Rattle.std.specs.List.{slice_get}
use Rattle.std.specs.Option.{option_and_then}
use Rattle.type_layout.specs.declared.scopes.Scope.{Scope}
use Rattle.type_layout.specs.Scopes.{behind}
use Rattle.psdl_directory.specs.Directories.{all_of}
use Rattle.psdl_directory.specs.Lookup.{at}
use Rattle.psdl_check.proofs.Catalogued.{catalog_scope}
use Rattle.psdl_check.proofs.provided_homes.add_scope.Goals as goal

pub returns-clause-scopes : goal.returns-clause-scopes
returns-clause-scopes c =
    let names = c.args.scopes.now in
    let d = c.args.directory.now in
    c.in_ok-push.ensures.ok ∙ ap (λ (s : Scope). names ++ behind (option_and_then (λ o. slice_get names o.0) s.outer) s.name ∷ []) c.in_ok-scope_of.ensures
    ∙ ap (λ (l : List ℕ). names ++ l ∷ [])
    (catalog_scope d names c.module_of-outer.result (at (all_of d) c.args.catalog) c.name.result.now c.requires c.module_of-outer.ensures.there c.module_of-outer.ensures.path c.name.ensures)
