use Rattle.std.proofs.Common.{List, ℕ, [], ◌∷◌, ◌++◌, ap, ◌∙◌}
use Rattle.std.specs.List.{slice_get}
use Rattle.std.specs.Option.{option_and_then}
use Rattle.type_layout.specs.declared.scopes.Scope.{Scope}
use Rattle.type_layout.specs.Scopes.{behind, scoped_names}
use Rattle.type_layout.proofs.Scoping.{scoped_names-push}
use Rattle.type_layout.proofs.scopes.Scopes.push.Goals as goal

pub returns-clause-ok : goal.returns-clause-ok
returns-clause-ok c =
    ap (λ (l : List Scope). scoped_names l) c.in_ok-push.ensures.items ∙ scoped_names-push c.self.inside.scopes.items c.args.scope
    ∙ ap (λ (l : List (List ℕ)). l ++ behind (option_and_then (λ o. slice_get l o.0) c.args.scope.outer) c.args.scope.name ∷ []) c.self.view_is
