use Rattle.std.proofs.Common.{◌≡◌, ◌∙◌, ◌++◌, ◌∷◌, [], List, ap, refl}
use Rattle.psdl_directory.specs.declared.declaration.Declaration.{Declaration as DeclarationNode}
use Rattle.psdl_directory.specs.declared.declaration.What.TheVariants as nodes
use Rattle.psdl_directory.specs.Declarations.{Declaration, IsModule, declared}
use Rattle.psdl_directory.specs.inner.Flattened.{all_in}
use Rattle.psdl_directory.specs.inner.Nodes.{declaration_view}
use Rattle.psdl_directory.specs.inner.Scopes.{path_at}
use Rattle.psdl_directory.proofs.Walked.{all_kept, views_kept}
use Rattle.psdl_directory.proofs.flat.walk.open.Goals as goal

pub invariant_of-flat : goal.invariant_of-flat
invariant_of-flat c = record { placed = all_kept c.args.flat.now.scopes c.open.new.self c.args.flat.now.declarations.items c.args.flat.now.placed c.open.ensures.kept }

pub returns-clause-declarations : goal.returns-clause-declarations
returns-clause-declarations c =
    let kept = views_kept c.args.flat.now.scopes c.open.new.self c.args.flat.now.declarations.items c.args.flat.now.placed c.open.ensures.kept in
    let outside : path_at c.open.new.self c.args.scope ≡ path_at c.args.flat.now.scopes c.args.scope = (c.open.ensures.kept c.args.scope c.requires).1 in
    let node : DeclarationNode = record { scope = c.args.scope; name = c.as_slice-name.result; place = c.args.identifier.now.place; what = nodes.Module c.in_ok-inner.inner } in
    let here : declaration_view c.open.new.self node ≡ declared (path_at c.args.flat.now.scopes c.args.scope) IsModule c.args.identifier.now = rw (c.as_slice-name.ensures, outside) refl in
    c.in_ok-push.ensures.declarations ∙ ap (λ (l : List Declaration). l ++ declaration_view c.open.new.self node ∷ []) kept ∙ ap (λ (d : Declaration). all_in c.args.flat.now ++ d ∷ []) here
