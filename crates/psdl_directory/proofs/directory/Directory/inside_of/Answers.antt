use Rattle.std.proofs.Common.{◌≡◌, ◌∷◌, ◌∙◌, ℕ, true, get_or, sym, ap}
use Rattle.std.proofs.lemmas.List.{length-map}
use Rattle.psdl_directory.specs.declared.declaration.Declaration.{Declaration as DeclarationNode}
use Rattle.psdl_directory.specs.declared.declaration.What.{What as WhatNode}
use Rattle.psdl_directory.specs.Declarations.{Declaration}
use Rattle.psdl_directory.specs.Directories.{all_of}
use Rattle.psdl_directory.specs.Lookup.{at}
use Rattle.psdl_directory.specs.Parts.{is_module}
use Rattle.psdl_directory.specs.inner.Nodes.{declaration_view, what_view}
use Rattle.psdl_directory.specs.inner.Placed.{IsPlaced}
use Rattle.psdl_directory.specs.inner.Scopes.{path_at}
use Rattle.psdl_directory.proofs.Agreeing.{at-view}
use Rattle.psdl_directory.proofs.Inside.{inside_found}
use Rattle.psdl_directory.proofs.directory.Directory.inside_of.Goals as goal

placed : (c : goal.In-Module) → IsPlaced c.args.self.now.scopes c.index-2.result.now
placed c = rw (c.index-2.ensures) (c.args.self.now.named.placed c.index.result c.index-2.result.now (rw (c.index.ensures) (rw length-map at c.requires)))

pub returns-in-Module-clause-there : goal.returns-in-Module-clause-there
returns-in-Module-clause-there c = ((placed c).inside c.in-Module.inner c.in-Module.is).0

pub returns-in-Module-clause-some : goal.returns-in-Module-clause-some
returns-in-Module-clause-some c = λ spelled limit name.
    let d = c.args.self.now in
    let node : DeclarationNode = c.index-2.result.now in
    let seen : at (all_of d) c.args.number ≡ declaration_view d.scopes node =
    at-view d.scopes d.declarations.items c.args.number node c.requires ∙ ap (λ (x : DeclarationNode). declaration_view d.scopes x) (ap (λ (i : ℕ). get_or d.declarations.items i node) (sym c.index.ensures) ∙ sym c.index-2.ensures) in
    let is : is_module (at (all_of d) c.args.number).what ≡ true = ap (λ (x : Declaration). is_module x.what) seen ∙ ap (λ (w : WhatNode). is_module (what_view w)) c.in-Module.is in
    inside_found spelled (all_of d) limit c.args.number name (path_at d.scopes c.in-Module.inner) is (((placed c).inside c.in-Module.inner c.in-Module.is).1 ∙ ap (λ (x : Declaration). x.name ∷ x.path) (sym seen))
