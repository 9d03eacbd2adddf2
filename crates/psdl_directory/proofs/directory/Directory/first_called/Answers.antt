use Rattle.std.proofs.Common.{◌∙◌, Option, ℕ, ap, sym}
use Rattle.psdl_directory.specs.Lookup.{below}
use Rattle.psdl_directory.specs.inner.Scopes.{path_at}
use Rattle.psdl_directory.proofs.Unspelled.{not_found}
use Rattle.psdl_directory.proofs.directory.Directory.first_called.Goals as goal

pub returns-in-Some : goal.returns-in-Some
returns-in-Some c = c.first_of.ensures.first c.args.name.now (sym c.in_ok-spelled.ensures ∙ c.in-Some.is)

pub returns-in-None : goal.returns-in-None
returns-in-None c = sym (ap (λ (o : Option ℕ). below c.args.limit o) (not_found c.args.self.now c.args.spelling c.args.name.now (sym c.in_ok-spelled.ensures ∙ c.in-None.is) (path_at c.args.self.now.scopes c.args.scope)))
