use Rattle.std.proofs.Common.{◌∙◌, Option, ℕ, ap, sym}
use Rattle.psdl_directory.specs.Directories.{all_of}
use Rattle.psdl_directory.specs.Lookup.{below, first_of}
use Rattle.psdl_directory.specs.Spelled.{spelled_by}
use Rattle.psdl_directory.specs.inner.Scopes.{path_at}
use Rattle.psdl_directory.proofs.Outwards.{nowhere}
use Rattle.psdl_directory.proofs.Unspelled.{not_found}
use Rattle.psdl_directory.proofs.directory.Directory.called_outwards.Goals as goal

pub returns-in-Some : goal.returns-in-Some
returns-in-Some c = c.outwards.ensures c.args.name.now (sym c.in_ok-spelled.ensures ∙ c.in-Some.is)

pub returns-in-None : goal.returns-in-None
returns-in-None c =
    sym (nowhere (λ p. first_of (spelled_by c.args.spelling) (all_of c.args.self.now) c.args.limit p c.args.name.now)
    (λ p. ap (λ (o : Option ℕ). below c.args.limit o) (not_found c.args.self.now c.args.spelling c.args.name.now (sym c.in_ok-spelled.ensures ∙ c.in-None.is) p)) (path_at c.args.self.now.scopes c.args.scope))
