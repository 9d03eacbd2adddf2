use Rattle.std.proofs.Common.{◌≡◌, ℕ, Option, sym, subst}
use Rattle.std.specs.Result.{IfOk}
use Rattle.psdl_directory.specs.Spelled.{spelled_by}
use Rattle.psdl_directory.proofs.directory.Directory.first_inside.Goals as goal

pub returns-in-Some : goal.returns-in-Some
returns-in-Some c = subst (λ (o : Option ℕ). IfOk c.first_called.result (λ r. r ≡ o)) (sym (c.in-Some.ensures.some (spelled_by c.args.spelling) c.args.limit c.args.name.now)) c.first_called.ensures

pub returns-in-None : goal.returns-in-None
returns-in-None c = sym (c.in-None.ensures.none (spelled_by c.args.spelling) c.args.limit c.args.name.now)
