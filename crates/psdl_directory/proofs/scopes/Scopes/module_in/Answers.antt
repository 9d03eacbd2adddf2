use Rattle.std.proofs.Common.{sym}
use Rattle.psdl_directory.proofs.Rows.{path-zero}
use Rattle.psdl_directory.proofs.scopes.Scopes.module_in.Goals as goal

pub returns-then-scope-eq0-clause-path : goal.returns-then-scope-eq0-clause-path
returns-then-scope-eq0-clause-path c = rw (← c.self.view_is, c.if-scope-eq0.true) (sym (path-zero c.self.inside.rows.items))
