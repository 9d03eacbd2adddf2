use Rattle.std.proofs.Common.{◌≡◌, ◌+◌, arith, length}
use Rattle.psdl_directory.proofs.Rows.{length-paths_of, path-zero}
use Rattle.psdl_directory.proofs.scopes.Scopes.root.Goals as goal

pub returns-clause-there : goal.returns-clause-there
returns-clause-there c =
    let len : length c.args.self.now ≡ length c.self.inside.rows.items + 1 = rw (← c.self.view_is) (length-paths_of c.self.inside.rows.items) in
    omega (arith, len)

pub returns-clause-path : goal.returns-clause-path
returns-clause-path c = rw (← c.self.view_is) (path-zero c.self.inside.rows.items)
