use Rattle.std.proofs.Common.{◌≡◌, ◌+◌, length, arith}
use Rattle.psdl_directory.proofs.Rows.{length-paths_of}
use Rattle.psdl_directory.proofs.scopes.Scopes.modules.Goals as goal

pub returns : goal.returns
returns c =
    let len : length c.args.self.now ≡ length c.self.inside.rows.items + 1 = rw (← c.self.view_is) (length-paths_of c.self.inside.rows.items) in
    omega (arith, len)
