use Rattle.std.proofs.Common.{◌≡◌, ◌+◌, ◌-◌, arith, length}
use Rattle.psdl_directory.proofs.Rows.{path-is, length-paths_of}
use Rattle.psdl_directory.proofs.scopes.Scopes.row.Goals as goal

pub index-requires : goal.index-requires
index-requires c =
    let len : length c.args.self.now ≡ length c.self.inside.rows.items + 1 = rw (← c.self.view_is) (length-paths_of c.self.inside.rows.items) in
    omega (arith, len)

pub returns-clause-path : goal.returns-clause-path
returns-clause-path c =
    let len : length c.args.self.now ≡ length c.self.inside.rows.items + 1 = rw (← c.self.view_is) (length-paths_of c.self.inside.rows.items) in
    rw (← c.self.view_is, c.index.ensures) (path-is c.self.inside.rows.items c.args.scope c.index.result.now c.self.invariant.parents (omega arith) (omega (arith, len)))

pub returns-clause-lower : goal.returns-clause-lower
returns-clause-lower c =
    let len : length c.args.self.now ≡ length c.self.inside.rows.items + 1 = rw (← c.self.view_is) (length-paths_of c.self.inside.rows.items) in
    rw c.index.ensures (omega (arith, c.self.invariant.parents (c.args.scope - 1) c.index.result.now (omega (arith, len))))
