use Rattle.std.proofs.Common.{◌≡◌, ◌+◌, arith, length}
use Rattle.psdl_directory.proofs.Rows.{module-is, length-paths_of}
use Rattle.psdl_directory.proofs.scopes.Scopes.row_of.Goals as goal

pub index-requires-2 : goal.index-requires-2
index-requires-2 c =
    let len : length c.args.self.now ≡ length c.self.inside.rows.items + 1 = rw (← c.self.view_is) (length-paths_of c.self.inside.rows.items) in
    omega (arith, len, c.index.ensures)

pub returns-clause-path : goal.returns-clause-path
returns-clause-path c =
    let len : length c.args.self.now ≡ length c.self.inside.rows.items + 1 = rw (← c.self.view_is) (length-paths_of c.self.inside.rows.items) in
    rw (← c.self.view_is, c.index-2.ensures, c.index.ensures) (module-is c.self.inside.rows.items c.args.number c.index-2.result.now c.self.invariant.parents (omega (arith, len)))

pub returns-clause-lower : goal.returns-clause-lower
returns-clause-lower c =
    let len : length c.args.self.now ≡ length c.self.inside.rows.items + 1 = rw (← c.self.view_is) (length-paths_of c.self.inside.rows.items) in
    rw (c.index-2.ensures, c.index.ensures) (omega (arith, c.self.invariant.parents c.args.number c.index-2.result.now (omega (arith, len))))
