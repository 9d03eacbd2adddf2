use Rattle.std.proofs.Common.{◌≡◌, ◌+◌, ◌-◌, arith, ap, sym, length}
use Rattle.psdl_directory.specs.inner.Scopes.{outer}
use Rattle.psdl_directory.proofs.Rows.{path-zero, outer-is, length-paths_of}
use Rattle.psdl_directory.proofs.scopes.Scopes.outer.Goals as goal

pub returns-then-scope-eq0-clause-path : goal.returns-then-scope-eq0-clause-path
returns-then-scope-eq0-clause-path c = rw (← c.self.view_is, c.if-scope-eq0.true) (ap outer (sym (path-zero c.self.inside.rows.items)))

pub index-requires : goal.index-requires
index-requires c =
    let len : length c.args.self.now ≡ length c.self.inside.rows.items + 1 = rw (← c.self.view_is) (length-paths_of c.self.inside.rows.items) in
    omega (arith, len)

pub returns-clause-path : goal.returns-clause-path
returns-clause-path c =
    let len : length c.args.self.now ≡ length c.self.inside.rows.items + 1 = rw (← c.self.view_is) (length-paths_of c.self.inside.rows.items) in
    rw (← c.self.view_is, c.index.ensures) (outer-is c.self.inside.rows.items c.args.scope c.index.result.now c.self.invariant.parents (omega arith) (omega (arith, len)))

pub returns-clause-lower : goal.returns-clause-lower
returns-clause-lower c =
    let len : length c.args.self.now ≡ length c.self.inside.rows.items + 1 = rw (← c.self.view_is) (length-paths_of c.self.inside.rows.items) in
    rw c.index.ensures (omega (arith, c.self.invariant.parents (c.args.scope - 1) c.index.result.now (omega (arith, len))))
