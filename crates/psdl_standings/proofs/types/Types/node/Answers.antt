use Rattle.std.proofs.Common.{◌≡◌, length, sym, arith}
use Rattle.psdl_standings.proofs.Numbered.{length-types_of, type_is}
use Rattle.psdl_standings.proofs.types.Types.node.Goals as goal

pub index-requires : goal.index-requires
index-requires c =
    let len : length c.args.self.now ≡ length c.self.inside.nodes.items = rw (← c.self.view_is) (length-types_of c.self.inside.nodes.items) in
    omega (arith, len)

pub returns-clause-made : goal.returns-clause-made
returns-clause-made c =
    let len : length c.args.self.now ≡ length c.self.inside.nodes.items = rw (← c.self.view_is) (length-types_of c.self.inside.nodes.items) in
    rw c.index.ensures (c.self.invariant.made c.args.number c.index.result.now (omega (arith, len)))

pub returns-clause-makes : goal.returns-clause-makes
returns-clause-makes c =
    let len : length c.args.self.now ≡ length c.self.inside.nodes.items = rw (← c.self.view_is) (length-types_of c.self.inside.nodes.items) in
    rw (← c.self.view_is, c.index.ensures) (sym (type_is c.self.inside.nodes.items c.args.number c.index.result.now c.self.invariant.made (omega (arith, len))))
