use Rattle.std.proofs.Common.{◌≡◌, length, arith}
use Rattle.psdl_standings.proofs.Numbered.{length-types_of}
use Rattle.psdl_standings.proofs.types.Types.len.Goals as goal

pub returns : goal.returns
returns c =
    let len : length c.args.self.now ≡ length c.self.inside.nodes.items = rw (← c.self.view_is) (length-types_of c.self.inside.nodes.items) in
    omega (arith, len)
