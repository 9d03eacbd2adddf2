use Rattle.psdl_standings.proofs.Toldly.{tells_of}
use Rattle.psdl_standings.specs.inner.Declared.{within}
use Rattle.std.proofs.Common.{None}
use Rattle.psdl_standings.proofs.walk.Walk.alias.Goals as goal

pub returns : goal.returns
returns c = tells_of c.args.self.now c.arrays.new.self (within c.args.number None) _ _ _ c.in_ok-found.found c.told_type.result c.in_ok-found.ensures c.told_type.ensures.is c.told_type.ensures.there
