use Rattle.psdl_tree.specs.Views.{struct_view}
use Rattle.psdl_standings.proofs.Toldly.{told_of_struct}
use Rattle.psdl_standings.proofs.walk.Walk.told_struct.Goals as goal

pub returns : goal.returns
returns c =
    told_of_struct c.args.self.now c.structure.new.self c.args.number c.own.result (struct_view c.args.structure.now) c.in_ok-found.found c.told_type.result c.own.ensures c.in_ok-found.ensures c.told_type.ensures.is c.told_type.ensures.there
