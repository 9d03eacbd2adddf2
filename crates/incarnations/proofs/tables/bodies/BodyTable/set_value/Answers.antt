use Rattle.incarnations.specs.Records.{with_value}
use Rattle.incarnations.proofs.Keys.{body_key, same_name, name_ties}
use Rattle.recent_table.proofs.Hashed.{there, never, written}
use Rattle.incarnations.proofs.tables.bodies.BodyTable.set_value.Goals as goal

pub unreachable-requires : goal.unreachable-requires
unreachable-requires c = never body_key same_name name_ties c.self.inside.table _ c.self.view_is c.args.name c.requires c.in-None.ensures.value

pub returns : goal.returns
returns c =
    written body_key same_name name_ties c.self.inside.table _ c.self.view_is c.args.name _ (with_value c.args.value) c.in-Some.body.now c.in-Some.ensures.value (c.get_mut.follows.holds (with_value c.args.value c.in-Some.body.now) (there body_key same_name name_ties c.self.inside.table _ c.self.view_is c.args.name c.requires))
