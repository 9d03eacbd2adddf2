use Rattle.storage_home.proofs.Holding.{on_ok}
use Rattle.storage_home.proofs.LoadingRows.{may_load, loaded_on}
use Rattle.storage_home.proofs.parts.Parts.load.Goals as goal

pub load_object-requires : goal.load_object-requires
load_object-requires c = may_load c.args.schema.now c.requires.1.0 c.args.self.now c.args.row c.requires.0 c.requires.1.1 c.in-Some.bytes c.in-Some.is

pub returns-in-Some : goal.returns-in-Some
returns-in-Some c = on_ok c.load_object.result (λ after rest F m. loaded_on c.args.schema.now F c.args.self.now c.args.row rest m c.in-Some.bytes c.in-Some.is c.load_object.new.self after) c.load_object.ensures
