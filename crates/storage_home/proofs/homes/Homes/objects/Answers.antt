use Rattle.storage_home.proofs.Few.{few_objects}
use Rattle.storage_home.proofs.homes.Homes.objects.Goals as goal

pub returns-clause-few : goal.returns-clause-few
returns-clause-few c = few_objects c.self.inside.parts c.self.invariant
