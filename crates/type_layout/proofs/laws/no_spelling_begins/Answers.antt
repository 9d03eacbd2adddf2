use Rattle.type_layout.proofs.Records.{values_apart, records_apart}
use Rattle.type_layout.proofs.laws.no_spelling_begins.Goals as goal

pub returns-clause-values : goal.returns-clause-values
returns-clause-values c = values_apart

pub returns-clause-records : goal.returns-clause-records
returns-clause-records c = records_apart
