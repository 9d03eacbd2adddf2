use Rattle.value_text.proofs.Standing.{one_is_spelled, one_stands}
use Rattle.value_text.proofs.laws.one_value.Goals as goal

pub returns-clause-spells : goal.returns-clause-spells
returns-clause-spells c = one_is_spelled

pub returns-clause-stands : goal.returns-clause-stands
returns-clause-stands c = one_stands
