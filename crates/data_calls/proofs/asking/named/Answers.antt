use Rattle.connector_parts.proofs.Bounds.{numbers_left}
use Rattle.data_calls.proofs.asking.named.Goals as goal

pub returns-in_err-number : goal.returns-in_err-number
returns-in_err-number c k at = (let none = numbers_left c.args.parts.now k at c.args.acting.session c.args.entry c.in_err-number.ensures in rw none c.from_residual.ensures)
