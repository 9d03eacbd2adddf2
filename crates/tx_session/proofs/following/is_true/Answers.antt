use Rattle.tx_session.proofs.References.{plain_truth}
use Rattle.tx_session.proofs.following.is_true.Goals as goal

pub returns-in_default : goal.returns-in_default
returns-in_default c b is = absurd (c.in_default.not-Truth b (plain_truth c.args.answer.now b is))
