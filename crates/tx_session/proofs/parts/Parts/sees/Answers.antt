use Rattle.tx_session.proofs.parts.Parts.sees.Goals as goal

pub returns : goal.returns
returns c m = c.is_true.ensures _ (c.in_ok-step.ensures m).answer
