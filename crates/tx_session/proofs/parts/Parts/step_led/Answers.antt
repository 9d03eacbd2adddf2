use Rattle.std.proofs.Common.{refl}
use Rattle.tx_session.proofs.References.{may_ask_led, step_is}
use Rattle.tx_session.proofs.parts.Parts.step_led.Goals as goal

pub is_led-requires-clause-may : goal.is_led-requires-clause-may
is_led-requires-clause-may c = may_ask_led c.requires.may c.args.to

pub returns : goal.returns
returns c m = step_is m _ _ (c.level_of.ensures m.act.sees.owner m.act.sees.there) c.in_ok-needs.ensures c.in_ok-there.there c.in_ok-there.ensures c.led.ensures refl
