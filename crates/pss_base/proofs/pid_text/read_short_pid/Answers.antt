use Rattle.pss_base.proofs.PidTexts.{short_pid_read}
use Rattle.pss_base.proofs.pid_text.read_short_pid.Goals as goal

pub returns-clause-text : goal.returns-clause-text
returns-clause-text c = short_pid_read c.args.text.now c.hex_number.result c.if-text-ne-SERIAL_DIGITS.false c.hex_number.ensures.value
