use Rattle.pss_base.proofs.PidTexts.{short_pid_again}
use Rattle.pss_base.proofs.pid_text.append_short_pid.Goals as goal

pub returns-clause-reads : goal.returns-clause-reads
returns-clause-reads c = short_pid_again c.args.serial c.ranges.serial.fits
