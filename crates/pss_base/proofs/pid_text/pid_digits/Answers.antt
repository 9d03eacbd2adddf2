use Rattle.pss_base.proofs.PidTexts.{pid_again}
use Rattle.pss_base.proofs.pid_text.pid_digits.Goals as goal

pub returns-clause-reads : goal.returns-clause-reads
returns-clause-reads c = pid_again (record { home = c.args.home; serial = c.args.serial }) c.ranges.home.fits c.ranges.serial.fits
