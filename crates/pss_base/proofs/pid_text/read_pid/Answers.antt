use Rattle.std.proofs.Common.{◌≡◌, length, arith}
use Rattle.pss_base.proofs.PidTexts.{pid_text_of}
use Rattle.pss_base.proofs.pid_text.read_pid.Goals as goal

pub returns-clause-text : goal.returns-clause-text
returns-clause-text c =
    let size : length c.args.text.now ≡ 24 = omega arith in
    pid_text_of c.args.text.now _ _ _ _ c.split_at.ensures.front c.split_at.ensures.back size c.in_ok-hex_number.ensures.value c.in_ok-hex_number-2.ensures.value
