use Rattle.std.proofs.Common.{arith}
use Rattle.pss_recovery.proofs.ChangeHeads.{none_in_few, none_where_short}
use Rattle.pss_recovery.proofs.head.read_head.Goals as goal

pub returns-then-octets-lt-RECORD : goal.returns-then-octets-lt-RECORD
returns-then-octets-lt-RECORD c = none_in_few c.args.octets.now (omega (arith, c.if-octets-lt-RECORD.true))

pub returns-then-octets-head : goal.returns-then-octets-head
returns-then-octets-head c =
    let head = c.head_of-head.result in
    let n = c.head_of-head.ensures.numbers in
    none_where_short c.args.octets.now head.home head.serial head.len n.home n.serial n.len c.head_of-head.ensures.spelled (omega (arith, c.if-octets-head.true, c.if-octets-lt-RECORD.false))
