use Rattle.std.proofs.Common.{arith}
use Rattle.pss_recovery.proofs.BodyParts.{count_of}
use Rattle.pss_recovery.proofs.decoding.decode_body.Goals as goal

pub returns-then-count-gt-MOST_CHANGES-clause-only : goal.returns-then-count-gt-MOST_CHANGES-clause-only
returns-then-count-gt-MOST_CHANGES-clause-only c = λ _ other s few.
    let same = count_of c.args.octets.now other c.read_number4-count.result (omega arith) c.read_number4-count.ensures.octets s in
    omega (arith, same, few, c.if-count-gt-MOST_CHANGES.true)
