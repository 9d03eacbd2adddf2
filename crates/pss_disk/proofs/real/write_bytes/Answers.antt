use Rattle.std.proofs.Common.{refl}
use Rattle.pss_disk.proofs.Spoken.{appends_then, next_front}
use Rattle.pss_disk.proofs.real.write_bytes.Goals as goal

pub returns-in-Ok-2-clause-written : goal.returns-in-Ok-2-clause-written
returns-in-Ok-2-clause-written g c = appends_then _ _ _ _ _ _ (next_front c.in-Ok.count c.write_front.result _ c.args.bytes.now refl) c.in-Ok.ensures.bytes c.write_front.ensures.written
