use Rattle.std.proofs.Common.{refl}
use Rattle.std.proofs.lemmas.Bool.{false≢true}
use Rattle.pss_recovery.proofs.Holders.{held, not_held}
use Rattle.pss_recovery.proofs.keys.is_held.Goals as goal

pub returns-in-Some : goal.returns-in-Some
returns-in-Some c = λ S M kept. ((λ _. held S M c.args.homes.now kept c.args.key c.args.bytes.now c.in-Some.field-0 (c.in-Some.ensures S M kept)), λ _. refl)

pub returns-in-None : goal.returns-in-None
returns-in-None c = λ S M kept. ((λ e. absurd (false≢true e)), λ h. absurd (not_held S M c.args.homes.now kept c.args.key c.args.bytes.now (c.in-None.ensures S M kept) h))
