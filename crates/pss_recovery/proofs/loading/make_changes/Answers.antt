use Rattle.pss_recovery.proofs.Additions.{all_named_too, may_apply}
use Rattle.pss_recovery.proofs.loading.make_changes.Goals as goal

pub reserve_for-requires : goal.reserve_for-requires
reserve_for-requires c = λ S M kept. all_named_too c.requires.schema S c.requires.catalog M c.args.homes.now c.requires.kept kept c.args.changes c.requires.named

pub apply_reserved-requires : goal.apply_reserved-requires
apply_reserved-requires c = may_apply c.args.homes.now c.reserve_for.new.self c.args.changes c.reserve_for.ensures.kept c.in_ok-reserve_for.ensures.ok c.requires

pub returns : goal.returns
returns c = λ m. c.apply_reserved.ensures (may_apply c.args.homes.now c.reserve_for.new.self c.args.changes c.reserve_for.ensures.kept c.in_ok-reserve_for.ensures.ok m)
