use Rattle.pss_recovery.proofs.Joins.{kept_sound, makes_step}
use Rattle.pss_recovery.proofs.changing.change_of.Goals as goal

pub old_keys-requires-clause-kept : goal.old_keys-requires-clause-kept
old_keys-requires-clause-kept c = (c.requires.0, kept_sound c.args.schema.now c.requires.0 c.args.homes.now c.requires.1)

pub returns-in-Ok-Some-new_keys-clause-found : goal.returns-in-Ok-Some-new_keys-clause-found
returns-in-Ok-Some-new_keys-clause-found c = λ M kept.
    let known = kept_sound c.args.schema.now M c.args.homes.now kept in
    makes_step c.args.schema.now M c.args.next (record { put = c.args.put; old_keys = c.in-Ok-Some.keys; new_keys = c.in-Ok-Some-new_keys.new_keys })
    ((rw c.in-Ok-Some.field-0-is at c.in-Ok-Some.ensures.keys) M known)
    ((rw c.in-Ok-Some.field-0-is at c.in-Ok-Some.ensures.may) M known)
    (rw c.in-Ok-Some-new_keys.field-0-is at c.in-Ok-Some-new_keys.ensures.keys)
