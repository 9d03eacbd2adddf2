use Rattle.std.proofs.Common.{Some, sym, subst}
use Rattle.storage_home.specs.Applied.{AreKeysOf}
use Rattle.storage_home.proofs.KeyLists.{keys_of_home}
use Rattle.pss_recovery.specs.inner.Checks.{object_of}
use Rattle.pss_recovery.proofs.Additions.{home_there}
use Rattle.pss_recovery.proofs.checking.check_row.Goals as goal

pub returns-in-Ok-keys_of_record-clause-right : goal.returns-in-Ok-keys_of_record-clause-right
returns-in-Ok-keys_of_record-clause-right c =
    let S = c.args.schema.now in
    let object = object_of c.args.row.now c.in-Ok.values in
    record {
      object = object;
      stored = c.in-Ok.ensures.stored;
      refers = c.in-Ok.ensures.refers;
      keys_ = subst (AreKeysOf S (Some object)) (sym c.in-Ok-keys_of_record.ensures) (keys_of_home S object.values c.requires.sound object.home (home_there S c.args.row.now object c.in-Ok.ensures.stored));
    }
