use Rattle.std.proofs.Common.{sym, subst}
use Rattle.std.specs.FinMap.{insert}
use Rattle.storage_home.specs.Indexes.{AreKeysReserved}
use Rattle.storage_home.specs.Kept.{IsKept}
use Rattle.storage_home.specs.inner.Steps.{MayPutObject}
use Rattle.storage_home.proofs.LoadingRows.{loaded_keys, loaded_home, may_put_loaded, loaded_reserved}
use Rattle.storage_home.proofs.parts.Parts.load_object.Goals as goal

pub reserve_serial-requires-clause-there : goal.reserve_serial-requires-clause-there
reserve_serial-requires-clause-there c = loaded_home c.args.schema.now c.args.self.now c.args.serial c.args.object c.requires

pub put_object-requires : goal.put_object-requires
put_object-requires c =
    subst (MayPutObject c.reserve_keys.new.self c.args.serial c.args.object) (sym c.as_slice-3.ensures)
    (may_put_loaded c.args.schema.now c.args.self.now c.args.serial c.args.object c.requires c.reserve_keys.new.self
    (c.reserve_keys.ensures.kept c.args.schema.now c.requires.catalog (c.reserve_serial.ensures.kept c.args.schema.now c.requires.catalog c.requires.kept))
    c.in_ok-keys.keys
    (loaded_keys c.args.schema.now c.args.self.now c.args.serial c.args.object c.requires c.as_slice.result.now c.as_slice.ensures c.in_ok-keys.keys c.in_ok-keys.ensures)
    (loaded_reserved c.args.schema.now c.args.self.now c.args.serial c.args.object c.requires c.reserve_keys.new.self (c.reserve_keys.ensures.stay c.args.object.home c.args.serial c.in_ok-reserve_serial.ensures.ok))
    (subst (AreKeysReserved c.reserve_keys.new.self.keys) c.as_slice-2.ensures c.in_ok-reserve_keys.ensures.ok))

pub returns : goal.returns
returns c m =
    let after = subst (λ k. (p : MayPutObject c.reserve_keys.new.self c.args.serial c.args.object k) → IsKept p.schema (insert p.catalog c.args.serial p.object) c.put_object.new.self) c.as_slice-3.ensures c.put_object.ensures.kept in
    after
    (may_put_loaded c.args.schema.now c.args.self.now c.args.serial c.args.object m c.reserve_keys.new.self
    (c.reserve_keys.ensures.kept c.args.schema.now m.catalog (c.reserve_serial.ensures.kept c.args.schema.now m.catalog m.kept))
    c.in_ok-keys.keys
    (loaded_keys c.args.schema.now c.args.self.now c.args.serial c.args.object m c.as_slice.result.now c.as_slice.ensures c.in_ok-keys.keys c.in_ok-keys.ensures)
    (loaded_reserved c.args.schema.now c.args.self.now c.args.serial c.args.object m c.reserve_keys.new.self (c.reserve_keys.ensures.stay c.args.object.home c.args.serial c.in_ok-reserve_serial.ensures.ok))
    (subst (AreKeysReserved c.reserve_keys.new.self.keys) c.as_slice-2.ensures c.in_ok-reserve_keys.ensures.ok))
