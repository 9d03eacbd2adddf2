use Rattle.std.proofs.Common.{ℕ, true, refl, subst, sym, rules}
use Rattle.std.specs.BTreeMap.{BTreeMap}
use Rattle.storage_home.specs.declared.extents.Block.{Block}
use Rattle.storage_home.specs.Extents.{KeepsHeld, TurnsEntered}
use Rattle.storage_home.proofs.Marking.{last_is, found_last, updated_last, held_same, entered_too}
use Rattle.storage_home.proofs.extents.enter_last.Goals as goal

pub returns-in-Some-clause-held : goal.returns-in-Some-clause-held
returns-in-Some-clause-held c =
    let same = last_is _ _ (sym c.in-Some.ensures.key) c.requires in
    subst (λ (m : BTreeMap ℕ Block). KeepsHeld c.args.extent.now.entries m.entries) (sym (c.extent-in-Some-1.given.1 (sym c.in-Some.ensures.same_map)))
    (held_same c.args.extent.now.entries _ c.args.serial (search rules) c.into_mut-block.result.now (record { entered = c.with_bit-block.result; held = c.into_mut-block.result.now.held })
    (found_last c.args.extent.now.entries _ c.args.serial _ _ same c.into_mut-block.ensures.value c.in-Some.ensures.value.1) (updated_last _ _ _ _ _ same (c.in-Some.ensures.update.0 _).0) refl)

pub returns-in-Some-clause-entered : goal.returns-in-Some-clause-entered
returns-in-Some-clause-entered c =
    let same = last_is _ _ (sym c.in-Some.ensures.key) c.requires in
    subst (λ (m : BTreeMap ℕ Block). TurnsEntered c.args.extent.now.entries m.entries c.args.serial true) (sym (c.extent-in-Some-1.given.1 (sym c.in-Some.ensures.same_map)))
    (entered_too c.args.extent.now.entries _ c.args.serial (search rules) c.into_mut-block.result.now (record { entered = c.with_bit-block.result; held = c.into_mut-block.result.now.held })
    (found_last c.args.extent.now.entries _ c.args.serial _ _ same c.into_mut-block.ensures.value c.in-Some.ensures.value.1) (updated_last _ _ _ _ _ same (c.in-Some.ensures.update.0 _).0) refl c.with_bit-block.ensures)
