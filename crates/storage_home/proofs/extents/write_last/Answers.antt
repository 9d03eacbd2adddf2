use Rattle.std.proofs.Common.{ℕ, subst, sym, rules}
use Rattle.std.specs.Prelude.{◌||◌}
use Rattle.std.specs.BTreeMap.{BTreeMap}
use Rattle.storage_home.specs.declared.extents.Block.{Block}
use Rattle.storage_home.specs.Extents.{TurnsHeld, TurnsEntered}
use Rattle.storage_home.proofs.Marking.{last_is, found_last, updated_last, held_turned, entered_turned}
use Rattle.storage_home.proofs.extents.write_last.Goals as goal

pub returns-in-Some-clause-held : goal.returns-in-Some-clause-held
returns-in-Some-clause-held c =
    let same = last_is _ _ (sym c.in-Some.ensures.key) c.requires in
    subst (λ (m : BTreeMap ℕ Block). TurnsHeld c.args.extent.now.entries m.entries c.args.serial c.args.holds) (sym (c.extent-in-Some-1.given.1 (sym c.in-Some.ensures.same_map)))
    (held_turned c.args.extent.now.entries _ c.args.serial (search rules) c.into_mut-block.result.now (record { entered = c.with_mark-block.result; held = c.with_mark-block-in-Some.result })
    (found_last c.args.extent.now.entries _ c.args.serial _ _ same c.into_mut-block.ensures.value c.in-Some.ensures.value.1) (updated_last _ _ _ _ _ same (c.in-Some.ensures.update.0 _).0) c.args.holds c.with_mark-block-in-Some.ensures)

pub returns-in-Some-clause-entered : goal.returns-in-Some-clause-entered
returns-in-Some-clause-entered c =
    let same = last_is _ _ (sym c.in-Some.ensures.key) c.requires in
    subst (λ (m : BTreeMap ℕ Block). TurnsEntered c.args.extent.now.entries m.entries c.args.serial (c.args.enters || c.args.holds)) (sym (c.extent-in-Some-1.given.1 (sym c.in-Some.ensures.same_map)))
    (entered_turned c.args.extent.now.entries _ c.args.serial (search rules) c.into_mut-block.result.now (record { entered = c.with_mark-block.result; held = c.with_mark-block-in-Some.result })
    (found_last c.args.extent.now.entries _ c.args.serial _ _ same c.into_mut-block.ensures.value c.in-Some.ensures.value.1) (updated_last _ _ _ _ _ same (c.in-Some.ensures.update.0 _).0) c.args.enters c.args.holds c.with_mark-block.ensures c.with_mark-block-in-Some.ensures)
