use Rattle.std.proofs.Common.{◌+◌, ◌∷◌, drop, refl, sym, ap, subst, ◌∙◌}
use Rattle.std.specs.FinMap.{remove}
use Rattle.std.proofs.lemmas.List.{drop_more}
use Rattle.storage_home.specs.Kept.{IsKept}
use Rattle.storage_home.specs.inner.Steps.{MayTake, MayTakeAll}
use Rattle.storage_home.proofs.Places.{drop_end}
use Rattle.storage_home.proofs.Stepping.{may_take, taken_on, all_taken}
use Rattle.storage_home.proofs.parts.Parts.take_changed.Goals as goal

pub loop-change-init : goal.loop-change-init
loop-change-init c = (λ S F m. m, λ home s reserved. reserved, λ key bytes. refl)

pub take_object-requires : goal.take_object-requires
take_object-requires c =
    let front = drop_more c.args.changes.now c.loop-change.change-index c.change-item.result c.loop-change-test.true ∙ ap (λ p. p ∷ drop (c.loop-change.change-index + 1) c.args.changes.now) (sym c.change-item.is) in
    let m = subst (MayTakeAll c.requires.0 c.requires.1 c.loop-change.self) front (c.loop-change.invariant.0 c.requires.0 c.requires.1 c.requires.2) in
    subst (MayTake c.loop-change.self c.change-item.result.put.serial) (sym c.as_slice.ensures) (may_take c.requires.0 c.requires.1 c.loop-change.self c.change-item.result _ m)

pub loop-change-preserved : goal.loop-change-preserved
loop-change-preserved c =
    let front = drop_more c.args.changes.now c.loop-change.change-index c.change-item.result c.loop-change-test.true ∙ ap (λ p. p ∷ drop (c.loop-change.change-index + 1) c.args.changes.now) (sym c.change-item.is) in
    let after = subst (λ k. (m : MayTake c.loop-change.self c.change-item.result.put.serial k) → IsKept m.schema (remove m.catalog c.change-item.result.put.serial) c.take_object.new.self) c.as_slice.ensures c.take_object.ensures.kept in (
      λ S F m. taken_on S F c.loop-change.self c.change-item.result _ c.take_object.new.self after (subst (MayTakeAll S F c.loop-change.self) front (c.loop-change.invariant.0 S F m)),
      λ home s reserved. c.take_object.ensures.reserved home s (c.loop-change.invariant.1 home s reserved),
      λ key bytes. c.take_object.ensures.keys key bytes ∙ c.loop-change.invariant.2 key bytes,
    )

pub returns-clause-kept : goal.returns-clause-kept
returns-clause-kept c S F m = all_taken S F c.loop-change.self (subst (MayTakeAll S F c.loop-change.self) (drop_end c.args.changes.now c.loop-change.change-index c.loop-change-test.false) (c.loop-change.invariant.0 S F m))

pub returns-clause-reserved : goal.returns-clause-reserved
returns-clause-reserved c = c.loop-change.invariant.1

pub returns-clause-keys : goal.returns-clause-keys
returns-clause-keys c = c.loop-change.invariant.2
