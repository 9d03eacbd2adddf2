use Rattle.std.proofs.Common.{◌+◌, ◌∷◌, drop, sym, ap, subst, ◌∙◌}
use Rattle.std.proofs.lemmas.List.{drop_more}
use Rattle.storage_home.specs.Applied.{AreNamed, AreReserved}
use Rattle.storage_home.proofs.Places.{drop_end}
use Rattle.storage_home.proofs.Naming.{placed, change_stays}
use Rattle.storage_home.proofs.parts.Parts.reserve_changes.Goals as goal

pub reserve_change-requires : goal.reserve_change-requires
reserve_change-requires c =
    let front = drop_more c.args.changes.now c.loop-change.change-index c.change-item.result c.loop-change-test.true ∙ ap (λ p. p ∷ drop (c.loop-change.change-index + 1) c.args.changes.now) (sym c.change-item.is) in
    placed c.requires.schema c.requires.catalog c.loop-change.self (c.loop-change.invariant.0 c.requires.schema c.requires.catalog c.requires.kept) c.change-item.result
    (subst (AreNamed c.requires.schema) front (c.loop-change.invariant.3 c.requires.schema c.requires.named)).0

pub loop-change-preserved : goal.loop-change-preserved
loop-change-preserved c =
    let front = drop_more c.args.changes.now c.loop-change.change-index c.change-item.result c.loop-change-test.true ∙ ap (λ p. p ∷ drop (c.loop-change.change-index + 1) c.args.changes.now) (sym c.change-item.is) in (
      λ S M kept. c.reserve_change.ensures.kept S M (c.loop-change.invariant.0 S M kept),
      λ home s reserved. c.reserve_change.ensures.stay home s (c.loop-change.invariant.1 home s reserved),
      λ key bytes reserved. c.reserve_change.ensures.keys_stay key bytes (c.loop-change.invariant.2 key bytes reserved),
      λ S named. (subst (AreNamed S) front (c.loop-change.invariant.3 S named)).1,
      λ later stay keys rest.
          c.loop-change.invariant.4 later (λ home s reserved. stay home s (c.reserve_change.ensures.stay home s reserved)) (λ key bytes reserved. keys key bytes (c.reserve_change.ensures.keys_stay key bytes reserved))
          (subst (AreReserved later) (sym front) (change_stays c.reserve_change.new.self later c.change-item.result stay keys c.in_ok-reserve_change.ensures.ok, rest)),
    )

pub returns-clause-ok : goal.returns-clause-ok
returns-clause-ok c =
    c.loop-change.invariant.4 c.loop-change.self (λ home s reserved. reserved) (λ key bytes reserved. reserved) (subst (AreReserved c.loop-change.self) (sym (drop_end c.args.changes.now c.loop-change.change-index c.loop-change-test.false)) tt)
