use Rattle.std.proofs.Common.{Some, inr, sym, subst, ◌∙◌}
use Rattle.std.proofs.lemmas.Bool.{false≢true}
use Rattle.storage_home.specs.Applied.{AreKeysOf}
use Rattle.pss_recovery.proofs.loading.keys_of_row.Goals as goal

pub returns-then-are_free-clause-right : goal.returns-then-are_free-clause-right
returns-then-are_free-clause-right c = λ M kept.
    let S = c.args.schema.now in
    let is = c.in-Ok.ensures.right in
    record {
      object = is.object;
      stored = is.stored;
      refers = is.refers;
      keys_ = is.keys_;
      free = (c.are_free.ensures S M kept is.object (subst (AreKeysOf S (Some is.object)) (sym c.as_slice.ensures) is.keys_)).0 c.if-are_free.true;
    }

pub returns-else-are_free-clause-refused : goal.returns-else-are_free-clause-refused
returns-else-are_free-clause-refused c = λ k e.
    let S = c.args.schema.now in
    let is = c.in-Ok.ensures.right in
    inr
    (λ M kept.
    record {
      kind_ = (cc);
      object = is.object;
      stored = is.stored;
      refers = is.refers;
      held = λ free. false≢true (sym c.if-are_free.false ∙ (c.are_free.ensures S M kept is.object (subst (AreKeysOf S (Some is.object)) (sym c.as_slice.ensures) is.keys_)).1 free);
    })
