use Rattle.std.proofs.Common.{◌+◌, ◌≡◌, ◌∷◌, Some, false, drop, sym, ap, subst, ◌∙◌}
use Rattle.std.proofs.lemmas.List.{drop_more}
use Rattle.storage_home.proofs.Holding.{turn_on}
use Rattle.storage_home.specs.Indexes.{MayPut, TurnsFoundAt, TurnsKeyReservedAt}
use Rattle.storage_home.proofs.Indexing.{may_put_rest}
use Rattle.storage_home.proofs.indexes.put_all.Goals as goal

pub loop-key-preserved : goal.loop-key-preserved
loop-key-preserved c =
    let front : drop c.loop-key.key-index c.args.pairs.now ≡ c.loop-key-item.result ∷ drop (c.loop-key.key-index + 1) c.args.pairs.now = drop_more c.args.pairs.now c.loop-key.key-index c.loop-key-item.result c.loop-key-test.true ∙ ap (λ p. p ∷ drop (c.loop-key.key-index + 1) c.args.pairs.now) (sym c.loop-key-item.is) in
    let found = subst (λ b. TurnsFoundAt c.loop-key.indexes c.put.new.indexes c.loop-key-item.result.0.0 b (Some c.args.serial)) c.as_slice.ensures c.put.ensures.found in
    let reserved = subst (λ b. TurnsKeyReservedAt c.loop-key.indexes c.put.new.indexes c.loop-key-item.result.0.0 b false) c.as_slice.ensures c.put.ensures.reserved in
    let may = subst (MayPut c.loop-key.indexes) front c.loop-key.invariant.2 in (
      λ key q. turn_on _ _ c.loop-key-item.result (Some c.args.serial) key q _ _ _ front (found key q) (c.loop-key.invariant.0 key q),
      λ key q. turn_on _ _ c.loop-key-item.result false key q _ _ _ front (reserved key q) (c.loop-key.invariant.1 key q),
      may_put_rest c.loop-key.indexes c.put.new.indexes c.loop-key-item.result c.args.serial _ found reserved may.2 may.3,
    )
