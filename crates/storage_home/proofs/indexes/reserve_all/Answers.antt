use Rattle.std.proofs.Common.{◌+◌, ◌≡◌, ◌∷◌, true, drop, sym, ap, subst, ◌∙◌}
use Rattle.std.proofs.lemmas.List.{drop_more}
use Rattle.storage_home.proofs.Holding.{turn_on}
use Rattle.storage_home.specs.Indexes.{TurnsKeyReservedAt}
use Rattle.storage_home.proofs.indexes.reserve_all.Goals as goal

pub loop-key-preserved : goal.loop-key-preserved
loop-key-preserved c =
    let front : drop c.loop-key.key-index c.args.pairs.now ≡ c.loop-key-item.result ∷ drop (c.loop-key.key-index + 1) c.args.pairs.now = drop_more c.args.pairs.now c.loop-key.key-index c.loop-key-item.result c.loop-key-test.true ∙ ap (λ p. p ∷ drop (c.loop-key.key-index + 1) c.args.pairs.now) (sym c.loop-key-item.is) in
    let reserved = subst (λ b. TurnsKeyReservedAt c.loop-key.indexes c.reserve.new.indexes c.loop-key-item.result.0.0 b true) c.as_slice.ensures c.in_ok-reserve.ensures.ok in (
      λ key q. c.reserve.ensures.found key q ∙ c.loop-key.invariant.0 key q,
      λ key q. turn_on _ _ c.loop-key-item.result true key q _ _ _ front (reserved key q) (c.loop-key.invariant.1 key q),
      λ key q before. c.reserve.ensures.stay key q (c.loop-key.invariant.2 key q before),
    )
