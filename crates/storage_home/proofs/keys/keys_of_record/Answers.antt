use Rattle.std.proofs.Common.{ap, ◌∙◌}
use Rattle.storage_home.proofs.KeyLists.{pairs_of}
use Rattle.storage_home.proofs.Places.{take_end}
use Rattle.storage_home.proofs.keys.keys_of_record.Goals as goal

pub returns : goal.returns
returns c =
    c.loop-key.invariant
    ∙ ap (pairs_of c.args.schema.now c.args.values.now) (take_end c.keys_at-key-items.result.now c.loop-key.key-index c.loop-key-test.false ∙ c.keys_at-key-items.ensures)
