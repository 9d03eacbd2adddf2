use Rattle.std.proofs.Common.{◌≡◌, map, take}
use Rattle.type_layout.specs.Keys.{key_bytes}
use Rattle.storage_home.proofs.keys.keys_of_record.Given as goal

abbrev pub invariant-loop-key : goal.invariant-loop-key
invariant-loop-key l = l.pairs ≡ map (λ k. (k, key_bytes l.schema k l.values)) (take l.key-index l.key-items)
