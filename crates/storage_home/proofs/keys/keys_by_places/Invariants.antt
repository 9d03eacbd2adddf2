use Rattle.std.proofs.Common.{◌≡◌, map, take}
use Rattle.type_layout.specs.Keys.{key_bytes}
use Rattle.storage_home.specs.Applied.{SpellsObject}
use Rattle.storage_home.proofs.keys.keys_by_places.Given as goal

abbrev pub invariant-loop-key : goal.invariant-loop-key
invariant-loop-key l = (s : SpellsObject l.places.schema.now l.places.home l.places.bytes.now) → l.values ≡ map (λ k. (k, key_bytes l.places.schema.now k s.values)) (take l.key-index l.keys)
