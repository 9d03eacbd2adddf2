-- Keys with the bytes that they have in records.
use Rattle.std.specs.Prelude.{ℕ, List, [], map, Option}
use Rattle.type_layout.specs.declared.key.KeyNo.{KeyNo}
use Rattle.type_layout.specs.declared.schema.Schema.{Schema}
use Rattle.type_layout.specs.Types.{PlainValue}
use Rattle.type_layout.specs.Keys.{key_bytes}
use Rattle.type_layout.specs.Schemas.{given, keys_at}
use Rattle.pss_catalog.specs.Catalog.{Object}
use Rattle.pss_machine.specs.declared.lock.Need.{Need}
use Rattle.pss_machine.specs.declared.lock.Mode.TheVariants.{X as Write}
use Rattle.pss_machine.specs.Needs.{key_need}

-- a key with its bytes
abbrev pub Pair : Type 0
Pair = KeyNo × List ℕ

abbrev pub keyed : Schema → List PlainValue → List KeyNo → List Pair
keyed S values keys = map (λ k. (k, key_bytes S k values)) keys

-- all keys of an object
abbrev pub all_keyed : Schema → Object → List Pair
all_keyed S object = keyed S object.values (keys_at S object.home)

abbrev pub key_needs : List Pair → List Need
key_needs pairs = map (λ p. key_need Write p.0 p.1) pairs

-- the keys of an object that is there, none of one that is not
abbrev pub keys_of : Schema → Option Object → List Pair
keys_of S state = given state [] (all_keyed S)
