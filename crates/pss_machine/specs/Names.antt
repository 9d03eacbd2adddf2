-- What the words of a command name in a schema.
use Rattle.std.specs.Prelude.{ℕ, ◌+◌, ◌||◌, List, ◌∷◌, ◌++◌, find, position, Option, None, Bool, false}
use Rattle.std.specs.Option.{option_map, option_or}
use Rattle.std.specs.Str.{bytes_eq}
use Rattle.type_layout.specs.declared.home.HomeNo.{HomeNo}
use Rattle.type_layout.specs.declared.key.KeyNo.{KeyNo}
use Rattle.type_layout.specs.declared.schema.Factory.{Factory}
use Rattle.type_layout.specs.declared.schema.Home.{Home}
use Rattle.type_layout.specs.Scopes.{Provided}
use Rattle.type_layout.specs.declared.schema.Schema.{Schema}
use Rattle.type_layout.specs.Schemas.{given, home_at, key_at, members_at, keys_at}

-- the word is the home's scoped name, with or without `::` in front
abbrev pub is_name_of : List ℕ → Home → Bool
is_name_of word home = bytes_eq word home.name || bytes_eq word (58 ∷ 58 ∷ home.name)

-- the word is a catalog's scoped name, `.`, and the name of what it provides
abbrev pub is_name_in : List ℕ → Provided → Bool
is_name_in word provided = bytes_eq word (provided.catalog ++ 46 ∷ provided.name)

-- the storage home that a word names
abbrev pub home_named : Schema → List ℕ → Option HomeNo
home_named S word =
    option_or
    (option_map (λ n. record { 0 = n + 1 }) (position (is_name_of word) S.homes))
    (option_map (λ provided. provided.home) (find (is_name_in word) S.provided))

-- the home's key of a name
abbrev pub key_named : Schema → HomeNo → List ℕ → Option KeyNo
key_named S h word = find (λ k. given (key_at S k) false (λ key. bytes_eq word key.name)) (keys_at S h)

-- the home's factory of a name
abbrev pub factory_named : Schema → HomeNo → List ℕ → Option Factory
factory_named S h word = given (home_at S h) None (λ home. find (λ factory. bytes_eq word factory.name) home.factories)

-- the number of the home's member of a name
abbrev pub member_named : Schema → HomeNo → List ℕ → Option ℕ
member_named S h word = position (λ member. bytes_eq word member.name) (members_at S h)
