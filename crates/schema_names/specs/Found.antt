-- What words name, each kind by itself.
use Rattle.std.specs.Prelude.{ℕ, ◌+◌, ◌≡◌, List, ◌∷◌, ◌++◌, find, position, Option, Some, None, Bool, false, cond}
use Rattle.std.specs.Option.{option_map, option_or}
use Rattle.std.specs.List.{slice_get}
use Rattle.std.specs.Str.{bytes_eq}
use Rattle.std.specs.declared.vec.Vec.{Vec}
use Rattle.type_layout.specs.declared.home.HomeNo.{HomeNo}
use Rattle.type_layout.specs.declared.key.Key.{Key}
use Rattle.type_layout.specs.declared.key.KeyNo.{KeyNo}
use Rattle.type_layout.specs.declared.schema.Home.{Home}
use Rattle.type_layout.specs.Scopes.{Provided}
use Rattle.type_layout.specs.Schemas.{given}
use Rattle.type_layout.specs.Types.{PlainMember}
use Rattle.schema_names.specs.Tables.{value_at}

-- the home whose scoped name is the word
abbrev pub home_called : List Home → List ℕ → Option HomeNo
home_called homes word = option_map (λ n. record { 0 = n + 1 }) (position (λ home. bytes_eq word home.name) homes)

-- the home that a catalog provides under the word
abbrev pub home_provided : List Provided → List ℕ → Option HomeNo
home_provided provided word = option_map (λ p. p.home) (find (λ p. bytes_eq word (p.catalog ++ 46 ∷ p.name)) provided)

-- the place of the member whose name is the word
abbrev pub member_called : List PlainMember → List ℕ → Option ℕ
member_called members word = position (λ member. bytes_eq word member.name) members

-- the word is the name of the key with this number
abbrev pub is_key_called : List Key → List ℕ → KeyNo → Bool
is_key_called keys word k = given (slice_get keys k.0) false (λ key. bytes_eq word key.name)

-- the key among these whose name is the word
abbrev pub key_called : List Key → List KeyNo → List ℕ → Option KeyNo
key_called keys numbers word = find (is_key_called keys word) numbers

-- the key with this number stands behind its name, unless another one did; all others stay
abbrev pub IsKeyEntered : {Z : Type 0} → List (Vec ℕ Z × KeyNo) → List (Vec ℕ Z × KeyNo) → List Key → KeyNo → Type 0
IsKeyEntered old new keys number = (q : List ℕ) → value_at new q ≡ option_or (value_at old q) (cond (is_key_called keys q number) (Some number) None)
