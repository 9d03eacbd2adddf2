-- Provisions by the hashes of their full names.
use Rattle.std.proofs.Common.{get_or}
use Rattle.std.specs.Prelude.{ℕ, ◌≡◌, ◌<◌, length, List, [], ◌++◌, ◌∷◌, take, find, position, Option, None, Bool, false, cond, Some, IsSome, eqb, ◌⊎◌}
use Rattle.std.specs.Hash.DefaultHasher as sip
use Rattle.std.specs.List.{slice_get}
use Rattle.std.specs.Map.{lookup}
use Rattle.std.specs.Option.{option_map, option_and_then, option_or, unwrap_or}
use Rattle.std.specs.Str.{bytes_eq}
use Rattle.table_hash.specs.declared.byte_hasher.ByteHasher.{ByteHasher}
use Rattle.table_hash.specs.Hashing.{plain, hashing, fed_all}
use Rattle.type_layout.specs.declared.scopes.ScopeNo.{ScopeNo}
use Rattle.type_layout.specs.Scopes.{Provided, full_name, name_at}

-- the state in which all bytes of the text are hashed
abbrev pub state_of : List ℕ → ByteHasher
state_of text = fed_all (hashing sip.initial) text

abbrev pub hash_of : List ℕ → ℕ
hash_of text = sip.finish (plain (state_of text))

-- the states of the first names, each by its number
abbrev pub AreStates : List (List ℕ) → List ByteHasher → Type 0
AreStates names states = (outer : ScopeNo) (d : ByteHasher) → outer.0 < length states → get_or states outer.0 d ≡ state_of (name_at names outer)

-- the word is what the provision is called
abbrev pub is_called : List ℕ → Provided → Bool
is_called word p = bytes_eq word (full_name p)

-- so is the one at the place
abbrev pub is_called_at : List Provided → List ℕ → ℕ → Bool
is_called_at list word place = unwrap_or (option_map (is_called word) (slice_get list place)) false

-- the place under a word's hash, if the provision there is called so
abbrev pub under : List Provided → List ℕ → Option ℕ → Option ℕ
under list word place = option_and_then (λ place. cond (is_called_at list word place) (Some place) None) place

-- a place was put under the hash, or with the others where one was there
abbrev pub IsPut : List (ℕ × ℕ) → List (ℕ × ℕ) → List ℕ → List ℕ → ℕ → ℕ → Type 0
IsPut firsts firsts_new others others_new hash place =
    ((lookup (eqb hash) firsts ≡ None) × (firsts_new ≡ firsts ++ (hash, place) ∷ []) × (others_new ≡ others))
    ⊎ (IsSome (lookup (eqb hash) firsts) × (firsts_new ≡ firsts) × (others_new ≡ others ++ place ∷ []))

-- the first so many provisions are found: by the hash of what they are called, or among the others
pub record AreFound (count : ℕ) (list : List Provided) (firsts : List (ℕ × ℕ)) (others : List ℕ) : Type 0 where
  pub found : (word : List ℕ) → option_or (under list word (lookup (eqb (hash_of word)) firsts)) (find (is_called_at list word) others) ≡ position (is_called word) (take count list)
  pub hashed : (word : List ℕ) → lookup (eqb (hash_of word)) firsts ≡ None → position (is_called word) (take count list) ≡ None
