-- Holders and reservations of keys by their indexes.
use Rattle.std.specs.Prelude.{ℕ, ◌≡◌, List, [], ◌∷◌, Option, None, Bool, true, false, cond, ◌==◌, ◌&&◌, IsTrue}
use Rattle.std.specs.List.{list_any}
use Rattle.std.specs.Map.{lookup}
use Rattle.std.specs.Str.{bytes_eq}
use Rattle.std.specs.FinMap as map
use Rattle.std.specs.FinSet as set
use Rattle.type_layout.specs.declared.key.KeyNo.{KeyNo}
use Rattle.type_layout.specs.Schemas.{given}
use Rattle.key_index.specs.Index.{Index}

-- indexes, each with the number of its key
abbrev pub KeyIndexes : Type 0
KeyIndexes = List (ℕ × Index)

abbrev pub index_at : ℕ → KeyIndexes → Option Index
index_at key indexes = lookup (λ t. key == t) indexes

-- the serial of the object that holds a key with these bytes
abbrev pub found_at : KeyIndexes → ℕ → List ℕ → Option ℕ
found_at indexes key bytes = given (index_at key indexes) None (λ index. map.get index.held bytes)

abbrev pub is_key_reserved : KeyIndexes → ℕ → List ℕ → Bool
is_key_reserved indexes key bytes = given (index_at key indexes) false (λ index. set.contains index.reserved bytes)

-- a pair is that of a key and bytes
abbrev pub is_pair : KeyNo × List ℕ → ℕ → List ℕ → Bool
is_pair pair key bytes = (pair.0.0 == key) && bytes_eq bytes pair.1

-- the pair is among these
abbrev pub lists : List (KeyNo × List ℕ) → ℕ → List ℕ → Bool
lists pairs key bytes = list_any (λ pair. is_pair pair key bytes) pairs

-- the index of this key is another one, and all others stay
abbrev pub TurnsIndex : KeyIndexes → KeyIndexes → ℕ → Option Index → Type 0
TurnsIndex old new key index = (q : ℕ) → index_at q new ≡ cond (key == q) index (index_at q old)

-- one key has this holder, or none, and all others keep theirs
abbrev pub TurnsFoundAt : KeyIndexes → KeyIndexes → ℕ → List ℕ → Option ℕ → Type 0
TurnsFoundAt old new k bytes holder = (key : ℕ) (q : List ℕ) → found_at new key q ≡ cond ((k == key) && bytes_eq q bytes) holder (found_at old key q)

abbrev pub TurnsKeyReservedAt : KeyIndexes → KeyIndexes → ℕ → List ℕ → Bool → Type 0
TurnsKeyReservedAt old new k bytes b = (key : ℕ) (q : List ℕ) → is_key_reserved new key q ≡ cond ((k == key) && bytes_eq q bytes) b (is_key_reserved old key q)

-- all keys keep their holders
abbrev pub KeepsFound : KeyIndexes → KeyIndexes → Type 0
KeepsFound old new = (key : ℕ) (bytes : List ℕ) → found_at new key bytes ≡ found_at old key bytes

abbrev pub KeepsKeysReserved : KeyIndexes → KeyIndexes → Type 0
KeepsKeysReserved old new = (key : ℕ) (bytes : List ℕ) → is_key_reserved new key bytes ≡ is_key_reserved old key bytes

-- the listed keys have this holder, or none, and all others keep theirs
abbrev pub TurnsFound : KeyIndexes → KeyIndexes → List (KeyNo × List ℕ) → Option ℕ → Type 0
TurnsFound old new pairs holder = (key : ℕ) (bytes : List ℕ) → found_at new key bytes ≡ cond (lists pairs key bytes) holder (found_at old key bytes)

abbrev pub TurnsKeysReserved : KeyIndexes → KeyIndexes → List (KeyNo × List ℕ) → Bool → Type 0
TurnsKeysReserved old new pairs b = (key : ℕ) (bytes : List ℕ) → is_key_reserved new key bytes ≡ cond (lists pairs key bytes) b (is_key_reserved old key bytes)

-- what is reserved stays so
abbrev pub StayReserved : KeyIndexes → KeyIndexes → Type 0
StayReserved old new = (key : ℕ) (bytes : List ℕ) → IsTrue (is_key_reserved old key bytes) → IsTrue (is_key_reserved new key bytes)

-- each listed key is reserved and has no holder, and none is listed twice
abbrev pub MayPut : KeyIndexes → List (KeyNo × List ℕ) → Type 0
MayPut indexes [] = Unit {0}
MayPut indexes (pair ∷ pairs) = (is_key_reserved indexes pair.0.0 pair.1 ≡ true) × (found_at indexes pair.0.0 pair.1 ≡ None) × (lists pairs pair.0.0 pair.1 ≡ false) × MayPut indexes pairs

-- none is listed twice
abbrev pub IsOnce : List (KeyNo × List ℕ) → Type 0
IsOnce [] = Unit {0}
IsOnce (pair ∷ pairs) = (lists pairs pair.0.0 pair.1 ≡ false) × IsOnce pairs

-- each listed key is reserved
abbrev pub AreKeysReserved : KeyIndexes → List (KeyNo × List ℕ) → Type 0
AreKeysReserved indexes pairs = (key : ℕ) (bytes : List ℕ) → lists pairs key bytes ≡ true → is_key_reserved indexes key bytes ≡ true
