-- Which types, layouts and schemas may be: each condition by itself.
use Rattle.std.specs.Prelude.{ℕ, ◌+◌, ◌^◌, ◌<◌, ◌≤◌, ◌≡◌, ◌↔◌, List, [], ◌∷◌, length, map, Option, Some, None, Bool, true, false, ◌&&◌, ◌||◌, ◌==◌, nat_le, IsTrue, IsSome, not}
use Rattle.std.specs.List.{slice_get, list_all, list_any}
use Rattle.std.specs.Str.{bytes_eq}
use Rattle.type_layout.specs.declared.home.HomeNo.{HomeNo}
use Rattle.type_layout.specs.declared.key.KeyNo.{KeyNo}
use Rattle.type_layout.specs.declared.key.Key.{Key}
use Rattle.type_layout.specs.declared.schema.Factory.{Factory}
use Rattle.type_layout.specs.declared.schema.Home.{Home}
use Rattle.type_layout.specs.Scopes.{Provided}
use Rattle.type_layout.specs.declared.schema.Schema.{Schema}
use Rattle.type_layout.specs.Types.{PlainType, Seq, Arr, Struct, Enum, RefTo, PlainFields, no_fields, field_and, PlainMember}
use Rattle.type_layout.specs.Defaults.{default_record}
use Rattle.type_layout.specs.Spelling.{record_spelling}
use Rattle.type_layout.specs.Schemas.{given, home_at, key_at, members_at, descends, has_key}
use Rattle.type_layout.specs.Keys.{may_be_keyed}
use Rattle.type_layout.specs.ShapeText.{shape_text}

-- no one of the list is the same as a later one
abbrev pub are_distinct : {A : Type 0} → (A → A → Bool) → List A → Bool
are_distinct same [] = true
are_distinct same (x ∷ xs) = not (list_any (same x) xs) && are_distinct same xs

-- ---- types

abbrev pub is_letter : ℕ → Bool
is_letter b = (nat_le 65 b && nat_le b 90) || (nat_le 97 b && nat_le b 122)

-- a letter, a digit or `_`
abbrev pub is_word_byte : ℕ → Bool
is_word_byte b = is_letter b || (nat_le 48 b && nat_le b 57) || b == 95

-- a name that an identifier may have
abbrev pub is_name : List ℕ → Bool
is_name [] = false
is_name (b ∷ bs) = is_letter b && list_all is_word_byte bs

-- homes in rising order, each above `last`
abbrev pub Rise : ℕ → List HomeNo → Type 0
Rise last [] = Unit {0}
Rise last (h ∷ hs) = (last < h.0) × Rise h.0 hs

-- names of enumerators
abbrev pub AreEnumerators : List (List ℕ) → Type 0
AreEnumerators names = (0 < length names) × (length names < 2 ^ 32) × IsTrue (list_all is_name names) × IsTrue (are_distinct bytes_eq names)

abbrev pub HasField : PlainFields → Type 0
HasField no_fields = ⊥
HasField (field_and _ _ _) = Unit {0}

abbrev mutual
  pub IsSound : PlainType → Type 0
  IsSound (Seq item bound) = IsSound item
  IsSound (Arr item n) = (0 < n) × (n < 2 ^ 16) × IsSound item
  IsSound (Struct fields) = HasField fields × AreSound fields
  IsSound (Enum names) = AreEnumerators names
  IsSound (RefTo homes) = Rise 0 homes
  IsSound _ = Unit {0}

  pub AreSound : PlainFields → Type 0
  AreSound no_fields = Unit {0}
  AreSound (field_and name type fields) = IsSound type × AreSound fields

abbrev mutual
  -- each home that a reference in the type lists has at most this number
  pub StaysWithin : ℕ → PlainType → Type 0
  StaysWithin most (Seq item bound) = StaysWithin most item
  StaysWithin most (Arr item n) = StaysWithin most item
  StaysWithin most (Struct fields) = StayWithin most fields
  StaysWithin most (RefTo homes) = IsTrue (list_all (λ h. nat_le h.0 most) homes)
  StaysWithin most _ = Unit {0}

  pub StayWithin : ℕ → PlainFields → Type 0
  StayWithin most no_fields = Unit {0}
  StayWithin most (field_and name type fields) = StaysWithin most type × StayWithin most fields

-- ---- layouts

-- what holds of each member, by its number
abbrev pub EachMember : List PlainMember → (PlainMember → Type 0) → Type 0
EachMember members P = (i : ℕ) (m : PlainMember) → slice_get members i ≡ Some m → P m

abbrev pub IsSoundLayout : List PlainMember → Type 0
IsSoundLayout members = EachMember members (λ m. IsSound m.type)

-- numbers of members that are there, none twice
abbrev pub AreMembers : List ℕ → List PlainMember → Type 0
AreMembers indexes members = IsTrue (list_all (λ i. nat_le (i + 1) (length members)) indexes) × IsTrue (are_distinct (λ i j. i == j) indexes)

-- ---- schemas

-- what holds of each home, by its number
abbrev pub EachHome : Schema → (HomeNo → Home → Type 0) → Type 0
EachHome S P = (h : HomeNo) (home : Home) → home_at S h ≡ Some home → P h home

-- what holds of each key, by its number
abbrev pub EachKey : Schema → (KeyNo → Key → Type 0) → Type 0
EachKey S P = (k : KeyNo) (key : Key) → key_at S k ≡ Some key → P k key

-- the name of a key, none where the key is not there
abbrev pub key_name : Schema → KeyNo → List ℕ
key_name S k = given (key_at S k) [] (λ key. key.name)

-- two provided homes have one catalog and one name
abbrev pub same_provided : Provided → Provided → Bool
same_provided p q = bytes_eq p.catalog q.catalog && bytes_eq p.name q.name

-- the base of a home, where it has one, has a lower number
abbrev pub IsLower : Option HomeNo → HomeNo → Type 0
IsLower None h = Unit {0}
IsLower (Some b) h = (0 < b.0) × (b.0 < h.0)

-- a key's member with this number may be keyed, and has one type in two layouts
abbrev pub IsKeyMember : List PlainMember → List PlainMember → ℕ → Type 0
IsKeyMember own other i =
    (m : PlainMember) × (n : PlainMember) × (slice_get own i ≡ Some m) × (slice_get other i ≡ Some n) × (m.type ≡ n.type) × IsTrue (may_be_keyed m.type)

pub record IsSoundSchema (S : Schema) : Type 0 where
  pub few_homes : length S.homes ≤ 4096
  pub home_names : IsTrue (are_distinct bytes_eq (map (λ home. home.name) S.homes))
  -- layouts
  pub few_members : EachHome S (λ h home. length home.layout.members ≤ 255)
  pub layouts : EachHome S (λ h home. IsSoundLayout home.layout.members)
  pub references : EachHome S (λ h home. EachMember home.layout.members (λ m. StaysWithin (length S.homes) m.type))
  pub defaults : EachHome S (λ h home. length (record_spelling home.layout.members (default_record home.layout.members)) ≤ 8000)
  pub bases : EachHome S (λ h home. IsLower home.base h)
  -- names within a home
  pub member_names : EachHome S (λ h home. IsTrue (are_distinct bytes_eq (map (λ m. m.name) home.layout.members)))
  pub key_names : EachHome S (λ h home. IsTrue (are_distinct bytes_eq (map (key_name S) home.keys)))
  pub factory_names : EachHome S (λ h home. IsTrue (are_distinct bytes_eq (map (λ f. f.name) home.factories)))
  -- keys and factories
  pub keys_there : EachHome S (λ h home. IsTrue (list_all (λ k. nat_le (k.0 + 1) (length S.keys)) home.keys))
  pub key_homes : EachKey S (λ k key. IsSome (home_at S key.home))
  pub keyed : EachKey S (λ k key. EachHome S (λ h home. IsTrue (has_key home k) ↔ IsTrue (descends S h key.home)))
  pub key_members : EachKey S (λ k key. AreMembers key.members (members_at S key.home))
  pub key_types : EachKey S (λ k key. EachHome S (λ h home. IsTrue (has_key home k) → (j i : ℕ) → slice_get key.members j ≡ Some i → IsKeyMember (members_at S key.home) home.layout.members i))
  pub factories : EachHome S (λ h home. (j : ℕ) (f : Factory) → slice_get home.factories j ≡ Some f → AreMembers f.members home.layout.members)
  -- catalogs
  pub provided_there : (j : ℕ) (p : Provided) → slice_get S.provided j ≡ Some p → IsSome (home_at S p.home)
  pub provided_names : IsTrue (are_distinct same_provided S.provided)
  pub short_shape : length (shape_text S) ≤ 65536
