-- What a schema says of its homes and keys.
use Rattle.std.specs.Prelude.{ℕ, zero, suc, ◌≡◌, List, [], length, Option, Some, None, Bool, false, ◌||◌, ◌==◌}
use Rattle.std.specs.List.{slice_get, list_any}
use Rattle.type_layout.specs.declared.home.HomeNo.{HomeNo}
use Rattle.type_layout.specs.declared.key.KeyNo.{KeyNo}
use Rattle.type_layout.specs.declared.key.Key.{Key}
use Rattle.type_layout.specs.declared.schema.Home.{Home}
use Rattle.type_layout.specs.declared.schema.Schema.{Schema}
use Rattle.type_layout.specs.Types.{PlainMember}

-- the n-th, counted from 1
abbrev pub nth : {A : Type 0} → List A → ℕ → Option A
nth xs zero = None
nth xs (suc n) = slice_get xs n

-- what follows from a thing, where it is there
abbrev pub given : {A B : Type 0} → Option A → B → (A → B) → B
given None other f = other
given (Some x) other f = f x

abbrev pub home_at : Schema → HomeNo → Option Home
home_at S h = nth S.homes h.0

abbrev pub key_at : Schema → KeyNo → Option Key
key_at S k = slice_get S.keys k.0

-- the home that a home derives from
abbrev pub base_of : Schema → HomeNo → Option HomeNo
base_of S h = given (home_at S h) None (λ home. home.base)

-- the members of a home, none where it is not there
abbrev pub members_at : Schema → HomeNo → List PlainMember
members_at S h = given (home_at S h) [] (λ home. home.layout.members)

-- the keys of a home, in its order, none where it is not there
abbrev pub keys_at : Schema → HomeNo → List KeyNo
keys_at S h = given (home_at S h) [] (λ home. home.keys)

-- from base to base one comes to a home
pub data DescendsFrom (S : Schema) : HomeNo → HomeNo → Type 0 where
  itself : (h : HomeNo) → DescendsFrom S h h
  by_base : (h b of : HomeNo) → base_of S h ≡ Some b → DescendsFrom S b of → DescendsFrom S h of

-- one comes to a home by fewer than n steps from base to base
abbrev pub descends_within : ℕ → Schema → HomeNo → HomeNo → Bool
descends_within zero S h of = false
descends_within (suc n) S h of = h.0 == of.0 || given (base_of S h) false (λ b. descends_within n S b of)

-- the home is `of` or derives from it: a line of bases takes at most as many steps as there are homes
abbrev pub descends : Schema → HomeNo → HomeNo → Bool
descends S h of = descends_within (suc (length S.homes)) S h of

abbrev pub has_key : Home → KeyNo → Bool
has_key home k = list_any (λ j. j.0 == k.0) home.keys
