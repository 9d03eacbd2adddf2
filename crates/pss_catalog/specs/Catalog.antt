-- The objects by serial, and what holds of them.
use Rattle.std.specs.Prelude.{ℕ, ◌+◌, ◌≡◌, ◌<◌, ◌≤◌, ◌==◌, ◌&&◌, not, nat_lt, if◌then◌else◌, Bool, false, List, [], ◌∷◌, ◌++◌, map, filter, length, sum, Some, IsTrue}
use Rattle.std.specs.List.{flat_map}
use Rattle.std.specs.Ordering.{nat_cmp}
use Rattle.std.specs.FinMap.{FinMap, get, entries}
use Rattle.std.specs.Str.{bytes_eq}
use Rattle.pss_base.specs.declared.pid.Pid.{Pid}
use Rattle.type_layout.specs.declared.home.HomeNo.{HomeNo}
use Rattle.type_layout.specs.declared.key.KeyNo.{KeyNo}
use Rattle.type_layout.specs.declared.schema.Home.{Home}
use Rattle.type_layout.specs.declared.schema.Schema.{Schema}
use Rattle.type_layout.specs.Types.{PlainValue, Items, Parts, Ref, PlainValues, no_values, value_and}
use Rattle.type_layout.specs.Values.{IsRecord}
use Rattle.type_layout.specs.Spelling.{record_spelling}
use Rattle.type_layout.specs.Schemas.{given, home_at, members_at, has_key}
use Rattle.type_layout.specs.Keys.{key_bytes}

-- the storage home of an object, and the values of its members
pub record Object : Type 0 where
  pub home : HomeNo
  pub values : List PlainValue

abbrev pub Catalog : Type 0
Catalog = FinMap nat_cmp Object

-- the catalog takes the pid's serial to the pid's home
abbrev pub has : Catalog → Pid → Bool
has M p = given (get M p.serial) false (λ object. object.home.0 == p.home)

abbrev pub pid_of : ℕ × Object → Pid
pid_of e = record { home = e.1.home.0; serial = e.0 }

-- the object's home has the key, and its key bytes are these
abbrev pub holds : Schema → KeyNo → List ℕ → Object → Bool
holds S k bytes object = given (home_at S object.home) false (λ home. has_key home k) && bytes_eq (key_bytes S k object.values) bytes

-- the objects that pass a test, by serial
abbrev pub pids_where : (Object → Bool) → Catalog → List Pid
pids_where test M = map pid_of (filter (λ e. test e.1) (entries M))

-- the objects that hold a key with these bytes, by serial
abbrev pub holders : Schema → Catalog → KeyNo → List ℕ → List Pid
holders S M k bytes = pids_where (holds S k bytes) M

-- no key has two holders of the same bytes
abbrev pub IsUnique : Schema → Catalog → Type 0
IsUnique S M = (k : KeyNo) (bytes : List ℕ) (s t : ℕ) (x y : Object) → get M s ≡ Some x → get M t ≡ Some y → IsTrue (holds S k bytes x) → IsTrue (holds S k bytes y) → s ≡ t

-- all of them but that with a serial
abbrev pub without : ℕ → List Pid → List Pid
without s pids = filter (λ p. not (p.serial == s)) pids

-- with one more, in front of the first with a higher serial
abbrev pub placed : Pid → List Pid → List Pid
placed p [] = p ∷ []
placed p (q ∷ qs) = if nat_lt p.serial q.serial then p ∷ q ∷ qs else q ∷ placed p qs

-- the octets of an object's record
abbrev pub object_spelling : Schema → Object → List ℕ
object_spelling S object = record_spelling (members_at S object.home) object.values

-- 16 and the length of an object's record
abbrev pub weight : Schema → Object → ℕ
weight S object = 16 + length (object_spelling S object)

-- the sum of the objects' weights
abbrev pub total : Schema → Catalog → ℕ
total S M = sum (map (λ e. weight S e.1) (entries M))

-- the weight of the object with a serial, 0 where there is none
abbrev pub weight_at : Schema → Catalog → ℕ → ℕ
weight_at S M s = given (get M s) 0 (weight S)

abbrev mutual
  -- the objects that a value refers to
  pub references : PlainValue → List Pid
  references (Items vs) = all_references vs
  references (Parts vs) = all_references vs
  references (Ref (Some p)) = p ∷ []
  references _ = []

  pub all_references : PlainValues → List Pid
  all_references no_values = []
  all_references (value_and v vs) = references v ++ all_references vs

-- a serial that was given before the next one
abbrev pub IsGiven : ℕ → ℕ → Type 0
IsGiven next serial = (0 < serial) × (serial < next)

-- each of the objects was made before the next serial
abbrev pub AreGiven : ℕ → List Pid → Type 0
AreGiven next [] = Unit {0}
AreGiven next (p ∷ ps) = IsGiven next p.serial × AreGiven next ps

-- what holds of each object, by its serial
abbrev pub EachObject : Catalog → (ℕ → Object → Type 0) → Type 0
EachObject M P = (serial : ℕ) (object : Object) → get M serial ≡ Some object → P serial object

-- a catalog under a schema, with the next serial
pub record IsGood (S : Schema) (M : Catalog) (next : ℕ) : Type 0 where
  pub homes : EachObject M (λ serial object. (home : Home) × (home_at S object.home ≡ Some home))
  pub records : EachObject M (λ serial object. IsRecord (members_at S object.home) object.values)
  pub short : EachObject M (λ serial object. length (object_spelling S object) ≤ 8000)
  pub positive : 0 < next
  pub serials : EachObject M (λ serial object. IsGiven next serial)
  pub targets : EachObject M (λ serial object. AreGiven next (flat_map references object.values))
  pub unique : IsUnique S M
  pub bounded : total S M ≤ 67108864
