-- What operations need to lock, and what clashes.
use Rattle.std.specs.Prelude.{ℕ, ◌==◌, List, [], ◌∷◌, ◌++◌, map, filter, Bool, true, false, not, ◌&&◌}
use Rattle.std.specs.List.{slice_get, list_any, flat_map}
use Rattle.std.specs.declared.cmp.Ordering.{Ordering}
use Rattle.std.specs.Ordering.{nat_cmp, on}
use Rattle.std.specs.Cmp.Lexicographic.{slice_cmp}
use Rattle.std.specs.FinSet.{FinSet, items}
use Rattle.std.specs.Str.{bytes_eq}
use Rattle.pss_base.specs.declared.pid.Pid.{Pid}
use Rattle.type_layout.specs.declared.home.HomeNo.{HomeNo}
use Rattle.type_layout.specs.declared.key.KeyNo.{KeyNo}
use Rattle.type_layout.specs.declared.schema.Schema.{Schema}
use Rattle.type_layout.specs.Types.{PlainValue}
use Rattle.type_layout.specs.Keys.{key_bytes}
use Rattle.type_layout.specs.Schemas.{given, keys_at}
use Rattle.pss_catalog.specs.Catalog.{Object, Catalog, references}
use Rattle.std.specs.Hash as fed
use Rattle.pss_machine.specs.declared.lock.Resource.{Resource}
use Rattle.pss_machine.specs.declared.lock.Resource.TheVariants as resource
use Rattle.pss_machine.specs.declared.lock.Mode.{Mode}
use Rattle.pss_machine.specs.declared.lock.Mode.TheVariants.{S as Read, M as Many, X as Write}
use Rattle.pss_machine.specs.declared.lock.Need.{Need}
use Rattle.pss_machine.specs.declared.level.Level.{Level}
use Rattle.pss_machine.specs.declared.level.Level.TheVariants.{Serializable, ReadCommitted, Basic}
use Rattle.pss_machine.specs.Operations.{Question, FindKey, FindPid, FindShort, Exists, Get, Follow, Count, ListOf, PlainOp, Create, Set, Destroy, Ask}
use Rattle.pss_machine.specs.Homes.{below}
use Rattle.pss_machine.specs.Alone.{object_of, with_member}

abbrev pub object_need : Mode → ℕ → Need
object_need mode serial = record { resource = resource.Object serial; mode = mode }

abbrev pub key_need : Mode → KeyNo → List ℕ → Need
key_need mode k bytes = record { resource = resource.Key k.0 bytes; mode = mode }

abbrev pub extent_need : Mode → HomeNo → Need
extent_need mode h = record { resource = resource.Extent h.0; mode = mode }

-- keys with the bytes that they have in a record, to be written
abbrev pub keys_written : Schema → List KeyNo → List PlainValue → List Need
keys_written S keys values = map (λ k. key_need Write k (key_bytes S k values)) keys

-- the keys of an object whose bytes another record changes
abbrev pub changed_keys : Schema → Object → List PlainValue → List KeyNo
changed_keys S object values = filter (λ k. not (bytes_eq (key_bytes S k object.values) (key_bytes S k values))) (keys_at S object.home)

-- the old and the new bytes of the keys that a member's new value changes
abbrev pub set_needs : Schema → Object → List PlainValue → List Need
set_needs S object values = keys_written S (changed_keys S object values) object.values ++ keys_written S (changed_keys S object values) values

-- all that an object of its home has to itself
abbrev pub object_keys : Schema → Object → List Need
object_keys S object = keys_written S (keys_at S object.home) object.values ++ extent_need Many object.home ∷ []

-- what is needed at every level
abbrev pub writes : Schema → Catalog → PlainOp → List Need
writes S M (Create serial object) = object_need Write serial ∷ object_keys S object
writes S M (Set p member value) = object_need Write p.serial ∷ given (object_of M p) [] (λ object. set_needs S object (with_member object member value).values)
writes S M (Destroy p) = object_need Write p.serial ∷ given (object_of M p) [] (object_keys S)
writes S M (Ask question) = []

-- the objects that are referred to, to be read
abbrev pub targets : List Pid → List Need
targets pids = map (λ q. object_need Read q.serial) pids

-- the object that a member refers to
abbrev pub target_of : Catalog → Pid → ℕ → List Need
target_of M p member = given (object_of M p) [] (λ object. given (slice_get object.values member) [] (λ value. targets (references value)))

abbrev pub asks : Schema → Catalog → Question → List Need
asks S M (FindKey h k bytes) = key_need Read k bytes ∷ []
asks S M (FindPid p) = object_need Read p.serial ∷ []
asks S M (FindShort h serial) = object_need Read serial ∷ []
asks S M (Exists p) = object_need Read p.serial ∷ []
asks S M (Get p member) = object_need Read p.serial ∷ []
asks S M (Follow p member) = object_need Read p.serial ∷ target_of M p member
asks S M (Count h) = map (extent_need Read) (below S h)
asks S M (ListOf h) = map (extent_need Read) (below S h)

-- what a serializable owner needs beside it
abbrev pub reads : Schema → Catalog → PlainOp → List Need
reads S M (Create serial object) = targets (flat_map references object.values)
reads S M (Set p member value) = targets (references value)
reads S M (Destroy p) = []
reads S M (Ask question) = asks S M question

-- what an operation needs on a catalog
abbrev pub needs : Schema → Level → Catalog → PlainOp → List Need
needs S Serializable M op = writes S M op ++ reads S M op
needs S ReadCommitted M op = writes S M op
needs S Basic M op = writes S M op

-- ---- clashes

abbrev pub same_resource : Resource → Resource → Bool
same_resource (resource.Object s) (resource.Object t) = s == t
same_resource (resource.Key k bytes) (resource.Key l other) = k == l && bytes_eq bytes other
same_resource (resource.Extent g) (resource.Extent h) = g == h
same_resource _ _ = false

-- what a resource feeds a hash: which of the three it is, and its parts
abbrev pub hashed : Resource → fed.HashWrites
hashed (resource.Object serial) = fed.u8 0 ++ fed.u64 serial
hashed (resource.Key k bytes) = fed.u8 1 ++ (fed.u32 k ++ (bytes ∷ []))
hashed (resource.Extent h) = fed.u8 2 ++ fed.u32 h

-- both read, or both add and take away
abbrev pub go_together : Mode → Mode → Bool
go_together Read Read = true
go_together Many Many = true
go_together _ _ = false

abbrev pub clash : Need → Need → Bool
clash x y = same_resource x.resource y.resource && not (go_together x.mode y.mode)

-- ---- sets of locks

abbrev mode_code : Mode → ℕ
mode_code Read = 0
mode_code Many = 1
mode_code Write = 2

abbrev resource_code : Resource → List ℕ
resource_code (resource.Object serial) = 0 ∷ serial ∷ []
resource_code (resource.Key k bytes) = 1 ∷ k ∷ bytes
resource_code (resource.Extent h) = 2 ∷ h ∷ []

abbrev pub need_code : Need → List ℕ
need_code need = mode_code need.mode ∷ resource_code need.resource

-- some order of needs, that locks may be a set
abbrev pub need_cmp : Need → Need → Ordering
need_cmp = on need_code (slice_cmp nat_cmp)

-- a finite set of locks, each a resource and a mode
abbrev pub Locks : Type 0
Locks = FinSet need_cmp

-- one of the locks clashes with one of the needs
abbrev pub hold_up : Locks → List Need → Bool
hold_up locks wanted = list_any (λ x. list_any (clash x) wanted) (items locks)
