-- What an owner sees, from what was committed and from what it changed.
use Rattle.std.specs.Prelude.{ℕ, ◌≡◌, List, Option, Some, None, Bool, true, false, not, ◌==◌, if◌then◌else◌}
use Rattle.std.specs.List.{list_any}
use Rattle.std.specs.FinMap.{get, contains_key}
use Rattle.type_layout.specs.declared.key.KeyNo.{KeyNo}
use Rattle.type_layout.specs.declared.schema.Schema.{Schema}
use Rattle.pss_catalog.specs.Catalog.{Object, Catalog, holds, holders}
use Rattle.pss_catalog.specs.Changes.{over}
use Rattle.pss_machine.specs.Changes.{Changes, listed}

-- the catalog with an owner's changes
abbrev pub seen_with : Catalog → Changes → Catalog
seen_with M changes = over M (listed changes)

-- ---- holders of keys

-- the object with this serial holds a key with these bytes, or none does
abbrev pub IsHolder : Schema → Catalog → KeyNo → List ℕ → Option ℕ → Type 0
IsHolder S M k bytes None = (s : ℕ) (x : Object) → get M s ≡ Some x → holds S k bytes x ≡ false
IsHolder S M k bytes (Some s) = (x : Object) × (get M s ≡ Some x) × (holds S k bytes x ≡ true)

-- likewise among the objects that were changed, as they are now
abbrev pub IsOwnHolder : Schema → Changes → KeyNo → List ℕ → Option ℕ → Type 0
IsOwnHolder S changes k bytes None = (s : ℕ) (x : Object) → get changes s ≡ Some (Some x) → holds S k bytes x ≡ false
IsOwnHolder S changes k bytes (Some s) = (x : Object) × (get changes s ≡ Some (Some x)) × (holds S k bytes x ≡ true)

-- a changed object that holds the key is its holder, and else the committed holder where it was not changed
abbrev pub holder_of : Changes → Option ℕ → Option ℕ → Option ℕ
holder_of changes (Some s) committed = Some s
holder_of changes None None = None
holder_of changes None (Some s) = if contains_key changes s then None else Some s

-- ---- numbers of objects

-- 1 for an object that passes a test
abbrev pub one_where : (Object → Bool) → Object → ℕ
one_where test object = if test object then 1 else 0

-- ---- keys of other objects

-- another object than that with the serial holds the key with these bytes
abbrev pub is_held_by_other : Schema → Catalog → ℕ → KeyNo × List ℕ → Bool
is_held_by_other S M serial p = list_any (λ q. not (q.serial == serial)) (holders S M p.0 p.1)
