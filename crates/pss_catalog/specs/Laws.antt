-- What an insertion, a removal and several changes make of a catalog.
use Rattle.std.specs.Prelude.{ℕ, ◌+◌, ◌≡◌, ◌↔◌, ◌==◌, Bool, not, List, [], ◌∷◌, ◌++◌, filter, Some, None, unwrap_or, IsTrue, if◌then◌else◌}
use Rattle.std.specs.FinMap.{get, insert, remove, entries}
use Rattle.type_layout.specs.declared.key.KeyNo.{KeyNo}
use Rattle.type_layout.specs.declared.schema.Schema.{Schema}
use Rattle.pss_catalog.specs.Catalog.{Object, Catalog, pid_of, holds, pids_where, holders, without, placed, IsUnique, weight, weight_at, total}
use Rattle.pss_catalog.specs.Changes.{Change, over, last_state}

-- ---- each object

-- only the serial itself is found otherwise
abbrev pub FoundWith : Type 0
FoundWith = (M : Catalog) (s : ℕ) (object : Object) (t : ℕ) → get (insert M s object) t ≡ (if t == s then Some object else get M t)

abbrev pub FoundWithout : Type 0
FoundWithout = (M : Catalog) (s t : ℕ) → get (remove M s) t ≡ (if t == s then None else get M t)

-- what was changed has its last state, all else is as it was
abbrev pub FoundOver : Type 0
FoundOver = (M : Catalog) (cs : List Change) (t : ℕ) → get (over M cs) t ≡ unwrap_or (last_state cs t) (get M t)

-- changes behind changes
abbrev pub OverBoth : Type 0
OverBoth = (M : Catalog) (cs ds : List Change) → over M (cs ++ ds) ≡ over (over M cs) ds

-- ---- lists of objects

abbrev pub EntriesWithout : Type 0
EntriesWithout = (M : Catalog) (s : ℕ) → entries (remove M s) ≡ filter (λ e. not (e.0 == s)) (entries M)

-- of those that pass a test, so of the holders of a key: one less, or one in its place
abbrev pub ListedWithout : Type 0
ListedWithout = (test : Object → Bool) (M : Catalog) (s : ℕ) → pids_where test (remove M s) ≡ without s (pids_where test M)

abbrev pub ListedWith : Type 0
ListedWith =
    (test : Object → Bool) (M : Catalog) (s : ℕ) (object : Object) → pids_where test (insert M s object) ≡ (if test object then placed (pid_of (s, object)) (without s (pids_where test M)) else without s (pids_where test M))

-- no other passes exactly where none but that with the serial is listed
abbrev pub ListsNoOther : Type 0
ListsNoOther = (test : Object → Bool) (M : Catalog) (s : ℕ) → (without s (pids_where test M) ≡ []) ↔ ((t : ℕ) (x : Object) → get M t ≡ Some x → IsTrue (test x) → t ≡ s)

-- where keys are unique, the holder of a key is listed alone
abbrev pub HolderIsOne : Type 0
HolderIsOne = (S : Schema) (M : Catalog) → IsUnique S M → (k : KeyNo) (bytes : List ℕ) (s : ℕ) (object : Object) → get M s ≡ Some object → IsTrue (holds S k bytes object) → holders S M k bytes ≡ pid_of (s, object) ∷ []

-- ---- the total

abbrev pub TotalWithout : Type 0
TotalWithout = (S : Schema) (M : Catalog) (s : ℕ) → total S (remove M s) + weight_at S M s ≡ total S M

abbrev pub TotalWith : Type 0
TotalWith = (S : Schema) (M : Catalog) (s : ℕ) (object : Object) → total S (insert M s object) + weight_at S M s ≡ total S M + weight S object

-- ---- unique keys

abbrev pub UniqueWithout : Type 0
UniqueWithout = (S : Schema) (M : Catalog) (s : ℕ) → IsUnique S M → IsUnique S (remove M s)

-- no other object than that with the serial holds a key with the bytes that the object has
abbrev pub HasNoRival : Schema → Catalog → ℕ → Object → Type 0
HasNoRival S M s object = (k : KeyNo) (bytes : List ℕ) → IsTrue (holds S k bytes object) → without s (holders S M k bytes) ≡ []

-- an object may be put there exactly where the others are unique and it has no rival
abbrev pub UniqueWith : Type 0
UniqueWith = (S : Schema) (M : Catalog) (s : ℕ) (object : Object) → IsUnique S (insert M s object) ↔ (IsUnique S (remove M s) × HasNoRival S M s object)
