-- What holds between commands of the catalog and of all owners' views of it, and that each command keeps it.
use Rattle.std.specs.Prelude.{ℕ, ◌≡◌, ◌≤◌, List, false, IsTrue, Some, None}
use Rattle.std.specs.FinMap.{get}
use Rattle.std.specs.FinSet as set
use Rattle.type_layout.specs.declared.key.KeyNo.{KeyNo}
use Rattle.type_layout.specs.declared.schema.Schema.{Schema}
use Rattle.pss_catalog.specs.Catalog.{Catalog, holds, IsUnique, IsGood}
use Rattle.pss_machine.specs.declared.limits.Limits.{Limits}
use Rattle.pss_machine.specs.declared.command.Command.{Command}
use Rattle.pss_machine.specs.declared.lock.Need.{Need}
use Rattle.pss_machine.specs.declared.lock.Resource.TheVariants as resource
use Rattle.pss_machine.specs.Changes.{listed}
use Rattle.pss_machine.specs.Needs.{clash}
use Rattle.pss_machine.specs.Owners.{Owner, Owners, view, has_changed}
use Rattle.pss_machine.specs.Kept.{Kept}
use Rattle.pss_machine.specs.Deciding.{decision}
use Rattle.pss_machine.specs.Moving.{moved}
use Rattle.pss_machine.specs.Run.{Said, first, run}
use Rattle.pss_laws.specs.Alike.{home_where, is_of_home, AlikeIn}
use Rattle.pss_laws.specs.Within.{to_change, LieWithin}

-- the owner has locked this
abbrev pub Holds : Owner → Need → Type 0
Holds owner need = IsTrue (set.contains owner.locks need)

-- no object has this serial or a higher one
abbrev pub NoneFrom : ℕ → Catalog → Type 0
NoneFrom next M = (s : ℕ) → next ≤ s → get M s ≡ None

-- an owner beside a catalog and the next serial
pub record IsSoundOwner (S : Schema) (M : Catalog) (next : ℕ) (owner : Owner) : Type 0 where
  -- no key has two holders in its view
  pub unique : IsUnique S (view M owner)
  -- it has locked what it changed, and at whatever it has not locked to be changed its view is as the catalog
  pub within : LieWithin S M (listed owner.changes) (Holds owner)
  -- its view has no serial that was not given
  pub given : NoneFrom next (view M owner)

-- no lock of an owner clashes with one of another
abbrev pub NoneClash : Owners → Type 0
NoneClash owners = (m n : ℕ) (a b : Owner) (x y : Need) → get owners m ≡ Some a → get owners n ≡ Some b → (m ≡ n → ⊥) → Holds a x → Holds b y → clash x y ≡ false

pub record AreSound (S : Schema) (M : Catalog) (next : ℕ) (owners : Owners) : Type 0 where
  pub unique : IsUnique S M
  pub given : NoneFrom next M
  pub each : (n : ℕ) (owner : Owner) → get owners n ≡ Some owner → IsSoundOwner S M next owner
  pub apart : NoneClash owners

-- so of what the machine keeps
abbrev pub IsSound : Schema → Kept → Type 0
IsSound S k = AreSound S k.catalog k.next k.owners

-- ---- that it is kept

-- by each command, whatever it comes to
abbrev pub CommandsKeepSound : Type 0
CommandsKeepSound = (S : Schema) (limits : Limits) (k : Kept) (command : Command) → IsSound S k → IsSound S (moved k (decision S limits k command).effect)

-- by runs over any lines, from a catalog with unique keys that has only serials which were given
abbrev pub RunsStaySound : Type 0
RunsStaySound = (S : Schema) (limits : Limits) (M : Catalog) (next : ℕ) (lines : List Said) → IsUnique S M → NoneFrom next M → IsSound S (run S limits (first M next) lines).kept

-- a good catalog has only serials that were given
abbrev pub GoodHasGiven : Type 0
GoodHasGiven = (S : Schema) (M : Catalog) (next : ℕ) → IsGood S M next → NoneFrom next M

-- ---- what comes of it

-- the owner has locked to be written each object that it has changed, maybe back to what it was
abbrev pub ChangedObjectsAreLocked : Type 0
ChangedObjectsAreLocked = (S : Schema) (M : Catalog) (next : ℕ) (owner : Owner) → IsSoundOwner S M next owner → (s : ℕ) → IsTrue (has_changed owner s) → Holds owner (to_change (resource.Object s))

-- and each key with the bytes of an object that holds it in the view or in the catalog, but not alike in both
abbrev pub ChangedKeysAreLocked : Type 0
ChangedKeysAreLocked =
    (S : Schema) (M : Catalog) (next : ℕ) (owner : Owner) → IsSoundOwner S M next owner → (k : KeyNo) (bytes : List ℕ) (s : ℕ)
    → (home_where (holds S k bytes) (get M s) ≡ home_where (holds S k bytes) (get (view M owner) s) → ⊥) → Holds owner (to_change (resource.Key k.0 bytes))

-- and it may add to and take from each home of which an object came or went
abbrev pub ChangedExtentsAreLocked : Type 0
ChangedExtentsAreLocked =
    (S : Schema) (M : Catalog) (next : ℕ) (owner : Owner) → IsSoundOwner S M next owner → (h s : ℕ) → (home_where (is_of_home h) (get M s) ≡ home_where (is_of_home h) (get (view M owner) s) → ⊥) → Holds owner (to_change (resource.Extent h))

-- what an owner has locked to be read or written is in each other owner's view as in the catalog
abbrev pub LockedStaysAlike : Type 0
LockedStaysAlike =
    (S : Schema) (M : Catalog) (next : ℕ) (owners : Owners) → AreSound S M next owners
    → (m n : ℕ) (a b : Owner) (x : Need) → get owners m ≡ Some a → get owners n ≡ Some b → (m ≡ n → ⊥) → Holds b x → AlikeIn S M (view M a) x.mode x.resource
