-- Committed objects by their octets, and views over them.
use Rattle.std.specs.Prelude.{ℕ, ◌≡◌, List, Option, Some, None}
use Rattle.std.specs.FinMap.{get}
use Rattle.type_layout.specs.declared.home.HomeNo.{HomeNo}
use Rattle.type_layout.specs.declared.schema.Schema.{Schema}
use Rattle.type_layout.specs.Sound.{IsSoundSchema}
use Rattle.pss_catalog.specs.Catalog.{Object, Catalog, IsUnique, object_spelling}
use Rattle.owner_view.specs.declared.view.View.{View}
use Rattle.owner_view.specs.declared.seen.Seen.{Seen as Sight}
use Rattle.owner_view.specs.Seen.{Fits, IsSeen}
use Rattle.owner_view.specs.Overlay.{changes_in, indexes_in, HasHolders}
use Rattle.owner_view.specs.Views.{seen_with}

-- what is answered for a serial: the object's home and its octets, or that there is no object
abbrev pub IsStored : Schema → Catalog → ℕ → Option (HomeNo × List ℕ) → Type 0
IsStored S M serial None = get M serial ≡ None
IsStored S M serial (Some found) = (object : Object) × (get M serial ≡ Some object) × (found.0 ≡ object.home) × (found.1 ≡ object_spelling S object)

-- a view of these objects
pub record Sees {C : Type 0} (shows : C → Schema → Catalog → Type 0) (view : View C) : Type 0 where
  pub catalog : Catalog
  pub sound : IsSoundSchema view.schema.now
  pub shown : shows view.committed.now view.schema.now catalog
  pub unique : IsUnique view.schema.now (seen_with catalog (changes_in view.overlay.now))
  pub holders : HasHolders view.schema.now (changes_in view.overlay.now) (indexes_in view.overlay.now)
  pub fits : (s : ℕ) (x : Object) → get (changes_in view.overlay.now) s ≡ Some (Some x) → Fits view.schema.now x

-- likewise, where nothing need be known of keys
pub record Shows {C : Type 0} (shows : C → Schema → Catalog → Type 0) (view : View C) : Type 0 where
  pub catalog : Catalog
  pub sound : IsSoundSchema view.schema.now
  pub shown : shows view.committed.now view.schema.now catalog
  pub fits : (s : ℕ) (x : Object) → get (changes_in view.overlay.now) s ≡ Some (Some x) → Fits view.schema.now x

-- what is seen at a serial: the object there, or that there is none
abbrev pub IsSeenAt : Schema → Catalog → ℕ → Option Sight → Type 0
IsSeenAt S M serial None = get M serial ≡ None
IsSeenAt S M serial (Some seen) = (object : Object) × (get M serial ≡ Some object) × Fits S object × IsSeen S seen object

-- what is seen of an object: itself, or that it is not there
abbrev pub IsSeenAs : Schema → Option Object → Option Sight → Type 0
IsSeenAs S state None = state ≡ None
IsSeenAs S state (Some seen) = (object : Object) × (state ≡ Some object) × Fits S object × IsSeen S seen object
