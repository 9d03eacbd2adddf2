-- What is kept of an owner, what may be asked of it, and what becomes of it.
use Rattle.std.specs.Prelude.{ℕ, ◌≡◌, ◌<◌, Option, Some, None}
use Rattle.std.specs.FinMap.{get, len}
use Rattle.type_layout.specs.declared.schema.Schema.{Schema}
use Rattle.type_layout.specs.Sound.{IsSoundSchema}
use Rattle.pss_catalog.specs.Catalog.{Object, Catalog, IsUnique}
use Rattle.pss_machine.specs.Changes.{Changes, with_changes}
use Rattle.pss_machine.specs.Operations.{PlainOp}
use Rattle.storage_home.specs.declared.parts.Parts.{Parts as Homes}
use Rattle.storage_home.specs.Kept.{IsKept}
use Rattle.owner_view.specs.declared.owned.Owned.{Owned}
use Rattle.owner_view.specs.declared.step.NewState.{NewState}
use Rattle.owner_view.specs.Fitting.{FitsOp}
use Rattle.owner_view.specs.Overlay.{changes_in, indexes_in, slots_in, IsReady, HasHolders}
use Rattle.owner_view.specs.Seen.{Fits}
use Rattle.owner_view.specs.Sized.{AreSized}
use Rattle.owner_view.specs.Steps.{IsPut, changes_put}
use Rattle.owner_view.specs.Views.{seen_with}

-- what it changed, by serial
abbrev pub changed_by : Owned → Changes
changed_by owned = changes_in owned.overlay

-- its counter is the number of its changes
abbrev pub IsCounted : Owned → Type 0
IsCounted owned = owned.changed ≡ len (changed_by owned)

-- all was changed under this schema: the holders of its keys among the changed objects are known, and the lengths of their records
pub record IsUnder (S : Schema) (owned : Owned) : Type 0 where
  pub holders : HasHolders S (changed_by owned) (indexes_in owned.overlay)
  pub sized : AreSized S (slots_in owned.overlay)

-- ---- what may be asked

-- over homes that keep a catalog, where each object that it changed is a record of its home
pub record MayLook (S : Schema) (homes : Homes) (owned : Owned) : Type 0 where
  pub catalog : Catalog
  pub kept : IsKept S catalog homes
  pub fits : (s : ℕ) (x : Object) → get (changed_by owned) s ≡ Some (Some x) → Fits S x

-- an operation of the schema, where it sees each key once
pub record MayStep (S : Schema) (homes : Homes) (owned : Owned) (op : PlainOp) : Type 0 where
  pub look : MayLook S homes owned
  pub fits_op : FitsOp S op
  pub unique : IsUnique S (seen_with look.catalog (changed_by owned))
  pub under : IsUnder S owned

-- ---- steps that are taken

-- nothing that can be told of the owner has changed
pub record IsSame (old new : Owned) : Type 0 where
  pub level : new.level ≡ old.level
  pub changes : changed_by new ≡ changed_by old
  pub counted : IsCounted old → IsCounted new
  pub under : (S : Schema) → IsUnder S old → IsUnder S new

-- what is put may be put without memory
abbrev pub IsReadyFor : Option NewState → Owned → Type 0
IsReadyFor None owned = Unit {0}
IsReadyFor (Some put) owned = IsReady put.serial put.pairs.has.items owned.overlay

-- what may be put: a step puts it on what the owner sees, there is room for it, and the owner may change one object more
pub record MayPutIn (owned : Owned) (put : NewState) : Type 0 where
  pub schema : Schema
  pub catalog : Catalog
  pub sound : IsSoundSchema schema
  pub unique : IsUnique schema (seen_with catalog (changed_by owned))
  pub under : IsUnder schema owned
  pub is : IsPut schema (seen_with catalog (changed_by owned)) put
  pub ready : IsReadyFor (Some put) owned
  pub counted : IsCounted owned
  pub few : len (changed_by owned) < 4294967295

-- the owner has put something
pub record HasPut (old new : Owned) (put : NewState) : Type 0 where
  pub level : new.level ≡ old.level
  pub changes : changed_by new ≡ with_changes (changed_by old) (changes_put (Some put))
  pub counted : IsCounted new
  pub under : (may : MayPutIn old put) → IsUnder may.schema new
