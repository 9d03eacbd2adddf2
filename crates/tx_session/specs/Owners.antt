-- The machine's owners, as they are kept, and what may be done with one.
use Rattle.std.specs.Prelude.{ℕ, ◌≡◌, ◌<◌, List, [], ◌∷◌, Some}
use Rattle.std.specs.FinMap.{get, insert, empty, len}
use Rattle.pss_base.specs.declared.owner.OwnerNo.{OwnerNo}
use Rattle.type_layout.specs.declared.schema.Schema.{Schema}
use Rattle.pss_catalog.specs.Catalog.{Object, Catalog, IsUnique}
use Rattle.pss_machine.specs.Operations.{PlainOp}
use Rattle.pss_machine.specs.Owners.{Owner, Owners, Step, view, step_on_view}
use Rattle.storage_home.specs.declared.parts.Parts.{Parts as Homes}
use Rattle.storage_home.specs.Kept.{IsKept}
use Rattle.lock_table.specs.Locks.{Held, held_by}
use Rattle.lock_table.specs.Agreement.{HaveLocks}
use Rattle.owner_view.specs.declared.owned.Owned.{Owned}
use Rattle.tx_session.specs.declared.parts.Parts.{Parts}
use Rattle.owner_view.specs.Fitting.{FitsOp}
use Rattle.owner_view.specs.Owned.{changed_by, IsUnder, IsCounted}
use Rattle.tx_session.specs.Kept.{owned_at}
use Rattle.owner_view.specs.Seen.{Fits}

-- an owner as the machine has it
abbrev pub plain_owner : Held → ℕ → Owned → Owner
plain_owner held n owned = record { level = owned.level; locks = held_by held (record { 0 = n }); changes = changed_by owned }

abbrev pub owners_of : Held → List (OwnerNo × Owned) → Owners
owners_of held [] = empty
owners_of held (e ∷ es) = insert (owners_of held es) e.0.0 (plain_owner held e.0.0 e.1)

-- the machine's owners
abbrev pub owners_in : Parts → Owners
owners_in parts = owners_of parts.locks parts.table

-- all that was changed was changed under this schema
abbrev pub Under : Schema → Parts → Type 0
Under S parts = (n : ℕ) (owned : Owned) → owned_at n parts.table ≡ Some owned → IsUnder S owned

-- each lock is that of an owner, and each owner's changes are counted
pub record AreOwners (parts : Parts) : Type 0 where
  pub locks : HaveLocks (owners_in parts) parts.locks
  pub counted : (n : ℕ) (owned : Owned) → owned_at n parts.table ≡ Some owned → IsCounted owned

-- ---- what may be done

-- an owner is there, and each of its objects is a record of its home
pub record MaySee (S : Schema) (homes : Homes) (owners : Owners) (n : OwnerNo) : Type 0 where
  pub catalog : Catalog
  pub owner : Owner
  pub kept : IsKept S catalog homes
  pub there : get owners n.0 ≡ Some owner
  pub fits : (s : ℕ) (x : Object) → get owner.changes s ≡ Some (Some x) → Fits S x

-- it may act: the operation is of the schema, its view has each key once, and it may change one object more
pub record MayAct (S : Schema) (homes : Homes) (owners : Owners) (n : OwnerNo) (op : PlainOp) : Type 0 where
  pub sees : MaySee S homes owners n
  pub fits_op : FitsOp S op
  pub unique : IsUnique S (view sees.catalog sees.owner)
  pub few : len sees.owner.changes < 4294967295

-- the step that the owner takes where nobody holds it up
abbrev pub step_of : {S : Schema} {homes : Homes} {owners : Owners} {n : OwnerNo} {op : PlainOp} → MayAct S homes owners n op → Step
step_of {S = S} {op = op} m = step_on_view S m.sees.catalog m.sees.owner op
