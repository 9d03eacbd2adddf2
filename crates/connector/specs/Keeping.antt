-- What a connector keeps.
use Rattle.std.specs.Prelude.{ℕ, ◌≡◌, ◌≤◌, Bool}
use Rattle.type_layout.specs.declared.schema.Schema.{Schema}
use Rattle.pss_machine.specs.declared.limits.Limits.{Limits}
use Rattle.pss_machine.specs.Kept.{Kept}
use Rattle.pss_catalog.specs.Catalog.{Catalog, IsGood}
use Rattle.storage_home.specs.Kept.{IsKept}
use Rattle.pss_recovery.specs.declared.mounting.Mounted.{Mounted}
use Rattle.pss_recovery.specs.declared.parts.Parts.{Parts as Store}
use Rattle.owner_accounts.specs.Reached.{IsReached}
use Rattle.connector_parts.specs.Few as parts
use Rattle.connector_parts.specs.Few.{AreFew}
use Rattle.connector_parts.specs.Stands.{Stands}
use Rattle.connector.specs.declared.connector.Connector.{Connector}

-- the schema that it serves
abbrev pub schema_of : Connector → Schema
schema_of c = c.parts.schema

-- how much there may be at once
abbrev pub limits_of : Connector → Limits
limits_of c = c.parts.limits

-- what is known in memory of its store
abbrev pub store_of : Connector → Store
store_of c = c.store

-- how many commands were performed
abbrev pub performed_by : Connector → ℕ
performed_by c = c.performed

-- commands may be performed
abbrev pub is_live : Connector → Bool
is_live c = c.live

-- no limit is above the standard one
abbrev pub AreWithin : Limits → Type 0
AreWithin = parts.AreWithin

-- it stands for what the machine keeps, to which a run has come, and which counts no more than the commands that were performed; and no
-- serial is stored as the next one that was not given
pub record Keeps (c : Connector) (k : Kept) : Type 0 where
  pub reached : IsReached (schema_of c) (limits_of c) k
  pub limited : AreWithin (limits_of c)
  pub stands : Stands c.parts k
  pub few : AreFew (performed_by c) k
  pub behind : (store_of c).next ≤ k.next

-- some machine keeps what it stands for
pub record AnyKept (c : Connector) : Type 0 where
  pub kept : Kept
  pub keeps : Keeps c kept

-- ---- what is mounted

-- these are its objects, which are a good catalog under its next serial
pub record HasObjects (S : Schema) (M : Catalog) (mounted : Mounted) : Type 0 where
  pub good : IsGood S M mounted.next
  pub kept : IsKept S M mounted.homes
  pub next_ : mounted.store.next ≡ mounted.next

-- it has some
pub record AnyObjects (S : Schema) (mounted : Mounted) : Type 0 where
  pub catalog : Catalog
  pub has : HasObjects S catalog mounted
