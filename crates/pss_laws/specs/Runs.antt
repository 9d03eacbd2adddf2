-- What holds of every run.
use Rattle.std.specs.Prelude.{ℕ, ◌≡◌, ◌<◌, ◌⊎◌, List, [], ◌∷◌, ◌++◌, length, take}
use Rattle.type_layout.specs.declared.schema.Schema.{Schema}
use Rattle.type_layout.specs.Sound.{IsSoundSchema}
use Rattle.pss_catalog.specs.Catalog.{Catalog, IsUnique}
use Rattle.pss_machine.specs.declared.limits.Limits.{Limits}
use Rattle.pss_machine.specs.declared.level.Level.TheVariants.{Serializable}
use Rattle.pss_machine.specs.Beside.{Member}
use Rattle.pss_machine.specs.Run.{Said, Machine, first, run}
use Rattle.pss_machine.specs.Serial.{Serial, catalog_after, AllUnique, OwnOrLast}
use Rattle.pss_machine.specs.Live.{Live}
use Rattle.pss_laws.specs.Sound.{NoneFrom}

-- in each run over lines under a sound schema, from each catalog with unique keys that has only serials which were given
abbrev pub InEachRun : (Schema → Catalog → ℕ → Machine → Type 0) → Type 0
InEachRun P = (S : Schema) (limits : Limits) (M : Catalog) (next : ℕ) (lines : List Said) → IsSoundSchema S → IsUnique S M → NoneFrom next M → P S M next (run S limits (first M next) lines)

-- what was committed is as if done alone, in the order of commits
abbrev pub RunsAreSerial : Type 0
RunsAreSerial = InEachRun (λ S M next q. Serial S M q.lists.history)

-- the catalog is that after all members of the history
abbrev pub HistoryLeadsToCatalog : Type 0
HistoryLeadsToCatalog = InEachRun (λ S M next q. catalog_after M q.lists.history ≡ q.kept.catalog)

-- no key has two holders at any time
abbrev pub KeysAreAlwaysUnique : Type 0
KeysAreAlwaysUnique = InEachRun (λ S M next q. AllUnique S M q.lists.history)

-- each read-committed owner was answered from its own changes, and else from what was committed last
abbrev pub ReadsAreOwnOrLast : Type 0
ReadsAreOwnOrLast = InEachRun (λ S M next q. OwnOrLast S M q.lists.history q.lists.trace)

-- each reference that is followed, or nil, was there at first, or a create or a set gave it before; and the serials of
-- creates rise from the next one at first on, so each is given once. It is so whatever the schema and the catalog are
abbrev pub RunsAreLive : Type 0
RunsAreLive = (S : Schema) (limits : Limits) (M : Catalog) (next : ℕ) (lines : List Said) → Live M next (run S limits (first M next) lines).lists.trace

-- what is counted as commits is as many as the history has members
abbrev pub CommitsAreCounted : Type 0
CommitsAreCounted = (S : Schema) (limits : Limits) (M : Catalog) (next : ℕ) (lines : List Said) → (run S limits (first M next) lines).kept.commits ≡ length (run S limits (first M next) lines).lists.history

-- each changed an object, or is serializable
abbrev pub ChangedOrSerializable : List Member → Type 0
ChangedOrSerializable [] = Unit {0}
ChangedOrSerializable (x ∷ xs) = ((x.level ≡ Serializable) ⊎ (0 < length x.changes)) × ChangedOrSerializable xs

-- so of each member of the history
abbrev pub MembersChanged : Type 0
MembersChanged = (S : Schema) (limits : Limits) (M : Catalog) (next : ℕ) (lines : List Said) → ChangedOrSerializable (run S limits (first M next) lines).lists.history

-- ---- runs one after the other

-- where a run begins from what the first members of the history of an earlier one leave, those members and its own history are serial
abbrev pub NextRunsAreSerial : Type 0
NextRunsAreSerial =
    InEachRun (λ S M next q. (limits : Limits) (n later : ℕ) (lines : List Said) → NoneFrom later (catalog_after M (take n q.lists.history))
    → Serial S M (take n q.lists.history ++ (run S limits (first (catalog_after M (take n q.lists.history)) later) lines).lists.history))
