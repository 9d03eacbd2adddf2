-- That what owners changed may be stored.
use Rattle.std.specs.Prelude.{ℕ, ◌≡◌, ◌<◌, ◌≤◌, ◌+◌, ◌⊎◌, List, [], ◌∷◌, length, Option, Some, None, IsSome}
use Rattle.std.specs.FinMap.{get}
use Rattle.type_layout.specs.declared.schema.Schema.{Schema}
use Rattle.type_layout.specs.Sound.{IsSoundSchema}
use Rattle.pss_catalog.specs.Catalog.{Object, Catalog, IsGiven, IsUnique, IsGood}
use Rattle.pss_catalog.specs.Changes.{Change, over}
use Rattle.pss_machine.specs.declared.limits.Limits.{Limits}
use Rattle.pss_machine.specs.Owners.{Owner, net}
use Rattle.pss_machine.specs.Run.{Said, first, run}
use Rattle.pss_laws.specs.Good.{IsFine}

-- by rising serials, from one on
abbrev pub RiseFrom : ℕ → List Change → Type 0
RiseFrom low [] = Unit {0}
RiseFrom low (c ∷ cs) = (low ≤ c.serial) × RiseFrom (c.serial + 1) cs

abbrev pub EachChange : (Change → Type 0) → List Change → Type 0
EachChange P [] = Unit {0}
EachChange P (c ∷ cs) = P c × EachChange P cs

-- an object that comes or stays is fine, and of the home that it had; one that goes is there
abbrev pub MayBecome : Schema → ℕ → Catalog → ℕ → Option Object → Type 0
MayBecome S next M serial None = IsSome (get M serial)
MayBecome S next M serial (Some object) = IsFine S next serial object × ((old : Object) → get M serial ≡ Some old → old.home ≡ object.home)

-- one change at least and few at most, by rising serials that were given, each of which may be, after which keys are unique
pub record AreStorable (S : Schema) (most next : ℕ) (M : Catalog) (changes : List Change) : Type 0 where
  pub some : 0 < length changes
  pub few : length changes ≤ most
  pub rise : RiseFrom 0 changes
  pub each : EachChange (λ c. IsGiven next c.serial × MayBecome S next M c.serial c.state) changes
  pub unique : IsUnique S (over M changes)

-- a commit that changes nothing stores nothing
abbrev pub NothingOrStorable : Schema → ℕ → ℕ → Catalog → List Change → Type 0
NothingOrStorable S most next M changes = (changes ≡ []) ⊎ AreStorable S most next M changes

-- so are the net changes of each owner, at any time in a run from a good catalog; that a commit has room is told by effects_are_allowed
abbrev pub OwnersAreStorable : Type 0
OwnersAreStorable =
    (S : Schema) (limits : Limits) (M : Catalog) (next : ℕ) (lines : List Said) → IsSoundSchema S → limits.total ≤ 67108864 → IsGood S M next
    → (n : ℕ) (owner : Owner) → get (run S limits (first M next) lines).kept.owners n ≡ Some owner
    → NothingOrStorable S limits.changes (run S limits (first M next) lines).kept.next (run S limits (first M next) lines).kept.catalog (net (run S limits (first M next) lines).kept.catalog owner)
