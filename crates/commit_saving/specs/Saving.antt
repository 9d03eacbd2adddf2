-- What a store stands for beside the objects: the next serial that is stored. A commit that changes an object moves both.
use Rattle.std.specs.Prelude.{ℕ, ◌≡◌, ◌≤◌, List, [], ◌∷◌, length, map, IfSome}
use Rattle.std.specs.declared.option.Option.{Option}
use Rattle.std.specs.declared.option.Option.TheVariants.{Some}
use Rattle.std.specs.FinMap.{get}
use Rattle.std.specs.List.{AllByRecursion}
use Rattle.pss_base.specs.declared.owner.OwnerNo.{OwnerNo}
use Rattle.pss_base.specs.declared.put.Put.{Put}
use Rattle.type_layout.specs.declared.schema.Schema.{Schema}
use Rattle.type_layout.specs.Schemas.{given}
use Rattle.pss_catalog.specs.Catalog.{Catalog}
use Rattle.pss_catalog.specs.Changes.{Change as Step}
use Rattle.storage_home.specs.declared.change.Change.{Change}
use Rattle.pss_disk.specs.Moments.{Moment, Through}
use Rattle.page_store.specs.Stores.{AllHave}
use Rattle.page_format.specs.Objects.{IsRightPut}
use Rattle.pss_recovery.specs.declared.body.Body.{Body}
use Rattle.pss_recovery.specs.declared.parts.Parts.{Parts as Store}
use Rattle.pss_recovery.specs.Mounted.{IsMounted, StandsEither}
use Rattle.pss_recovery.specs.Replaying.{IsChanged}
use Rattle.pss_recovery.specs.Stands.{Stands}
use Rattle.pss_machine.specs.Owners.{net}
use Rattle.pss_machine.specs.Kept.{Kept}
use Rattle.pss_machine.specs.Effects.{Effect, Stays, OpensBasic, OpensTransactional, ClosesBasic, ClosesTransactional, Begins, Associates, Ends, Holds, Steps, Commits, Flushes, RollsBack}
use Rattle.pss_machine.specs.Moving.{moved}

-- the content is told, and this is so of it
abbrev pub IfTold : Option (List ℕ) → (List ℕ → Type 0) → Type 0
IfTold content P = (octets : List ℕ) × (content ≡ Some octets) × P octets

-- ---- one commit

-- what a change leaves in the store
abbrev pub put_of : Change → Put
put_of change = change.put

-- the changes of a commit as a body of the journal
abbrev pub body_for : ℕ → List Change → Body
body_for next changes = record { next = next; puts = map put_of changes }

-- the next serial that is stored after a commit of these changes: it is stored with them, and a commit of none stores nothing
abbrev pub saved_next : {T : Type 0} → (saved next : ℕ) → List T → ℕ
saved_next saved next [] = saved
saved_next saved next (c ∷ cs) = next

-- a commit of these changes makes this other catalog of one
abbrev pub Leaves : Schema → Catalog → (saved next : ℕ) → List Change → Catalog → Type 0
Leaves S M saved next [] N = N ≡ M
Leaves S M saved next (c ∷ cs) N = IsChanged S M saved (body_for next (c ∷ cs)) N

-- by what memory knows, these changes may be stored with this next serial
pub record MaySave (store : Store) (next : ℕ) (changes : List Change) : Type 0 where
  pub few : length changes ≤ 256
  pub each : AllByRecursion IsRightPut (map put_of changes)
  pub later : store.next ≤ next

-- ---- the machine

-- what an owner would change of the committed objects
abbrev pub changed_by : Kept → OwnerNo → List Step
changed_by k n = given (get k.owners n.0) [] (λ owner. net k.catalog owner)

-- an effect stores nothing: it is no commit or flush, or one of an owner that changes nothing
abbrev pub StoresNothing : Kept → Effect → Type 0
StoresNothing k (Commits n) = changed_by k n ≡ []
StoresNothing k (Flushes n) = changed_by k n ≡ []
StoresNothing k _ = Unit {0}

-- the next serial that is stored after an effect, where this one is before
abbrev pub saved_by : Kept → ℕ → Effect → ℕ
saved_by k saved Stays = saved
saved_by k saved (OpensBasic name access) = saved
saved_by k saved (OpensTransactional name access) = saved
saved_by k saved (ClosesBasic s n) = saved
saved_by k saved (ClosesTransactional s) = saved
saved_by k saved (Begins name level) = saved
saved_by k saved (Associates s association) = saved
saved_by k saved (Ends s n failed) = saved
saved_by k saved (Holds s copies) = saved
saved_by k saved (Steps n s step asked) = saved
saved_by k saved (Commits n) = saved_next saved k.next (changed_by k n)
saved_by k saved (Flushes n) = saved_next saved k.next (changed_by k n)
saved_by k saved (RollsBack n) = saved

-- ---- stores over a station, whose functions are given

-- what is mounted, where the content is told, stands for what the machine keeps after an effect
abbrev pub BecomesSaved : {W : Type 0} → (content : W → Option (List ℕ)) → Schema → Kept → Effect → (before after : Store) → (old new : W) → Type 0
BecomesSaved content S k effect before after old new =
    (saved : ℕ) → IfSome (content old) (λ octets. IsMounted S k.catalog saved before octets
    → IfTold (content new) (IsMounted S (moved k effect).catalog (saved_by k saved effect) after))

-- at each moment that came each image stands for what the machine keeps before an effect, or for what it keeps after it
abbrev pub IsSavedThroughout : {W : Type 0} → (content : W → Option (List ℕ)) → (history : W → List Moment) → Schema → Kept → Effect → Store → (old new : W) → Type 0
IsSavedThroughout content history S k effect before old new =
    (saved : ℕ) → IfSome (content old) (λ octets. IsMounted S k.catalog saved before octets
    → Through (history old) (history new) (AllHave (StandsEither S k.catalog saved (moved k effect).catalog (saved_by k saved effect))))

-- at each moment that came each image stands for what the machine keeps before
abbrev pub StaysSaved : {W : Type 0} → (content : W → Option (List ℕ)) → (history : W → List Moment) → Schema → Kept → Store → (old new : W) → Type 0
StaysSaved content history S k before old new =
    (saved : ℕ) → IfSome (content old) (λ octets. IsMounted S k.catalog saved before octets
    → Through (history old) (history new) (AllHave (Stands S k.catalog saved)))
