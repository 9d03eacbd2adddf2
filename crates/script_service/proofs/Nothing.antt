-- A line that says no command, or one that stores nothing, leaves the store.
use Rattle.std.proofs.Common.{ℕ, ◌≡◌, List, Option, Some, None, IfSome, refl, sym, subst}
use Rattle.pss_disk.specs.Moments.{Moment, Through}
use Rattle.pss_disk.proofs.Passing.{none_came}
use Rattle.page_store.specs.Stores.{AllHave}
use Rattle.type_layout.specs.declared.schema.Schema.{Schema}
use Rattle.pss_machine.specs.declared.command.Command.TheVariants as command
use Rattle.pss_machine.specs.declared.limits.Limits.{Limits}
use Rattle.pss_machine.specs.Kept.{Kept}
use Rattle.pss_catalog.specs.Catalog.{Catalog}
use Rattle.pss_machine.specs.Effects.{Effect, Stays}
use Rattle.pss_machine.specs.Moving.{moved}
use Rattle.pss_machine.specs.Run.{Said, Silent, Says, Wrong}
use Rattle.pss_recovery.specs.declared.parts.Parts.{Parts as Store}
use Rattle.pss_recovery.specs.Mounted.{IsMounted, StandsEither}
use Rattle.commit_saving.specs.Saving.{BecomesSaved, IfTold, IsSavedThroughout, StoresNothing, saved_by}
use Rattle.connector.specs.Storing.{IsUnstored}
use Rattle.script_service.specs.Turns.{effect_of}

module _ {W : Type 0} (content : W → Option (List ℕ)) (history : W → List Moment) (S : Schema) (limits : Limits) (k : Kept) (store : Store) (w : W) where
  stays : BecomesSaved content S k Stays store store w w
  stays saved = by (content w)
    where
      by : (o : Option (List ℕ)) → IfSome o (λ octets. IsMounted S k.catalog saved store octets → IfTold o (IsMounted S k.catalog saved store))
      by None = tt
      by (Some octets) = λ mounted. (octets, refl, mounted)

  passes : IsSavedThroughout content history S k Stays store w w
  passes saved = by (content w)
    where
      by : (o : Option (List ℕ)) → IfSome o (λ octets. IsMounted S k.catalog saved store octets → Through (history w) (history w) (AllHave (StandsEither S k.catalog saved k.catalog saved)))
      by None = tt
      by (Some octets) = λ mounted. none_came (history w) (AllHave (StandsEither S k.catalog saved k.catalog saved))

  pub stays_silent : (told : Said) → Silent ≡ told → BecomesSaved content S k (effect_of S limits k told) store store w w
  stays_silent told is = subst (λ (t : Said). BecomesSaved content S k (effect_of S limits k t) store store w w) is stays

  pub passes_silent : (told : Said) → Silent ≡ told → IsSavedThroughout content history S k (effect_of S limits k told) store w w
  passes_silent told is = subst (λ (t : Said). IsSavedThroughout content history S k (effect_of S limits k t) store w w) is passes

  pub stays_wrong : (column : ℕ) (told : Said) → Wrong column ≡ told → BecomesSaved content S k (effect_of S limits k told) store store w w
  stays_wrong column told is = subst (λ (t : Said). BecomesSaved content S k (effect_of S limits k t) store store w w) is stays

  pub passes_wrong : (column : ℕ) (told : Said) → Wrong column ≡ told → IsSavedThroughout content history S k (effect_of S limits k told) store w w
  passes_wrong column told is = subst (λ (t : Said). IsSavedThroughout content history S k (effect_of S limits k t) store w w) is passes

-- what is so of a line that stores nothing is so of one that says no command
pub silent_still : {A : Type 0} (S : Schema) (limits : Limits) (k : Kept) (told : Said) → told ≡ Silent → ((told ≡ Says command.Checkpoint → ⊥) → StoresNothing k (effect_of S limits k told) → A) → A
silent_still S limits k Silent is still = still (λ never. cc) tt
silent_still S limits k (Wrong column) is still = absurd cc
silent_still S limits k (Says x) is still = absurd cc

-- ---- a command that stores nothing

pub unstored_stays : {W : Type 0} (content : W → Option (List ℕ)) (S : Schema) (k : Kept) (e : Effect) → IsUnstored k e → (store : Store) (w : W) → BecomesSaved content S k e store store w w
unstored_stays content S k e unstored store w saved = by (content w)
  where
    by : (o : Option (List ℕ)) → IfSome o (λ octets. IsMounted S k.catalog saved store octets → IfTold o (IsMounted S (moved k e).catalog (saved_by k saved e) store))
    by None = tt
    by (Some octets) = λ mounted.
        (octets, refl, subst (λ (M : Catalog). IsMounted S M (saved_by k saved e) store octets) (sym unstored.catalog) (subst (λ (next : ℕ). IsMounted S k.catalog next store octets) (sym (unstored.saved saved)) mounted))
