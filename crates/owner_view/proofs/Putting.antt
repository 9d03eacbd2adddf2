-- What an owner puts: the keys that come may be put, and the holders of keys stay known.
use Rattle.std.proofs.Common.{ℕ, ◌+◌, ◌≡◌, List, None, Some, refl, sym, ap, subst, ◌∙◌, IsTrue}
use Rattle.std.specs.Prelude.{if◌then◌else◌}
use Rattle.std.specs.Cmp.{nat_cmp_total}
use Rattle.std.specs.FinMap.{insert, len, len-insert, contains_key}
use Rattle.type_layout.specs.declared.schema.Schema.{Schema}
use Rattle.pss_catalog.specs.Catalog.{Catalog}
use Rattle.pss_machine.specs.Changes.{Changes}
use Rattle.owner_view.specs.declared.owned.Owned.{Owned}
use Rattle.owner_view.specs.declared.states.Slot.{Slot}
use Rattle.owner_view.specs.declared.states.Slot.TheVariants as slot
use Rattle.owner_view.specs.declared.step.NewState.{NewState}
use Rattle.storage_home.specs.Indexes.{KeyIndexes, lists, TurnsFound, KeepsKeysReserved, MayPut}
use Rattle.owner_view.specs.Keyed.{Pair, keys_of}
use Rattle.owner_view.specs.Overlay.{changes_in, indexes_in, FoundAfter, HasHolders}
use Rattle.owner_view.specs.Owned.{MayPutIn}
use Rattle.owner_view.specs.Seen.{plain_object}
use Rattle.owner_view.specs.Sized.{IsSlotSized}
use Rattle.owner_view.specs.States.{slot_state, with_told}
use Rattle.owner_view.specs.Steps.{state_put, MayStand}
use Rattle.owner_view.specs.Views.{seen_with}
use Rattle.owner_view.proofs.Freeing.{may_put}
use Rattle.owner_view.proofs.Owning.{holder_after}

-- ---- a state is put

-- one that may stand is no mere reservation
pub told_insert : (S : Schema) (V : Catalog) (serial : ℕ) (s : Slot) (c : Changes) → MayStand S V serial s → with_told (slot_state s) serial c ≡ insert c serial (state_put s)
told_insert S V serial slot.Reserved c never = absurd never
told_insert S V serial slot.Gone c may = refl
told_insert S V serial (slot.There object) c may = refl

module _ (owned : Owned) (put : NewState) (may : MayPutIn owned put) where
  abbrev S : Schema
  S = may.schema

  abbrev changes : Changes
  changes = changes_in owned.overlay

  abbrev V : Catalog
  V = seen_with may.catalog changes

  pub has_may : (between : KeyIndexes) → TurnsFound (indexes_in owned.overlay) between put.pairs.had.items None → KeepsKeysReserved (indexes_in owned.overlay) between → MayPut between put.pairs.has.items
  has_may between turned keeps = subst (MayPut between) (sym may.is.has) (by put.slot may.is.may may.is.has)
    where
      by : (s : Slot) → MayStand S V put.serial s → put.pairs.has.items ≡ keys_of S (state_put s) → MayPut between (keys_of S (state_put s))
      by slot.Reserved stands has = absurd stands
      by slot.Gone stands has = tt
      by (slot.There object) stands has =
          may_put S may.catalog changes put.serial (plain_object object) (indexes_in owned.overlay) between may.unique may.under.holders
          (subst (λ (pairs : List Pair). TurnsFound (indexes_in owned.overlay) between pairs None) may.is.had turned)
          may.sound stands.0.home stands.0.there stands.1
          (λ key bytes is. keeps key bytes ∙ may.ready.reserved key bytes (subst (λ (pairs : List Pair). IsTrue (lists pairs key bytes)) (sym has) is))

  pub indexed_after :
      (new : Owned) → changes_in new.overlay ≡ with_told (slot_state put.slot) put.serial changes → FoundAfter (indexes_in owned.overlay) (indexes_in new.overlay) put.serial put.pairs.had.items put.pairs.has.items
      → HasHolders S (changes_in new.overlay) (indexes_in new.overlay)
  indexed_after new told found =
      subst (λ c. HasHolders S c (indexes_in new.overlay)) (sym (told ∙ told_insert S V put.serial put.slot changes may.is.may))
      (holder_after S may.catalog changes put.serial (state_put put.slot) (indexes_in owned.overlay) (indexes_in new.overlay) may.unique may.under.holders
      (subst (λ (pairs : List Pair). FoundAfter (indexes_in owned.overlay) (indexes_in new.overlay) put.serial pairs (keys_of S (state_put put.slot))) may.is.had
      (subst (λ (pairs : List Pair). FoundAfter (indexes_in owned.overlay) (indexes_in new.overlay) put.serial put.pairs.had.items pairs) may.is.has found)))

  -- the length of what is put is known
  pub sized_put : IsSlotSized S (Some put.slot)
  sized_put = by put.slot may.is.may
    where
      by : (s : Slot) → MayStand S V put.serial s → IsSlotSized S (Some s)
      by slot.Reserved stands = tt
      by slot.Gone stands = tt
      by (slot.There object) stands = stands.2

  pub counted_after : (new : Owned) → changes_in new.overlay ≡ with_told (slot_state put.slot) put.serial changes → new.changed ≡ (if contains_key changes put.serial then owned.changed else owned.changed + 1) → new.changed ≡ len (changes_in new.overlay)
  counted_after new told counted =
      counted ∙ ap (λ (n : ℕ). if contains_key changes put.serial then n else n + 1) may.counted
      ∙ sym (ap len (told ∙ told_insert S V put.serial put.slot changes may.is.may) ∙ len-insert nat_cmp_total changes put.serial (state_put put.slot))
