-- What the commands that have nothing to do with the store, and a checkpoint, make of what is stored.
use Rattle.std.proofs.Common.{ℕ, ◌≡◌, List, Option, Some, None, IfSome, sym, ap, subst}
use Rattle.std.specs.Prelude.{is_some}
use Rattle.pss_disk.specs.Moments.{Moment, Through}
use Rattle.type_layout.specs.declared.schema.Schema.{Schema}
use Rattle.pss_catalog.specs.Catalog.{Catalog}
use Rattle.page_store.specs.Stores.{AllHave}
use Rattle.pss_machine.specs.declared.command.Command.{Command}
use Rattle.pss_machine.specs.declared.command.Command.TheVariants as command
use Rattle.pss_machine.specs.Kept.{Kept}
use Rattle.pss_machine.specs.Effects.{Effect, Stays}
use Rattle.pss_machine.specs.Deciding.{decision}
use Rattle.pss_machine.specs.Moving.{moved}
use Rattle.pss_recovery.specs.declared.parts.Parts.{Parts as Store}
use Rattle.pss_recovery.specs.Mounted.{IsMounted, StandsEither}
use Rattle.pss_recovery.specs.Stands.{Stands}
use Rattle.connector_parts.specs.declared.parts.Parts.{Parts}
use Rattle.commit_saving.specs.Saving.{IfTold, saved_by}
use Rattle.commit_saving.proofs.Stored.{told_there, either_of}
use Rattle.commit_calls.proofs.Commitments.{KeepsStored, becomes_same, passes_none}
use Rattle.connector.specs.Storing.{IsInMemory}
use Rattle.connector.proofs.InMemory.{in_memory_nothing}

-- the effect of a command
abbrev effect_of : Parts → Kept → Command → Effect
effect_of p k x = (decision p.schema p.limits k x).effect

-- ---- nothing to do with the store

module _ (p : Parts) (x : Command) (memory : IsInMemory x) (k : Kept) (store : Store) where
  nothing : KeepsStored k (effect_of p k x)
  nothing = in_memory_nothing p.schema p.limits k x memory

  pub memory_saved : (content : Option (List ℕ)) (saved : ℕ) → IfSome content (λ octets. IsMounted p.schema k.catalog saved store octets → IfTold content (IsMounted p.schema (moved k (effect_of p k x)).catalog (saved_by k saved (effect_of p k x)) store))
  memory_saved = becomes_same p.schema k (effect_of p k x) nothing store

  pub memory_images : (content : Option (List ℕ)) (moments : List Moment) (saved : ℕ) → IfSome content (λ octets. IsMounted p.schema k.catalog saved store octets → Through moments moments (AllHave (StandsEither p.schema k.catalog saved (moved k (effect_of p k x)).catalog (saved_by k saved (effect_of p k x)))))
  memory_images = passes_none p.schema k (effect_of p k x) nothing store

  pub memory_next : store.next ≡ saved_by k store.next (effect_of p k x)
  memory_next = sym (nothing.saved store.next)

-- ---- a checkpoint

still_told : (P Q : List ℕ → Type 0) (old new : Option (List ℕ)) → is_some new ≡ is_some old → IfSome old (λ c. P c → IfSome new Q) → IfSome old (λ c. P c → IfTold new Q)
still_told P Q None new told made = tt
still_told P Q (Some c) new told made = λ p. told_there Q new told (made p)

either_came : (S : Schema) (M N : Catalog) (saved last : ℕ) (before : Store) (old : Option (List ℕ)) (a b : List Moment) → IfSome old (λ c. IsMounted S M saved before c → Through a b (AllHave (Stands S M saved)))
    → IfSome old (λ c. IsMounted S M saved before c → Through a b (AllHave (StandsEither S M saved N last)))
either_came S M N saved last before None a b came = tt
either_came S M N saved last before (Some c) a b came = λ mounted. either_of S M N saved last a b b (came mounted)

module _ (p : Parts) (x : Command) (is : x ≡ command.Checkpoint) (before after : Store) (old new : Option (List ℕ)) (k : Kept) where
  nothing_moves : effect_of p k x ≡ Stays
  nothing_moves = ap (effect_of p k) is

  pub checkpoint_saved : is_some new ≡ is_some old → ((S : Schema) (M : Catalog) (next : ℕ) → IfSome old (λ c. IsMounted S M next before c → IfSome new (IsMounted S M next after)))
      → (saved : ℕ) → IfSome old (λ c. IsMounted p.schema k.catalog saved before c → IfTold new (IsMounted p.schema (moved k (effect_of p k x)).catalog (saved_by k saved (effect_of p k x)) after))
  checkpoint_saved told made saved =
      subst (λ (e : Effect). IfSome old (λ c. IsMounted p.schema k.catalog saved before c → IfTold new (IsMounted p.schema (moved k e).catalog (saved_by k saved e) after))) (sym nothing_moves)
      (still_told (IsMounted p.schema k.catalog saved before) (IsMounted p.schema k.catalog saved after) old new told (made p.schema k.catalog saved))

pub checkpoint_images : (p : Parts) (x : Command) (before : Store) (old : Option (List ℕ)) (a b : List Moment) → ((S : Schema) (M : Catalog) (next : ℕ) → IfSome old (λ c. IsMounted S M next before c → Through a b (AllHave (Stands S M next))))
    → (k : Kept) (saved : ℕ) → IfSome old (λ c. IsMounted p.schema k.catalog saved before c → Through a b (AllHave (StandsEither p.schema k.catalog saved (moved k (effect_of p k x)).catalog (saved_by k saved (effect_of p k x)))))
checkpoint_images p x before old a b came k saved = either_came p.schema k.catalog (moved k (effect_of p k x)).catalog saved (saved_by k saved (effect_of p k x)) before old a b (came p.schema k.catalog saved)
