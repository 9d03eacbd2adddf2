-- What is stored of a commit.
use Rattle.std.specs.Prelude.{ℕ, ◌≡◌, List, IfSome}
use Rattle.std.specs.declared.option.Option.{Option}
use Rattle.type_layout.specs.declared.schema.Schema.{Schema}
use Rattle.pss_disk.specs.Moments.{Moment, Through}
use Rattle.pss_catalog.specs.Catalog.{Catalog}
use Rattle.pss_catalog.specs.Changes.{over}
use Rattle.page_store.specs.Stores.{AllHave}
use Rattle.storage_home.specs.declared.change.Change.{Change}
use Rattle.pss_recovery.specs.declared.parts.Parts.{Parts as Store}
use Rattle.pss_recovery.specs.Mounted.{IsMounted, StandsEither}
use Rattle.pss_machine.specs.Owners.{Owner, net}
use Rattle.pss_machine.specs.Kept.{Kept}
use Rattle.pss_machine.specs.Effects.{Effect}
use Rattle.pss_machine.specs.Moving.{moved}
use Rattle.commit_saving.specs.Saving.{IfTold, Leaves, saved_by, saved_next}

-- an effect makes of the objects what the owner's net changes make of them, and the next serial is stored with these
pub record StoresNet (k : Kept) (owner : Owner) (e : Effect) : Type 0 where
  pub catalog : (moved k e).catalog ≡ over k.catalog (net k.catalog owner)
  pub saved : (saved : ℕ) → saved_by k saved e ≡ saved_next saved k.next (net k.catalog owner)

-- what storing these changes with this next serial makes of the content
abbrev pub Made : (before after : Store) → (old new : Option (List ℕ)) → ℕ → List Change → Type 0
Made before after old new next cs =
    (S : Schema) (M N : Catalog) (saved : ℕ) → Leaves S M saved next cs N → IfSome old (λ octets. IsMounted S M saved before octets → IfTold new (IsMounted S N (saved_next saved next cs) after))

-- and of the moments that come
abbrev pub Came : Store → Option (List ℕ) → (x y : List Moment) → ℕ → List Change → Type 0
Came before old x y next cs =
    (S : Schema) (M N : Catalog) (saved : ℕ) → Leaves S M saved next cs N → IfSome old (λ octets. IsMounted S M saved before octets → Through x y (AllHave (StandsEither S M saved N (saved_next saved next cs))))
