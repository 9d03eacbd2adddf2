-- What a sound owner has locked.
use Rattle.std.proofs.Common.{◌≡◌, ℕ, Bool, true, false, refl, sym, ap, ◌∙◌}
use Rattle.std.specs.Prelude.{is_some}
use Rattle.std.specs.FinSet as set
use Rattle.type_layout.specs.declared.schema.Schema.{Schema}
use Rattle.pss_catalog.specs.Catalog.{Catalog}
use Rattle.pss_machine.specs.declared.lock.Resource.{Resource}
use Rattle.pss_machine.specs.declared.lock.Resource.TheVariants as resource
use Rattle.pss_machine.specs.Changes.{listed}
use Rattle.pss_machine.specs.Owners.{Owner, view}
use Rattle.pss_laws.specs.Alike.{Alike}
use Rattle.pss_laws.specs.Within.{to_change}
use Rattle.pss_laws.specs.Sound.{Holds, IsSoundOwner, ChangedObjectsAreLocked, ChangedKeysAreLocked, ChangedExtentsAreLocked, LockedStaysAlike}
use Rattle.pss_laws.proofs.Logic.{unlike}
use Rattle.pss_laws.proofs.Nets.{last_listed, changed_last}
use Rattle.pss_laws.proofs.Standing.{locked_alike}

-- what differs is locked
differing : (S : Schema) (M : Catalog) (next : ℕ) (owner : Owner) → IsSoundOwner S M next owner → (r : Resource) → (Alike S M (view M owner) r → ⊥) → Holds owner (to_change r)
differing S M next owner by r differs = by_lock (set.contains owner.locks (to_change r)) refl
  where
    by_lock : (b : Bool) → set.contains owner.locks (to_change r) ≡ b → b ≡ true
    by_lock true e = refl
    by_lock false e = absurd (differs (by.within.others r (λ h. unlike (sym e ∙ h))))

pub objects_locked : ChangedObjectsAreLocked
objects_locked S M next owner by s e = by.within.objects s (changed_last (listed owner.changes) s ∙ ap is_some (last_listed owner.changes s) ∙ e)

pub keys_locked : ChangedKeysAreLocked
keys_locked S M next owner by k bytes s differs = differing S M next owner by (resource.Key k.0 bytes) (λ alike. differs (alike s))

pub extents_locked : ChangedExtentsAreLocked
extents_locked S M next owner by h s differs = differing S M next owner by (resource.Extent h) (λ alike. differs (alike s))

pub stays_alike : LockedStaysAlike
stays_alike S M next owners sound m n a b x at_m at_n differ has = locked_alike S M next a (sound.each m a at_m) x (λ y has_y. sound.apart m n a b y x at_m at_n differ has_y has)
