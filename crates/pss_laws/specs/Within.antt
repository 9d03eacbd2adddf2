-- Changes that lie within what is held.
use Rattle.std.specs.Prelude.{ℕ, ◌≡◌, ◌==◌, ◌⊎◌, Bool, IsTrue, List, [], ◌∷◌}
use Rattle.std.specs.List.{list_any}
use Rattle.type_layout.specs.declared.schema.Schema.{Schema}
use Rattle.pss_catalog.specs.Catalog.{Catalog}
use Rattle.pss_catalog.specs.Changes.{Change, over}
use Rattle.pss_machine.specs.declared.lock.Resource.{Resource}
use Rattle.pss_machine.specs.declared.lock.Resource.TheVariants as resource
use Rattle.pss_machine.specs.declared.lock.Mode.{Mode}
use Rattle.pss_machine.specs.declared.lock.Mode.TheVariants.{M as Many, X as Write}
use Rattle.pss_machine.specs.declared.lock.Need.{Need}
use Rattle.pss_laws.specs.Alike.{Alike}

abbrev pub Among : List Need → Need → Type 0
Among [] need = ⊥
Among (x ∷ xs) need = (x ≡ need) ⊎ Among xs need

-- how a resource is held to be changed
abbrev pub changing : Resource → Mode
changing (resource.Object s) = Write
changing (resource.Key k bytes) = Write
changing (resource.Extent h) = Many

abbrev pub to_change : Resource → Need
to_change r = record { resource = r; mode = changing r }

-- one of the changes is of this serial
abbrev pub is_changed : List Change → ℕ → Bool
is_changed cs s = list_any (λ c. c.serial == s) cs

-- each object that changes is held to be written, and at whatever is not held to be changed the catalog stays alike
pub record LieWithin (S : Schema) (M : Catalog) (cs : List Change) (Held : Need → Type 0) : Type 0 where
  pub objects : (s : ℕ) → IsTrue (is_changed cs s) → Held (to_change (resource.Object s))
  pub others : (r : Resource) → (Held (to_change r) → ⊥) → Alike S M (over M cs) r
