-- An owner that has changed nothing, or of which nothing that can be told has changed.
use Rattle.std.proofs.Common.{◌≡◌, [], Option, None, Some, sym, ap, subst, ◌∙◌}
use Rattle.std.specs.Ordering.{nat_cmp}
use Rattle.std.specs.FinMap.{get, empty, len, get-empty, len-empty}
use Rattle.type_layout.specs.declared.schema.Schema.{Schema}
use Rattle.type_layout.specs.Schemas.{given}
use Rattle.pss_catalog.specs.Catalog.{Object}
use Rattle.owner_view.specs.declared.owned.Owned.{Owned}
use Rattle.storage_home.specs.Indexes.{index_at}
use Rattle.owner_view.specs.Overlay.{indexes_in, slots_in, HasHolders}
use Rattle.owner_view.specs.Sized.{AreSized}
use Rattle.owner_view.specs.States.{changes_of}
use Rattle.owner_view.specs.Owned.{changed_by, IsCounted, IsUnder}
use Rattle.owner_view.specs.Views.{IsOwnHolder}

-- who has changed nothing holds no key
nothing_held : (o : Owned) → changed_by o ≡ empty → indexes_in o.overlay ≡ [] → (S : Schema) → HasHolders S (changed_by o) (indexes_in o.overlay)
nothing_held o changes indexes S k bytes =
    subst (λ is. IsOwnHolder S (changed_by o) k bytes (given (index_at k.0 is) None (λ index. get index.held bytes))) (sym indexes)
    (λ s x at. (let no : None ≡ Some (Some x) = sym (get-empty nat_cmp s) ∙ ap (λ c. get c s) (sym changes) ∙ at in cc))

pub nothing_changed : (o : Owned) → slots_in o.overlay ≡ [] → changed_by o ≡ empty
nothing_changed o none = ap changes_of none

pub nothing_under : (o : Owned) → slots_in o.overlay ≡ [] → indexes_in o.overlay ≡ [] → (S : Schema) → IsUnder S o
nothing_under o none indexes S = record { holders = nothing_held o (nothing_changed o none) indexes S; sized = subst (AreSized S) (sym none) (λ q. tt) }

pub nothing_counted : (o : Owned) → changed_by o ≡ empty → o.changed ≡ 0 → IsCounted o
nothing_counted o changes count = count ∙ sym (ap len changes ∙ len-empty nat_cmp (Option Object))
