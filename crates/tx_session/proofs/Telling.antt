-- What is told of an owner that is there.
use Rattle.std.proofs.Common.{◌≡◌, Some, None, sym, ap, ◌∙◌}
use Rattle.std.specs.FinMap.{get}
use Rattle.pss_base.specs.declared.owner.OwnerNo.{OwnerNo}
use Rattle.pss_machine.specs.Owners.{Owner}
use Rattle.owner_view.specs.declared.owned.Owned.{Owned}
use Rattle.tx_session.specs.declared.parts.Parts.{Parts}
use Rattle.owner_view.specs.Owned.{changed_by}
use Rattle.tx_session.specs.Kept.{owned_at}
use Rattle.tx_session.specs.Owners.{plain_owner, owners_in}
use Rattle.tx_session.proofs.Turns.{is_owner, no_owner}

same_one : {A : Type 0} (x y : A) → Some x ≡ Some y → x ≡ y
same_one x y e = cc

module _ (value parts : Parts) (is : parts ≡ value) (n : OwnerNo) (o : Owner) (there : get (owners_in value) n.0 ≡ Some o) where
  pub changes_told : (owned : Owned) → Some owned ≡ owned_at n.0 parts.table → changed_by owned ≡ o.changes
  changes_told owned at =
      ap (λ (x : Owner). x.changes) (same_one (plain_owner parts.locks n.0 owned) o (sym (is_owner parts.locks parts.table n.0 owned (sym at)) ∙ ap (λ (p : Parts). get (owners_in p) n.0) is ∙ there))

  pub never_none : None ≡ owned_at n.0 parts.table → {A : Type 0} → A
  never_none none = (let no : None ≡ Some o = sym (no_owner parts.locks parts.table n.0 (sym none)) ∙ ap (λ (p : Parts). get (owners_in p) n.0) is ∙ there in cc)
