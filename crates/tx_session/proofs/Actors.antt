-- An owner that may act, and what is kept of it.
use Rattle.std.proofs.Common.{ℕ, ◌≡◌, ◌<◌, Some, true, false, sym, ap, subst, ◌∙◌}
use Rattle.std.specs.FinMap.{get, len}
use Rattle.std.specs.FinSet as set
use Rattle.pss_base.specs.declared.owner.OwnerNo.{OwnerNo}
use Rattle.type_layout.specs.declared.schema.Schema.{Schema}
use Rattle.pss_catalog.specs.Catalog.{Object, IsUnique}
use Rattle.pss_machine.specs.declared.answer.Answer.TheVariants as answer
use Rattle.pss_machine.specs.Changes.{with_changes}
use Rattle.pss_machine.specs.Operations.{PlainOp, Busy, plain_answer}
use Rattle.pss_machine.specs.Owners.{Owner, view, blocker, stepped}
use Rattle.pss_machine.proofs.Refusing.{alone_free, is_busy}
use Rattle.storage_home.specs.declared.parts.Parts.{Parts as Homes}
use Rattle.lock_table.specs.Locks as table
use Rattle.lock_table.specs.Agreement.{HaveLocks}
use Rattle.lock_table.proofs.Owning.{same_blocker}
use Rattle.owner_view.specs.declared.owned.Owned.{Owned}
use Rattle.tx_session.specs.declared.parts.Parts.{Parts}
use Rattle.owner_view.specs.declared.step.Step.{Step}
use Rattle.owner_view.specs.Steps.{IsStep, MayBePut}
use Rattle.owner_view.specs.Views.{seen_with}
use Rattle.owner_view.specs.Owned.{changed_by, MayLook, MayStep}
use Rattle.tx_session.specs.Kept.{owned_at}
use Rattle.tx_session.specs.Owners.{plain_owner, owners_in, Under, AreOwners, MaySee, MayAct, step_of}
use Rattle.tx_session.specs.Acting.{with_step, MayTake}
use Rattle.owner_view.specs.Seen.{Fits}
use Rattle.tx_session.proofs.Turns.{is_owner, kept_of}

same_one : {A : Type 0} (x y : A) → Some x ≡ Some y → x ≡ y
same_one x y e = cc

-- ---- what is kept of one that is there

module _ (S : Schema) (homes : Homes) (parts : Parts) (n : OwnerNo) (m : MaySee S homes (owners_in parts) n) (owned : Owned) (at : owned_at n.0 parts.table ≡ Some owned) where
  pub is_it : plain_owner parts.locks n.0 owned ≡ m.owner
  is_it = same_one _ _ (sym (is_owner parts.locks parts.table n.0 owned at) ∙ m.there)

  pub its_changes : changed_by owned ≡ m.owner.changes
  its_changes = ap (λ (o : Owner). o.changes) is_it

  pub its_level : owned.level ≡ m.owner.level
  its_level = ap (λ (o : Owner). o.level) is_it

  pub own_fit : (s : ℕ) (x : Object) → get (changed_by owned) s ≡ Some (Some x) → Fits S x
  own_fit s x is = m.fits s x (ap (λ c. get c s) (sym its_changes) ∙ is)

  pub its_view : seen_with m.catalog (changed_by owned) ≡ view m.catalog m.owner
  its_view = ap (seen_with m.catalog) its_changes

-- an owner that may be seen is kept
pub is_kept : (S : Schema) (homes : Homes) (parts : Parts) (n : OwnerNo) (m : MaySee S homes (owners_in parts) n) → (owned : Owned) × (owned_at n.0 parts.table ≡ Some owned)
is_kept S homes parts n m = (let k = kept_of parts.locks parts.table n.0 m.owner m.there in (k.0, k.1))

-- it may look, and act where the owner may
abbrev pub its_may_look : (S : Schema) (homes : Homes) (parts : Parts) (n : OwnerNo) (m : MaySee S homes (owners_in parts) n) (owned : Owned) → owned_at n.0 parts.table ≡ Some owned → MayLook S homes owned
its_may_look S homes parts n m owned at = record { catalog = m.catalog; kept = m.kept; fits = own_fit S homes parts n m owned at }

abbrev pub its_may_step :
    (S : Schema) (homes : Homes) (parts : Parts) (n : OwnerNo) (op : PlainOp) (m : MayAct S homes (owners_in parts) n op) → Under S parts → (owned : Owned) → owned_at n.0 parts.table ≡ Some owned → MayStep S homes owned op
its_may_step S homes parts n op m under owned at = record {
  look = its_may_look S homes parts n m.sees owned at;
  fits_op = m.fits_op;
  unique = subst (IsUnique S) (sym (its_view S homes parts n m.sees owned at)) m.unique;
  under = under n.0 owned at;
}

-- what may be seen of the owners of the value may be seen of those of its parts
abbrev pub within : (S : Schema) (homes : Homes) (value parts : Parts) (n : OwnerNo) → parts ≡ value → MaySee S homes (owners_in value) n → MaySee S homes (owners_in parts) n
within S homes value parts n is m = record {
  catalog = m.catalog;
  owner = m.owner;
  kept = m.kept;
  there = ap (λ (p : Parts). get (owners_in p) n.0) is ∙ m.there;
  fits = m.fits;
}

-- ---- its step

module _ (S : Schema) (homes : Homes) (parts : Parts) (n : OwnerNo) (op : PlainOp) (m : MayAct S homes (owners_in parts) n op) (step : Step) (is : IsStep S m.sees.owner.level (view m.sees.catalog m.sees.owner) op step) where
  k : (owned : Owned) × (owned_at n.0 parts.table ≡ Some owned)
  k = is_kept S homes parts n m.sees

  pub may_take : Under S parts → AreOwners parts → MayTake S parts n step
  may_take under owners = record {
    catalog = m.sees.catalog;
    owned = k.0;
    sound = m.sees.kept.sound;
    there = k.1;
    unique = subst (IsUnique S) (sym (its_view S homes parts n m.sees k.0 k.1)) m.unique;
    may = subst (λ V. MayBePut S V step.put) (sym (its_view S homes parts n m.sees k.0 k.1)) is.put;
    few = subst (λ c. len c < 4294967295) (sym (its_changes S homes parts n m.sees k.0 k.1)) m.few;
    owners = owners;
    under = under;
  }

  -- the machine's blocker is that of the table
  pub its_blocker : HaveLocks (owners_in parts) parts.locks → blocker (owners_in parts) n (step_of m).needs ≡ table.blocker parts.locks n step.needs
  its_blocker have = same_blocker (owners_in parts) parts.locks have n (step_of m).needs ∙ ap (table.blocker parts.locks n) (sym is.needs)

  pub its_step : with_step step ≡ stepped (step_of m)
  its_step i owner = record { level = owner.level; locks = set.union owner.locks (set.from_list (is.needs i)); changes = with_changes owner.changes (is.changes i) }

  -- where nobody holds it up, it is not told so
  pub never_busy : (b : OwnerNo) → step.answer ≡ answer.Busy b → ⊥
  never_busy b busy =
      let free = alone_free S (view m.sees.catalog m.sees.owner) op in
      let told : plain_answer step.answer ≡ Busy b = ap plain_answer busy in
      let no : true ≡ false = sym (ap is_busy (sym is.answer ∙ told)) ∙ free in
      cc
