-- One owner beside a catalog: at first, after its own steps, and when another commits.
use Rattle.std.proofs.Common.{◌≡◌, ℕ, Bool, true, false, cond, Option, Some, None, refl, sym, ap, subst, ◌∙◌, inl, inr}
use Rattle.std.specs.Prelude.{◌⊎◌, is_some}
use Rattle.std.specs.FinMap.{get}
use Rattle.std.specs.FinSet as set
use Rattle.type_layout.specs.declared.schema.Schema.{Schema}
use Rattle.type_layout.specs.Schemas.{given}
use Rattle.pss_catalog.specs.Catalog.{Object, Catalog, holds, IsUnique}
use Rattle.pss_catalog.specs.Changes.{over, last_state}
use Rattle.pss_machine.specs.declared.level.Level.{Level}
use Rattle.pss_machine.specs.declared.lock.Resource.{Resource}
use Rattle.pss_machine.specs.declared.lock.Resource.TheVariants as resource
use Rattle.pss_machine.specs.declared.lock.Mode.{Mode}
use Rattle.pss_machine.specs.declared.lock.Mode.TheVariants.{S as Read, M as Many, X as Write}
use Rattle.pss_machine.specs.declared.lock.Need.{Need}
use Rattle.pss_machine.specs.Changes.{with_changes, listed}
use Rattle.pss_machine.specs.Needs.{clash, object_need}
use Rattle.pss_machine.specs.Owners.{Owner, new_owner, view, Step, stepped}
use Rattle.pss_machine.proofs.Parting.{clash_back}
use Rattle.pss_laws.specs.Alike.{home_where, PassAlike, Alike, AlikeIn}
use Rattle.pss_laws.specs.Within.{Among, is_changed, to_change, LieWithin}
use Rattle.pss_laws.specs.Sound.{Holds, NoneFrom, IsSoundOwner}
use Rattle.pss_laws.proofs.Logic.{unlike}
use Rattle.pss_laws.proofs.Overs.{alike_over, alike_itself, alike_then, alike_after, left_alike}
use Rattle.pss_laws.proofs.Nets.{last_listed, changed_last, found_changes, view_stepped, view_new, changed_none}
use Rattle.pss_laws.proofs.Locks.{holds_old, holds_new, changing_clashes}

-- no lock of the one clashes with one of the other
abbrev pub Apart : Owner → Owner → Type 0
Apart a b = (x y : Need) → Holds a x → Holds b y → clash x y ≡ false

module _ (S : Schema) (M : Catalog) (next : ℕ) where
  pub new_stands : (level : Level) → IsUnique S M → NoneFrom next M → IsSoundOwner S M next (new_owner level)
  new_stands level unique none = record {
    unique = subst (IsUnique S) (sym (view_new M level)) unique;
    within = record {
      objects = λ s e. unlike (sym (changed_none s) ∙ e);
      others = λ r free. subst (λ (N : Catalog). Alike S M N r) (sym (view_new M level)) (alike_itself S M r);
    };
    given = subst (NoneFrom next) (sym (view_new M level)) none;
  }

  -- ---- beside another owner

  module _ (a : Owner) (by : IsSoundOwner S M next a) where
    alike_in : (r : Resource) (mode : Mode) → ((y : Need) → Holds a y → clash y (record { resource = r; mode = mode }) ≡ false) → AlikeIn S M (view M a) mode r
    alike_in r Many apart = tt
    alike_in r Read apart = by.within.others r (λ h. unlike (sym (apart (to_change r) h) ∙ changing_clashes r Read (λ e. no e)))
      where
        no : Read ≡ Many → ⊥
        no e = cc
    alike_in r Write apart = by.within.others r (λ h. unlike (sym (apart (to_change r) h) ∙ changing_clashes r Write (λ e. no e)))
      where
        no : Write ≡ Many → ⊥
        no e = cc

    -- what another has locked is in this owner's view as in the catalog
    pub locked_alike : (x : Need) → ((y : Need) → Holds a y → clash y x ≡ false) → AlikeIn S M (view M a) x.mode x.resource
    locked_alike x apart = alike_in x.resource x.mode apart

    -- what passes in one catalog passes in another that is alike
    passing : (test : Object → Bool) (N O : Catalog) (s : ℕ) (y : Object) → PassAlike test N O → get O s ≡ Some y → test y ≡ true → (x : Object) × (get N s ≡ Some x) × (test x ≡ true)
    passing test N O s y alike there passes = by_found (get N s) refl (alike s ∙ ap (home_where test) there ∙ ap (λ (b : Bool). cond b (Some y.home) None) passes)
      where
        by_test : (x : Object) (b : Bool) → test x ≡ b → get N s ≡ Some x → cond b (Some x.home) None ≡ Some y.home → (x : Object) × (get N s ≡ Some x) × (test x ≡ true)
        by_test x true is at e = (x, at, is)
        by_test x false is at e = absurd cc

        by_found : (o : Option Object) → get N s ≡ o → home_where test o ≡ Some y.home → (x : Object) × (get N s ≡ Some x) × (test x ≡ true)
        by_found None at e = absurd cc
        by_found (Some x) at e = by_test x (test x) refl at e

    -- an owner stands when this one has committed
    pub stands_beside : (p : Owner) → Apart p a → IsSoundOwner S M next p → NoneFrom next M → IsSoundOwner S (view M a) next p
    stands_beside p apart h none = record { unique = unique; within = within; given = given_still }
      where
        within : LieWithin S (view M a) (listed p.changes) (Holds p)
        within = record {
          objects = h.within.objects;
          others = λ r free. left_alike S M (view M a) (listed p.changes) r (λ t e. locked_alike (object_need Write t) (λ y has. clash_back y (object_need Write t) ∙ apart (object_need Write t) y (h.within.objects t e) has)) (h.within.others r free);
        }

        unique : IsUnique S (over (view M a) (listed p.changes))
        unique k bytes s t x y at_s at_t holds_x holds_y = by_lock (set.contains a.locks (to_change (resource.Key k.0 bytes))) refl
          where
            by_lock : (b : Bool) → set.contains a.locks (to_change (resource.Key k.0 bytes)) ≡ b → s ≡ t
            by_lock false free =
                let alike : PassAlike (holds S k bytes) (over M (listed p.changes)) (over (view M a) (listed p.changes)) = alike_after S M (view M a) (listed p.changes) (resource.Key k.0 bytes) (by.within.others (resource.Key k.0 bytes) (λ e. unlike (sym free ∙ e))) in
                let one = passing (holds S k bytes) (over M (listed p.changes)) (over (view M a) (listed p.changes)) s x alike at_s holds_x in
                let other = passing (holds S k bytes) (over M (listed p.changes)) (over (view M a) (listed p.changes)) t y alike at_t holds_y in
                h.unique k bytes s t one.0 other.0 one.1 other.1 one.2 other.2
            by_lock true held =
                let alike : PassAlike (holds S k bytes) (view M a) (over (view M a) (listed p.changes)) = within.others (resource.Key k.0 bytes)
                (λ e. unlike (sym (apart (to_change (resource.Key k.0 bytes)) (to_change (resource.Key k.0 bytes)) e held) ∙ changing_clashes (resource.Key k.0 bytes) Write (λ e. no e))) in
                let one = passing (holds S k bytes) (view M a) (over (view M a) (listed p.changes)) s x alike at_s holds_x in
                let other = passing (holds S k bytes) (view M a) (over (view M a) (listed p.changes)) t y alike at_t holds_y in
                by.unique k bytes s t one.0 other.0 one.1 other.1 one.2 other.2
              where
                no : Write ≡ Many → ⊥
                no e = cc

        given_still : NoneFrom next (over (view M a) (listed p.changes))
        given_still t le = sym (alike_over (λ (o : Option Object). o) M (view M a) (listed p.changes) t (none t le ∙ sym (by.given t le))) ∙ h.given t le

  -- ---- after a step of its own

  -- what a step must show
  pub record Suits (owner : Owner) (after : ℕ) (step : Step) : Type 0 where
    pub within : LieWithin S (view M owner) step.own (Among step.needs)
    pub unique : IsUnique S (over (view M owner) step.own)
    pub given : NoneFrom after (over (view M owner) step.own)

  pub stands_after : (owner : Owner) (after : ℕ) (step : Step) → IsSoundOwner S M next owner → Suits owner after step → IsSoundOwner S M after (stepped step owner)
  stands_after owner after step by suits = record {
    unique = subst (IsUnique S) (sym (view_stepped M owner step)) suits.unique;
    within = record { objects = objects; others = others };
    given = subst (NoneFrom after) (sym (view_stepped M owner step)) suits.given;
  }
    where
      was_changed : (o p : Option (Option Object)) → is_some (given o p Some) ≡ true → (is_some p ≡ true) ⊎ (is_some o ≡ true)
      was_changed None p e = inl e
      was_changed (Some x) p e = inr refl

      objects : (s : ℕ) → is_changed (listed (with_changes owner.changes step.own)) s ≡ true → Holds (stepped step owner) (to_change (resource.Object s))
      objects s e =
          let some : is_some (given (last_state step.own s) (get owner.changes s) Some) ≡ true
          = ap is_some (sym (found_changes step.own owner.changes s) ∙ sym (last_listed (with_changes owner.changes step.own) s)) ∙ sym (changed_last (listed (with_changes owner.changes step.own)) s) ∙ e in
          elim (was_changed (last_state step.own s) (get owner.changes s) some) [
            | inl p ↦ holds_old step owner (to_change (resource.Object s)) (by.within.objects s (changed_last (listed owner.changes) s ∙ ap is_some (last_listed owner.changes s) ∙ p))
            | inr p ↦ holds_new step owner (to_change (resource.Object s)) (suits.within.objects s (changed_last step.own s ∙ p))
          ]

      others : (r : Resource) → (Holds (stepped step owner) (to_change r) → ⊥) → Alike S M (view M (stepped step owner)) r
      others r free =
          let before : Alike S M (view M owner) r = by.within.others r (λ h. free (holds_old step owner (to_change r) h)) in
          let here : Alike S (view M owner) (over (view M owner) step.own) r = suits.within.others r (λ h. free (holds_new step owner (to_change r) h)) in
          subst (λ (N : Catalog). Alike S M N r) (sym (view_stepped M owner step)) (alike_then S M (view M owner) (over (view M owner) step.own) r before here)
