-- A table of owners is a finite map by number.
use Rattle.std.proofs.Common.{ℕ, ◌≡◌, List, [], ◌∷◌, Option, Some, None, IsSome, Bool, ◌==◌, cond, refl, sym, ap, ◌∙◌, subst}
use Rattle.std.specs.Prelude.{IsSomeAnd}
use Rattle.std.specs.Ordering.{nat_cmp}
use Rattle.std.specs.Cmp.{nat_cmp_total, unsigned_tied}
use Rattle.std.specs.Map.{lookup}
use Rattle.std.specs.FinMap.{FinMap, get, insert, remove, from_entries, nat_cmp-IsAntisymmetric}
use Rattle.pss_base.specs.declared.owner.OwnerNo.{OwnerNo}
use Rattle.recent_table.specs.Maps.{IsWith}
use Rattle.recent_table.proofs.Maps.{IsKey}
use Rattle.recent_table.proofs.Hashed as hashed
use Rattle.owner_titles.specs.inner.Numbered.{numbered}

pub nat_key : IsKey nat_cmp
nat_key = record { total = nat_cmp_total; alike = nat_cmp-IsAntisymmetric }

abbrev pub same : ℕ → ℕ → Bool
same a b = a == b

abbrev pub same_owner : OwnerNo → OwnerNo → Bool
same_owner a b = a.0 == b.0

-- what passes a test
pub passes : {A : Type 0} (P : A → Type 0) (o : Option A) (x : A) → o ≡ Some x → IsSomeAnd o P → P x
passes P o x is h = subst (λ z. IsSomeAnd z P) is h

module _ {X : Type 0} where
  -- an owner is found by its number
  found : (n : OwnerNo) (es : List (OwnerNo × X)) → lookup (same n.0) (numbered es) ≡ lookup (same_owner n) es
  found n [] = refl
  found n (e ∷ es) = ap (λ o. cond (n.0 == e.0.0) (Some e.1) o) (found n es)

  -- after one turned
  turned : (old new : List (OwnerNo × X)) (n : OwnerNo) (v : Option X) → ((q : OwnerNo) → lookup (same_owner q) new ≡ cond (n.0 == q.0) v (lookup (same_owner q) old)) → (q : ℕ) → lookup (same q) (numbered new) ≡ cond (n.0 == q) v (lookup (same q) (numbered old))
  turned old new n v u q =
      let owner : OwnerNo = record { 0 = q } in
      found owner new ∙ u owner ∙ ap (λ o. cond (n.0 == q) v o) (sym (found owner old))

  pub inserted : (old new : List (OwnerNo × X)) (n : OwnerNo) (v : X) → ((q : OwnerNo) → lookup (same_owner q) new ≡ cond (n.0 == q.0) (Some v) (lookup (same_owner q) old)) → from_entries {R = nat_cmp} (numbered new) ≡ insert (from_entries {R = nat_cmp} (numbered old)) n.0 v
  inserted old new n v u = hashed.inserted nat_key same unsigned_tied (numbered old) (numbered new) n.0 v (turned old new n (Some v) u)

  pub removed : (old new : List (OwnerNo × X)) (n : OwnerNo) → ((q : OwnerNo) → lookup (same_owner q) new ≡ cond (n.0 == q.0) None (lookup (same_owner q) old)) → from_entries {R = nat_cmp} (numbered new) ≡ remove (from_entries {R = nat_cmp} (numbered old)) n.0
  removed old new n u = hashed.removed nat_key same unsigned_tied (numbered old) (numbered new) n.0 (turned old new n None u)

  -- what a table that is this map has of an owner
  module _ (es : List (OwnerNo × X)) (m : FinMap nat_cmp X) (is : from_entries {R = nat_cmp} (numbered es) ≡ m) (n : OwnerNo) where
    pub told : get m n.0 ≡ lookup (same_owner n) es
    told = hashed.told nat_key same unsigned_tied (numbered es) m is n.0 ∙ found n es

    pub there : IsSome (get m n.0) → IsSome (lookup (same_owner n) es)
    there h = subst IsSome told h

    pub some : (P : X → Type 0) → IsSomeAnd (get m n.0) P → IsSome (get m n.0)
    some P h = hashed.some nat_key same unsigned_tied (numbered es) m is n.0 P h

    pub holds_at : (P : X → Type 0) → IsSomeAnd (get m n.0) P → (x : X) → Some x ≡ lookup (same_owner n) es → P x
    holds_at P h x at = subst (λ o. IsSomeAnd o P) (told ∙ sym at) h

    pub never : IsSome (get m n.0) → None ≡ lookup (same_owner n) es → ⊥
    never h none = hashed.never nat_key same unsigned_tied (numbered es) m is n.0 h (none ∙ sym (found n es))

    -- after another value was written behind it
    pub written : (new : List (OwnerNo × X)) (f : X → X) (x : X) → Some x ≡ lookup (same_owner n) es → ((q : OwnerNo) → lookup (same_owner q) new ≡ cond (n.0 == q.0) (Some (f x)) (lookup (same_owner q) es)) → IsWith m (from_entries {R = nat_cmp} (numbered new)) n.0 f
    written new f x at u = hashed.written nat_key same unsigned_tied (numbered es) m is n.0 (numbered new) f x (at ∙ sym (found n es)) (turned es new n (Some (f x)) u)
