-- Tests of equality tell things apart.
use Rattle.std.proofs.Common.{ℕ, ◌≡◌, ◌⊎◌, inl, inr, ◌==◌, ◌&&◌, Bool, true, false, refl, ap, ◌∙◌}
use Rattle.std.specs.Cmp.{Equal-is, tied_itself}
use Rattle.std.specs.Ordering.{eq_by_cmp}
use Rattle.std.specs.Str.{bytes_eq}
use Rattle.std.proofs.lemmas.Bool.{eqb-true, eq-eqb}
use Rattle.std.proofs.lemmas.Slice.Eq.{bytes_eq-Decides}
use Rattle.pss_base.specs.declared.owner.OwnerNo.{OwnerNo}
use Rattle.pss_machine.specs.declared.lock.Resource.{Resource}
use Rattle.pss_machine.specs.declared.lock.Resource.TheVariants as resource
use Rattle.pss_machine.specs.declared.lock.Need.{Need}
use Rattle.pss_machine.specs.Needs.{same_resource, need_cmp}
use Rattle.pss_machine.proofs.NeedSets.{need_total, need_apart}
use Rattle.lock_table.specs.inner.Links.{same_owner}

both : (a b : Bool) → (a && b) ≡ true → (a ≡ true) × (b ≡ true)
both true b e = (refl, e)
both false b e = absurd (cc)

and_true : (a b : Bool) → a ≡ true → b ≡ true → (a && b) ≡ true
and_true a b p q = ap (λ x. x && b) p ∙ q

pub resource-true : (a b : Resource) → same_resource a b ≡ true → a ≡ b
resource-true (resource.Object s) (resource.Object t) e = ap (λ n. resource.Object n) (eqb-true s t e)
resource-true (resource.Key k bytes) (resource.Key l other) e =
    let h = both (k == l) (bytes_eq bytes other) e in
    (λ i. resource.Key (eqb-true k l h.0 i) ((bytes_eq-Decides bytes other).0 h.1 i))
resource-true (resource.Extent g) (resource.Extent h) e = ap (λ n. resource.Extent n) (eqb-true g h e)
resource-true (resource.Object s) (resource.Key l other) e = absurd (cc)
resource-true (resource.Object s) (resource.Extent h) e = absurd (cc)
resource-true (resource.Key k bytes) (resource.Object t) e = absurd (cc)
resource-true (resource.Key k bytes) (resource.Extent h) e = absurd (cc)
resource-true (resource.Extent g) (resource.Object t) e = absurd (cc)
resource-true (resource.Extent g) (resource.Key l other) e = absurd (cc)

pub resource-self : (a : Resource) → same_resource a a ≡ true
resource-self (resource.Object s) = eq-eqb s s refl
resource-self (resource.Key k bytes) = and_true (k == k) (bytes_eq bytes bytes) (eq-eqb k k refl) ((bytes_eq-Decides bytes bytes).1 refl)
resource-self (resource.Extent g) = eq-eqb g g refl

pub owner-true : (a b : OwnerNo) → same_owner a b ≡ true → a ≡ b
owner-true a b e = ap (λ (n : ℕ). record { 0 = n }) (eqb-true a.0 b.0 e)

pub owner-self : (a : OwnerNo) → same_owner a a ≡ true
owner-self a = eq-eqb a.0 a.0 refl

-- equal or not, with the test
pub cases : {K : Type 0} (same : K → K → Bool) (true_is : (a b : K) → same a b ≡ true → a ≡ b) (q k : K) → (q ≡ k) ⊎ (same q k ≡ false)
cases same true_is q k = by (same q k) refl
  where
    by : (b : Bool) → same q k ≡ b → (q ≡ k) ⊎ (same q k ≡ false)
    by true e = inl (true_is q k e)
    by false e = inr e

-- a test that fails tells two apart
pub differ : {K : Type 0} (same : K → K → Bool) (self : (a : K) → same a a ≡ true) (q k : K) → same q k ≡ false → q ≡ k → ⊥
differ same self q k f e = let t : same q k ≡ true = ap (λ x. same x k) e ∙ self k in absurd (cc)

pub need-true : (x y : Need) → eq_by_cmp need_cmp x y ≡ true → x ≡ y
need-true x y e = need_apart x y ((Equal-is (need_cmp x y)).0 e)

pub need-self : (x : Need) → eq_by_cmp need_cmp x x ≡ true
need-self x = (Equal-is (need_cmp x x)).1 (tied_itself need_total x)
