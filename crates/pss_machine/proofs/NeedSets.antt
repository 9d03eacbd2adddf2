-- Sets of needs.
use Rattle.std.proofs.Common.{◌≡◌, ℕ, zero, suc, Bool, true, false, List, [], ◌∷◌, ◌++◌, refl, sym, ap, ◌∙◌}
use Rattle.std.specs.Prelude.{◌||◌}
use Rattle.std.specs.List.{list_any}
use Rattle.std.specs.Ordering.{eq_by_cmp}
use Rattle.std.specs.Cmp.{IsTotalOrder, on_total}
use Rattle.std.specs.Cmp.Lexicographic.{nat_list_cmp_total}
use Rattle.std.specs.FinSet.{IsAntisymmetric, nat_cmp-IsAntisymmetric, slice_cmp-IsAntisymmetric, union, from_list, contains-union, contains-from_list, same_set}
use Rattle.pss_machine.specs.declared.lock.Resource.{Resource}
use Rattle.pss_machine.specs.declared.lock.Resource.TheVariants as resource
use Rattle.pss_machine.specs.declared.lock.Mode.{Mode}
use Rattle.pss_machine.specs.declared.lock.Mode.TheVariants.{S as Read, M as Many, X as Write}
use Rattle.pss_machine.specs.declared.lock.Need.{Need}
use Rattle.pss_machine.specs.Needs.{need_code, need_cmp}

pub need_total : IsTotalOrder need_cmp
need_total = on_total need_code nat_list_cmp_total

-- a need by its code
mode_of : ℕ → Mode
mode_of zero = Read
mode_of (suc zero) = Many
mode_of (suc (suc n)) = Write

resource_of : List ℕ → Resource
resource_of (zero ∷ serial ∷ _) = resource.Object serial
resource_of (suc zero ∷ k ∷ bytes) = resource.Key k bytes
resource_of (suc (suc n) ∷ h ∷ _) = resource.Extent h
resource_of _ = resource.Object 0

need_of : List ℕ → Need
need_of [] = record { resource = resource.Object 0; mode = Read }
need_of (m ∷ rest) = record { resource = resource_of rest; mode = mode_of m }

mode_back : (r : Resource) (m : Mode) → need_of (need_code (record { resource = r; mode = m })) ≡ record { resource = r; mode = m }
unfolding mode_of resource_of need_of
mode_back (resource.Object serial) Read = refl
mode_back (resource.Object serial) Many = refl
mode_back (resource.Object serial) Write = refl
mode_back (resource.Key k bytes) Read = refl
mode_back (resource.Key k bytes) Many = refl
mode_back (resource.Key k bytes) Write = refl
mode_back (resource.Extent h) Read = refl
mode_back (resource.Extent h) Many = refl
mode_back (resource.Extent h) Write = refl

pub need_apart : IsAntisymmetric need_cmp
need_apart x y e = sym (mode_back x.resource x.mode) ∙ ap need_of (slice_cmp-IsAntisymmetric nat_cmp-IsAntisymmetric (need_code x) (need_code y) e) ∙ mode_back y.resource y.mode

any_append : {A : Type 0} (test : A → Bool) (xs ys : List A) → list_any test (xs ++ ys) ≡ (list_any test xs || list_any test ys)
any_append test [] ys = refl
any_append test (x ∷ xs) ys = ap (λ b. test x || b) (any_append test xs ys) ∙ or_or (test x) (list_any test xs) (list_any test ys)
  where
    or_or : (a b c : Bool) → (a || (b || c)) ≡ ((a || b) || c)
    or_or true b c = refl
    or_or false b c = refl

-- locks with those of further needs are those of all needs
pub union_of_lists : (xs ys : List Need) → union {R = need_cmp} (from_list xs) (from_list ys) ≡ from_list (xs ++ ys)
union_of_lists xs ys = same_set need_total need_apart (union (from_list xs) (from_list ys)) (from_list (xs ++ ys)) (λ q.
    contains-union need_total (from_list xs) (from_list ys) q
    ∙ (λ i. contains-from_list need_total xs q i || contains-from_list need_total ys q i)
    ∙ sym (any_append (eq_by_cmp need_cmp q) xs ys)
    ∙ sym (contains-from_list need_total (xs ++ ys) q))
