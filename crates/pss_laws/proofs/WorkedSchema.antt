-- The schema of the run that is worked out is sound.
use Rattle.std.proofs.Common.{◌≡◌, ℕ, zero, suc, ◌≤◌, List, [], ◌∷◌, ◌++◌, length, length-append, Some, None, refl, sym, subst, arith}
use Rattle.std.specs.Prelude.{codes}
use Rattle.std.specs.List.{slice_get}
use Rattle.std.specs.Fmt.{decimal}
use Rattle.std.proofs.lemmas.Fmt.{length-decimal-le_succ}
use Rattle.type_layout.specs.declared.home.HomeNo.{HomeNo}
use Rattle.type_layout.specs.declared.schema.Home.{Home}
use Rattle.type_layout.specs.Schemas.{home_at}
use Rattle.type_layout.specs.Sound.{IsSoundSchema, EachHome}
use Rattle.pss_laws.specs.Worked.{marks}

abbrev only_home : Home
only_home = record { name = codes "H"; base = None; layout = record { members = [] }; keys = []; factories = [] }

-- what holds of the only home
of_only : (P : HomeNo → Home → Type 0) → P (record { 0 = 1 }) only_home → EachHome marks P
unfolding marks
of_only P holds h home there = by_number h.0 refl there
  where
    none : {A : Type 0} → None ≡ Some home → A
    none e = cc

    by_number : (n : ℕ) → h.0 ≡ n → home_at marks (record { 0 = n }) ≡ Some home → P h home
    by_number zero is e = none e
    by_number (suc zero) is e = (let same : only_home ≡ home = cc in subst (λ (x : Home). P h x) same (subst (λ (m : ℕ). P (record { 0 = m }) only_home) (sym is) holds))
    by_number (suc (suc n)) is e = none e

-- nothing stands in an empty list
nowhere : {A B : Type 0} (i : ℕ) (x : A) → slice_get [] i ≡ Some x → B
nowhere i x e = cc

-- the only line of its shape
short : (number base : List ℕ) → length number ≤ 2 → length base ≤ 1 → length ((codes "home " ++ number ++ codes " " ++ base ++ codes " " ++ codes "H" ++ 10 ∷ []) ++ [] ++ [] ++ []) ≤ 65536
short number base few less = grind (arith, length-append)

pub marks_sound : IsSoundSchema marks
unfolding marks
marks_sound = record {
  few_homes = omega arith;
  home_names = refl;
  few_members = of_only (λ h home. length home.layout.members ≤ 255) (omega arith);
  layouts = of_only _ (λ i m e. nowhere i m e);
  references = of_only _ (λ i m e. nowhere i m e);
  defaults = of_only _ (omega arith);
  bases = of_only _ tt;
  member_names = of_only _ refl;
  key_names = of_only _ refl;
  factory_names = of_only _ refl;
  keys_there = of_only _ refl;
  key_homes = λ k key e. nowhere k.0 key e;
  keyed = λ k key e. nowhere k.0 key e;
  key_members = λ k key e. nowhere k.0 key e;
  key_types = λ k key e. nowhere k.0 key e;
  factories = of_only _ (λ j f e. nowhere j f e);
  provided_there = λ j p e. nowhere j p e;
  provided_names = refl;
  short_shape = short (decimal 1) (decimal 0) (length-decimal-le_succ 1 (omega arith)) (length-decimal-le_succ 0 (omega arith));
}
