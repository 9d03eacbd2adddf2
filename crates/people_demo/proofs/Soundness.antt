-- The schema of people is sound: each condition is computed.
use Rattle.std.proofs.Common.{ℕ, zero, suc, ◌≡◌, ◌≤◌, List, [], ◌∷◌, length, Some, None, refl, subst, rules, codes}
use Rattle.std.specs.Bool.{⊤}
use Rattle.std.specs.Option.{IsSome}
use Rattle.std.specs.List.{slice_get}
use Rattle.std.specs.Fmt.{digits}
use Rattle.type_layout.specs.declared.home.HomeNo.{HomeNo}
use Rattle.type_layout.specs.declared.key.Key.{Key}
use Rattle.type_layout.specs.declared.key.KeyNo.{KeyNo}
use Rattle.type_layout.specs.declared.schema.Home.{Home}
use Rattle.type_layout.specs.Types.{PlainMember}
use Rattle.type_layout.specs.Schemas.{home_at}
use Rattle.type_layout.specs.Sound.{AreMembers, EachHome, EachKey, EachMember, IsKeyMember, IsSound, IsSoundSchema, StaysWithin}
use Rattle.people_demo.specs.People.{boss, factories, keys, members, name, people, provided, ssn}

-- what holds of each of a list, by its place
abbrev AllAt : {A : Type 0} → List A → (ℕ → A → Type 0) → Type 0
AllAt [] P = ⊤
AllAt (x ∷ xs) P = P 0 x × AllAt xs (λ i. P (suc i))

all_at : {A : Type 0} (xs : List A) (P : ℕ → A → Type 0) → AllAt xs P → (i : ℕ) (x : A) → slice_get xs i ≡ Some x → P i x
all_at [] P all i x e = absurd cc
all_at (y ∷ ys) P all zero x e = (let same : y ≡ x = cc in subst (P 0) same all.0)
all_at (y ∷ ys) P all (suc i) x e = all_at ys (λ j. P (suc j)) all.1 i x e

abbrev person : Home
person = record { name = codes "PersonHomeBase"; base = None; layout = record { members = members }; keys = record { 0 = 0 } ∷ []; factories = factories }

abbrev number : Key
number = record { name = codes "ssn"; home = record { 0 = 1 }; members = 0 ∷ [] }

each_home : (P : HomeNo → Home → Type 0) → P (record { 0 = 1 }) person → EachHome people P
each_home P p h home e = by h.0 e
  where
    by : (n : ℕ) → home_at people (record { 0 = n }) ≡ Some home → P (record { 0 = n }) home
    by zero e = absurd cc
    by (suc zero) e = (let same : person ≡ home = cc in subst (P (record { 0 = 1 })) same p)
    by (suc (suc n)) e = absurd cc

each_key : (P : KeyNo → Key → Type 0) → P (record { 0 = 0 }) number → EachKey people P
each_key P p k key e = all_at keys (λ i one. P (record { 0 = i }) one) (p, tt) k.0 key e

each_member : (P : PlainMember → Type 0) → P ssn → P name → P boss → EachMember members P
each_member P a b c i m e = all_at members (λ j one. P one) (a, (b, (c, tt))) i m e

pub people_sound : IsSoundSchema people
unfolding digits
people_sound = record {
  few_homes = search rules;
  home_names = refl;
  few_members = each_home (λ h home. length home.layout.members ≤ 255) (search rules);
  layouts = each_home (λ h home. EachMember home.layout.members (λ m. IsSound m.type)) (each_member (λ m. IsSound m.type) tt tt (search rules, tt));
  references = each_home (λ h home. EachMember home.layout.members (λ m. StaysWithin 1 m.type)) (each_member (λ m. StaysWithin 1 m.type) tt tt refl);
  defaults = each_home _ (search rules);
  bases = each_home _ tt;
  member_names = each_home _ refl;
  key_names = each_home _ refl;
  factory_names = each_home _ refl;
  keys_there = each_home _ refl;
  key_homes = each_key _ refl;
  keyed = each_key _ (each_home _ (λ _. refl, λ _. refl));
  key_members = each_key _ (refl, refl);
  key_types = each_key _ (each_home _ (λ has. all_at (0 ∷ []) (λ j i. IsKeyMember members members i) ((ssn, ssn, refl, refl, refl, refl), tt)));
  factories = each_home _ (all_at factories (λ j f. AreMembers f.members members) ((refl, refl), tt));
  provided_there = all_at provided (λ j p. IsSome (home_at people p.home)) (refl, tt);
  provided_names = refl;
  short_shape = search rules;
}
