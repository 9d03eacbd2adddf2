-- The worked schema is sound.
use Rattle.std.proofs.Common.{ℕ, zero, suc, ◌≡◌, [], ◌∷◌, Some, refl, subst, arith}
use Rattle.std.specs.Prelude.{IsSome}
use Rattle.std.specs.Fmt.{digits}
use Rattle.std.specs.List.{slice_get}
use Rattle.type_layout.specs.declared.home.HomeNo.{HomeNo}
use Rattle.type_layout.specs.declared.key.KeyNo.{KeyNo}
use Rattle.type_layout.specs.declared.key.Key.{Key}
use Rattle.type_layout.specs.declared.schema.Factory.{Factory}
use Rattle.type_layout.specs.declared.schema.Home.{Home}
use Rattle.type_layout.specs.Scopes.{Provided}
use Rattle.type_layout.specs.Types.{PlainMember}
use Rattle.type_layout.specs.Schemas.{nth, home_at}
use Rattle.type_layout.specs.Sound.{EachMember, EachHome, EachKey, AreMembers, IsSoundSchema, IsKeyMember}
use Rattle.type_layout.specs.People.{home_1, key_0, person, make, person_home, ssn, persons, people}

each_home : (P : HomeNo → Home → Type 0) → P home_1 person_home → EachHome people P
each_home P p h home at = by h.0 at
  where
    by : (n : ℕ) → nth people.homes n ≡ Some home → P (record { 0 = n }) home
    by zero at = absurd cc
    by (suc zero) at = (let same : person_home ≡ home = cc in subst (P home_1) same p)
    by (suc (suc n)) at = absurd cc

each_key : (P : KeyNo → Key → Type 0) → P key_0 ssn → EachKey people P
each_key P p k key at = by k.0 at
  where
    by : (n : ℕ) → slice_get people.keys n ≡ Some key → P (record { 0 = n }) key
    by zero at = (let same : ssn ≡ key = cc in subst (P key_0) same p)
    by (suc n) at = absurd cc

each_member : (P : PlainMember → Type 0) (a b c : PlainMember) → P a → P b → P c → EachMember (a ∷ b ∷ c ∷ []) P
each_member P a b c p q r zero m at = (let same : a ≡ m = cc in subst P same p)
each_member P a b c p q r (suc zero) m at = (let same : b ≡ m = cc in subst P same q)
each_member P a b c p q r (suc (suc zero)) m at = (let same : c ≡ m = cc in subst P same r)
each_member P a b c p q r (suc (suc (suc i))) m at = absurd cc

key_member : (j i : ℕ) → slice_get ssn.members j ≡ Some i → IsKeyMember person person i
key_member zero i at = (let same : 0 ≡ i = cc in subst (IsKeyMember person person) same (_, _, refl, refl, refl, refl))
key_member (suc j) i at = absurd cc

factory_members : (j : ℕ) (f : Factory) → slice_get person_home.factories j ≡ Some f → AreMembers f.members person
factory_members zero f at = (let same : make ≡ f = cc in subst (λ (g : Factory). AreMembers g.members person) same (refl, refl))
factory_members (suc j) f at = absurd cc

provided_there : (j : ℕ) (p : Provided) → slice_get people.provided j ≡ Some p → IsSome (home_at people p.home)
provided_there zero p at = (let same : persons ≡ p = cc in subst (λ (q : Provided). IsSome (home_at people q.home)) same refl)
provided_there (suc j) p at = absurd cc

pub people_sound : IsSoundSchema people
unfolding digits
people_sound = record {
  few_homes = omega arith;
  home_names = refl;
  few_members = each_home _ (omega arith);
  layouts = each_home _ (each_member _ _ _ _ tt tt (omega arith, tt));
  references = each_home _ (each_member _ _ _ _ tt tt refl);
  defaults = each_home _ (omega arith);
  bases = each_home _ tt;
  member_names = each_home _ refl;
  key_names = each_home _ refl;
  factory_names = each_home _ refl;
  keys_there = each_home _ refl;
  key_homes = each_key _ refl;
  keyed = each_key _ (each_home _ (λ _. refl, λ _. refl));
  key_members = each_key _ (refl, refl);
  key_types = each_key _ (each_home _ (λ _. key_member));
  factories = each_home _ factory_members;
  provided_there = provided_there;
  provided_names = refl;
  short_shape = omega arith;
}
