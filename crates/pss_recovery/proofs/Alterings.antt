-- The object that a change alters.
use Rattle.std.proofs.Common.{ℕ, ◌≡◌, List, Option, None, Some, Result, Ok, Err, IfOk, OnOk, refl, sym, ap, subst, ◌∙◌}
use Rattle.std.specs.Option.{option_map}
use Rattle.type_layout.specs.declared.home.HomeNo.{HomeNo}
use Rattle.type_layout.specs.declared.key.KeyNo.{KeyNo}
use Rattle.type_layout.specs.declared.schema.Schema.{Schema}
use Rattle.pss_catalog.specs.Catalog.{Object, object_spelling}
use Rattle.storage_home.specs.Applied.{AreKeysOf, SpellsObject}
use Rattle.storage_home.specs.Kept.{IsSound}

-- an object with this home and these octets
pub record IsThere (S : Schema) (home : HomeNo) (octets : List ℕ) (found : Option Object) : Type 0 where
  pub object : Object
  pub is : found ≡ Some object
  pub home_ : home ≡ object.home
  pub spelled : octets ≡ object_spelling S object

pub there_of : (S : Schema) (home : HomeNo) (octets : List ℕ) (found : Option Object) → ◌≡◌ {A = Option (HomeNo × List ℕ)} (Some (home, octets)) (option_map (λ object. (object.home, object_spelling S object)) found) → IsThere S home octets found
there_of S home octets None e = absurd (cc)
there_of S home octets (Some object) e =
    let same : ◌≡◌ {A = HomeNo × List ℕ} (home, octets) (object.home, object_spelling S object) = cc in
    record { object = object; is = refl; home_ = ap (λ (p : HomeNo × List ℕ). p.0) same; spelled = ap (λ (p : HomeNo × List ℕ). p.1) same }

abbrev pub spells_of : (S : Schema) (home : HomeNo) (octets : List ℕ) (object : Object) → home ≡ object.home → octets ≡ object_spelling S object → IsSound S object → SpellsObject S home octets
spells_of S home octets object e spelled sound = record {
  values = object.values;
  is_sound = subst (λ (h : HomeNo). IsSound S (record { home = h; values = object.values })) (sym e) sound;
  spelled = spelled ∙ ap (λ (h : HomeNo). object_spelling S (record { home = h; values = object.values })) (sym e);
}

pub keys_from : (S : Schema) (home : HomeNo) (object : Object) (found : Option Object) (keys : List (KeyNo × List ℕ)) → home ≡ object.home → found ≡ Some object → AreKeysOf S (Some (record { home = home; values = object.values })) keys → AreKeysOf S found keys
keys_from S home object found keys e is are =
    subst (λ (o : Option Object). AreKeysOf S o keys) (sym is) (subst (λ (h : HomeNo). AreKeysOf S (Some (record { home = h; values = object.values })) keys) e are)

-- what follows where an answer came
pub on_none : {T E : Type 0} (r : Result T E) (W Q : Type 0) (P : T → Type 0) → (W → Q) → OnOk r W → IfOk r (λ t. P t → Q)
on_none (Ok t) W Q P f w = λ p. f w
on_none (Err e) W Q P f w = tt
