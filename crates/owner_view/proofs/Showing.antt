-- What octets and records of seen objects owe to the objects.
use Rattle.std.proofs.Common.{◌≡◌, ◌<◌, ℕ, List, [], ◌∷◌, length, Some, refl, sym, ap, subst, ◌∙◌, arith, Bor, map, get_or}
use Rattle.std.specs.Prelude.{is_some}
use Rattle.std.specs.List.{slice_get}
use Rattle.std.specs.Option.{option_map}
use Rattle.std.proofs.lemmas.Option.{slice_get-map, slice_get-get_or}
use Rattle.type_layout.specs.declared.home.HomeNo.{HomeNo}
use Rattle.type_layout.specs.declared.schema.Schema.{Schema}
use Rattle.type_layout.specs.Schemas.{members_at}
use Rattle.type_layout.specs.Values.{IsRecord}
use Rattle.type_layout.specs.Spelling.{record_spelling}
use Rattle.pss_catalog.specs.Catalog.{Object, object_spelling}
use Rattle.type_layout.specs.Types.{PlainMember, PlainValue}
use Rattle.type_layout.specs.declared.value.Value.{Value}
use Rattle.type_layout.specs.Views.{plain_value}
use Rattle.cdr_codec.specs.Spelled.{SpellsRecord}
use Rattle.storage_home.specs.Kept.{IsSound}
use Rattle.storage_home.specs.Applied.{SpellsObject}
use Rattle.owner_view.specs.declared.object.Changed.{Changed}
use Rattle.owner_view.specs.declared.seen.Seen.{Seen}
use Rattle.owner_view.specs.declared.seen.Seen.TheVariants.{Stored, Own}
use Rattle.owner_view.specs.Seen.{Fits, IsSeen, IsShown, home_seen, plain_object}

module _ (S : Schema) (seen : Seen) (home : HomeNo) (bytes : Bor (List ℕ)) (is : seen ≡ Stored home bytes) where
  pub stored : (s : IsShown S seen) → IsSeen S (Stored home bytes) s.object
  stored s = subst (λ (x : Seen). IsSeen S x s.object) is s.is

  pub same_members : (members : List PlainMember) → members ≡ members_at S home → (s : IsShown S seen) → members_at S s.object.home ≡ members
  same_members members same s = ap (members_at S) (sym (stored s).0) ∙ sym same

  -- committed octets spell the object's values
  abbrev pub spells : (members : List PlainMember) → members ≡ members_at S home → (s : IsShown S seen) → SpellsRecord members bytes.now
  spells members same s = record {
    values = s.object.values;
    is_record = subst (λ (ms : List PlainMember). IsRecord ms s.object.values) (same_members members same s) s.fits.is_record;
    spelled = (stored s).1 ∙ ap (λ (ms : List PlainMember). record_spelling ms s.object.values) (same_members members same s);
  }

  -- and the record of an object of their home
  abbrev pub spells_object : (s : IsShown S seen) → SpellsObject S home bytes.now
  spells_object s = record {
    values = s.object.values;
    is_sound = subst (λ (h : HomeNo). IsSound S (record { home = h; values = s.object.values })) (sym (stored s).0) (ap is_some s.fits.there, s.fits.is_record);
    spelled = (stored s).1 ∙ ap (λ (h : HomeNo). object_spelling S (record { home = h; values = s.object.values })) (sym (stored s).0);
  }

module _ (S : Schema) (seen : Seen) (changed : Bor Changed) (is : seen ≡ Own changed) where
  -- a changed object is the object
  pub shown_own : (s : IsShown S seen) → plain_object changed.now ≡ s.object
  shown_own s = subst (λ (x : Seen). IsSeen S x s.object) is s.is

  pub own_values : (s : IsShown S seen) → changed.now.record ≡ s.object.values
  own_values s = ap (λ (o : Object). o.values) (shown_own s)

-- there are as many values as members
pub as_many : (S : Schema) (object : Object) → Fits S object → length object.values ≡ length (members_at S object.home)
as_many S object fits = by (members_at S object.home) object.values fits.is_record
  where
    by : (ms : List PlainMember) (vs : List PlainValue) → IsRecord ms vs → length vs ≡ length ms
    by [] [] h = refl
    by [] (v ∷ vs) h = absurd h
    by (m ∷ ms) [] h = absurd h
    by (m ∷ ms) (v ∷ vs) h = omega (arith, by ms vs h.1)

pub home_shown : (S : Schema) (seen : Seen) (s : IsShown S seen) → home_seen seen ≡ s.object.home
home_shown S (Stored home bytes) s = s.is.0
home_shown S (Own changed) s = ap (λ (o : Object). o.home) s.is

-- a member's value, copied from the values of the program
pub copied : (vs : List PlainValue) (all : List Value) (member : ℕ) (v : Value) → map plain_value all ≡ vs → member < length all → v ≡ get_or all member v → slice_get vs member ≡ Some (plain_value v)
copied vs all member v same within is = ap (λ (l : List PlainValue). slice_get l member) (sym same) ∙ slice_get-map plain_value all member ∙ ap (option_map plain_value) (slice_get-get_or all member v within) ∙ ap (λ (x : Value). Some (plain_value x)) (sym is)
