-- Constants by the class of their type.
use Rattle.std.proofs.Common.{◌≡◌, ℕ, List, [], ◌++◌, false, cond, Option, Some, None, refl, ap, ◌∙◌}
use Rattle.std.specs.List.{flat_map}
use Rattle.std.proofs.lemmas.Grind.{flat_map-append}
use Rattle.psdl_tree.specs.Trees.{Name, Constant}
use Rattle.type_layout.specs.Schemas.{given}
use Rattle.type_layout.specs.Types.{PlainType}
use Rattle.psdl_directory.specs.declared.fault.CheckFault.{CheckFault}
use Rattle.psdl_directory.specs.Declarations.{Path, Declaration}
use Rattle.psdl_directory.specs.Lookup.{at}
use Rattle.psdl_directory.specs.Noting.{noting}
use Rattle.psdl_directory.proofs.Noting.{noting-append}
use Rattle.psdl_standings.specs.declared.body_faults.BodyFaults.{BodyFaults}
use Rattle.psdl_standings.specs.declared.spot.Spot.{Spot}
use Rattle.psdl_standings.specs.declared.walk.Walk.{Walk}
use Rattle.psdl_standings.specs.Naming.{of_use, of_texts, of_text_value}
use Rattle.psdl_standings.specs.Ranges.{of_constant_value}
use Rattle.psdl_standings.specs.Standings.{Standing, Nothing, number_by, constant_type_by, constant_by}
use Rattle.psdl_standings.specs.Uses.{Use, in_constant_type, in_expression, is_text}
use Rattle.psdl_standings.specs.inner.Constants.{with_faults, with_texts, value_noted, constant_noted}
use Rattle.psdl_standings.specs.inner.Sights.{of_own}
use Rattle.psdl_standings.specs.inner.Walked.{text_in, done_in, path_in, names_in, noted_in, Goes}
use Rattle.psdl_standings.proofs.Goings.{done_same, names_same}

-- ---- an expression that is a string

-- ---- behind the type

abbrev faults_by : List Declaration → List Standing → Path → Option ℕ → BodyFaults → List Use → List CheckFault → List CheckFault → BodyFaults
faults_by all done path own f us strings values = record {
  names = noting f.names (flat_map (of_use all done path) us);
  strings = noting f.strings strings;
  values = noting f.values values;
  selves = noting f.selves (flat_map (of_own all own path) us);
}

faults_at : (all others : List Declaration) (done told : List Standing) (spot : Spot) (f g : BodyFaults) (us : List Use) (strings values : List CheckFault) → all ≡ others → done ≡ told → f ≡ g
    → faults_by all done (at all spot.number).path spot.own f us strings values ≡ faults_by others told (at others spot.number).path spot.own g us strings values
faults_at all others done told spot f g us strings values p q r = rw (p, q, r) refl

faults_on : (all : List Declaration) (done : List Standing) (path : Path) (own : Option ℕ) (f : BodyFaults) (us vs : List Use) (strings values : List CheckFault)
    → faults_by all done path own (faults_by all done path own f us [] []) vs strings values ≡ faults_by all done path own f (us ++ vs) strings values
faults_on all done path own f us vs strings values =
    rw (
      flat_map-append (of_use all done path) us vs,
      noting-append f.names (flat_map (of_use all done path) us) (flat_map (of_use all done path) vs),
      flat_map-append (of_own all own path) us vs,
      noting-append f.selves (flat_map (of_own all own path) us) (flat_map (of_own all own path) vs),
    ) refl

with_faults_then : (w x : Walk) (spot : Spot) (us vs : List Use) (strings values : List CheckFault) (f : BodyFaults) → Goes w x → x.faults ≡ noted_in w spot us [] → f ≡ with_faults x spot vs strings values → f ≡ with_faults w spot (us ++ vs) strings values
with_faults_then w x spot us vs strings values f g e h =
    h
    ∙ faults_at (text_in x) (text_in w) (done_in x) (done_in w) spot x.faults (noted_in w spot us []) vs strings values g.text (done_same w x g) e
    ∙ faults_on (text_in w) (done_in w) (path_in w spot) spot.own w.faults us vs strings values

abbrev constant_of : Walk → Spot → Constant → Option PlainType → (Name → Standing) → BodyFaults
constant_of w spot c type names = with_faults w spot (in_constant_type spot.limit c.constant_type ++ in_expression spot.limit c.value) (cond (given type false is_text) (of_text_value c.value) (of_texts c.value)) (given type [] (λ t. of_constant_value names t c.value))

pub constant_valued : (w x : Walk) (spot : Spot) (c : Constant) (type : PlainType) (f : BodyFaults) → Goes w x → x.faults ≡ noted_in w spot (in_constant_type spot.limit c.constant_type) [] → Some type ≡ constant_type_by (names_in w spot) c.constant_type
    → f ≡ value_noted x spot type c.value → f ≡ constant_noted w spot c
constant_valued w x spot c type f g e is h =
    with_faults_then w x spot (in_constant_type spot.limit c.constant_type) (in_expression spot.limit c.value) (cond (is_text type) (of_text_value c.value) (of_texts c.value)) (of_constant_value (names_in x spot) type c.value) f g e h
    ∙ ap (λ (names : Name → Standing). constant_of w spot c (Some type) names) (names_same w x spot g)
    ∙ ap (λ (t : Option PlainType). constant_of w spot c t (names_in w spot)) is

pub constant_untyped : (w x : Walk) (spot : Spot) (c : Constant) (f : BodyFaults) → Goes w x → x.faults ≡ noted_in w spot (in_constant_type spot.limit c.constant_type) [] → None ≡ constant_type_by (names_in w spot) c.constant_type → f ≡ with_texts x spot c.value
    → f ≡ constant_noted w spot c
constant_untyped w x spot c f g e is h =
    with_faults_then w x spot (in_constant_type spot.limit c.constant_type) (in_expression spot.limit c.value) (of_texts c.value) [] f g e h ∙ ap (λ (t : Option PlainType). constant_of w spot c t (names_in w spot)) is

-- ---- what is told

pub constant_told : (w x : Walk) (spot : Spot) (c : Constant) (type : PlainType) (s : Standing) → Goes w x → Some type ≡ constant_type_by (names_in w spot) c.constant_type → s ≡ number_by (names_in x spot) c.value type → s ≡ constant_by (names_in w spot) c
constant_told w x spot c type s g is h =
    h ∙ ap (λ (names : Name → Standing). number_by names c.value type) (names_same w x spot g) ∙ ap (λ (t : Option PlainType). given t Nothing (number_by (names_in w spot) c.value)) is

pub constant_nothing : (w : Walk) (spot : Spot) (c : Constant) → None ≡ constant_type_by (names_in w spot) c.constant_type → Nothing ≡ constant_by (names_in w spot) c
constant_nothing w spot c is = ap (λ (t : Option PlainType). given t Nothing (number_by (names_in w spot) c.value)) is
