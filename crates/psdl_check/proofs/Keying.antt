-- The keys of a home are numbered behind those of the homes in front.
use Rattle.std.proofs.Common.{◌≡◌, ℕ, zero, suc, ◌+◌, ◌<◌, ◌≤◌, List, [], ◌∷◌, ◌++◌, Option, get_or, length, map, true, sym, ap, ◌∙◌, subst, arith}
use Rattle.std.specs.List.{flat_map}
use Rattle.type_layout.specs.ShapeText.{key_line}
use Rattle.psdl_directory.specs.Declarations.{Declaration}
use Rattle.psdl_lineage.specs.Descent.{Listed, base_home, concrete_homes}
use Rattle.psdl_lineage.specs.Graph.{graph_of}
use Rattle.psdl_rules.specs.Faults.Limit.{most_shape}
use Rattle.psdl_standings.specs.TextLengths.{cut}
use Rattle.psdl_check.specs.Schemas.{Introduced, introduced, home_no, key_numbers, schema}
use Rattle.psdl_check.specs.declared.home_keys.HeldKey.{HeldKey}
use Rattle.psdl_check.specs.declared.key_rows.KeyIds.{KeyIds}
use Rattle.psdl_check.specs.declared.keys.Introducing.{Introducing}
use Rattle.psdl_check.specs.declared.keys.Keys.{Keys}
use Rattle.psdl_check.specs.declared.numbering.Numbered.{Numbered}
use Rattle.psdl_check.specs.inner.HeldKeys.{AreHeld, base_has, held_view, held_views, news}
use Rattle.psdl_check.specs.inner.Keys.{AreKeys}
use Rattle.psdl_check.specs.inner.Made.{key_lines, HasNames}
use Rattle.psdl_check.specs.inner.NextHomes.{HasNumberedKeys}
use Rattle.psdl_check.specs.inner.Numbering.{AreAllNumbered, HasNumber, IsNumberable, numbers_of}
use Rattle.psdl_check.specs.inner.Rising.{IsRising}
use Rattle.psdl_check.proofs.KeyedBases.{base_numbered}
use Rattle.psdl_check.proofs.Homing.{news_are, all_parts, one_home_more}

-- whether the base has it is told for each key
told_at : (all : List Declaration) (base : Option ℕ) (hs : List HeldKey) (i : ℕ) (h : HeldKey) → map (λ (h : HeldKey). h.of_base) hs ≡ map (base_has all base) (held_views hs) → i < length hs → h ≡ get_or hs i h → h.of_base ≡ base_has all base (held_view h)
told_at all base [] i h told lt is = absurd (omega (arith, lt))
told_at all base (x ∷ hs) zero h told lt is =
    let first : x.of_base ≡ base_has all base (held_view x) = cc in
    subst (λ (y : HeldKey). y.of_base ≡ base_has all base (held_view y)) (sym is) first
told_at all base (x ∷ hs) (suc i) h told lt is =
    let rest : map (λ (h : HeldKey). h.of_base) hs ≡ map (base_has all base) (held_views hs) = cc in
    told_at all base hs i h rest (omega (arith, lt)) is

module _ (all asked : List Declaration) (ids : KeyIds) (home : Introducing) (base : Option ℕ) (held : List HeldKey) (keys : Keys) (homes more : List ℕ) (same : asked ≡ all) (number : home.number ≡ home_no all home.home)
    (is_base : base ≡ base_home all home.home) (are : AreHeld all ids home.home base held) (names : HasNames all home.home home.members.now) (whole : concrete_homes all ≡ (homes ++ home.home ∷ []) ++ more) (before : AreKeys all ids (flat_map (introduced all) homes) keys) (few : length (flat_map (introduced all) homes) ≤ most_shape) (rising : IsRising (graph_of all)) where
  new : news home held ≡ introduced all home.home
  new = news_are all ids home base held is_base are

  of_base : (i : ℕ) (h : HeldKey) → i < length held → h ≡ get_or held i h → h.of_base ≡ true → HasNumber all home.home (flat_map (introduced all) homes) (held_view h)
  of_base i h lt is on =
      base_numbered all rising homes more home.home (held_view h) whole
      (ap (λ (o : Option ℕ). base_has all o (held_view h)) (sym is_base) ∙ sym (told_at all base held i h are.of_base lt is) ∙ on)

  can_number : IsNumberable asked ids (flat_map (introduced all) homes) (flat_map (introduced all) more) home held keys
  can_number =
      subst (λ (d : List Declaration). IsNumberable d ids (flat_map (introduced all) homes) (flat_map (introduced all) more) home held keys) (sym same)
      (record { layout = record { number = number; members = names }; numbered = are.numbered; before = before; rest = all_parts all homes more home (news home held) whole new; few = few; of_base = of_base })

  lines_are : (front length_ : ℕ) → length_ ≡ cut (front + length (flat_map (key_line (schema asked)) (numbers_of asked home.home (held_views held)))) → length_ ≡ cut (front + length (key_lines all home.home))
  lines_are front n is =
      is ∙ ap (λ (d : List Declaration). cut (front + length (flat_map (key_line (schema d)) (numbers_of d home.home (held_views held))))) same
      ∙ ap (λ (v : List Listed). cut (front + length (flat_map (key_line (schema all)) (numbers_of all home.home v)))) are.views

  numbers_are : numbers_of asked home.home (held_views held) ≡ key_numbers all home.home
  numbers_are = ap (λ (d : List Declaration). numbers_of d home.home (held_views held)) same ∙ ap (numbers_of all home.home) are.views

  keys_are : (after : Keys) → AreKeys asked ids (flat_map (introduced all) homes ++ news home held) after → AreKeys all ids (flat_map (introduced all) (homes ++ home.home ∷ [])) after
  keys_are after is =
      subst (λ (l : List Introduced). AreKeys all ids l after) (ap (λ l. flat_map (introduced all) homes ++ l) new ∙ sym (one_home_more all homes home.home))
      (subst (λ (d : List Declaration). AreKeys d ids (flat_map (introduced all) homes ++ news home held) after) same is)

  -- so they are numbered, where all keys that may be numbered are
  pub keys_numbered : (front : ℕ) (after : Keys) (numbered : Numbered)
      → ((before_ behind : List Introduced) → IsNumberable asked ids before_ behind home held keys → AreAllNumbered asked ids before_ home held front after numbered)
      → HasNumberedKeys all ids homes home.home front after numbered
  keys_numbered front after numbered f =
      let told = f (flat_map (introduced all) homes) (flat_map (introduced all) more) can_number in
      record {
        reached = lines_are front numbered.length.0 told.reached;
        counted = λ fits. told.counted fits ∙ numbers_are;
        known = λ fits. keys_are after (told.known fits);
      }
