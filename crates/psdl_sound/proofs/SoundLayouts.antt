-- The types of the members of homes in the schema of a text without a fault are sound, and their references lead to homes.
use Rattle.std.proofs.Common.{◌≡◌, ℕ, zero, suc, ◌+◌, ◌≤◌, List, [], ◌∷◌, ◌++◌, length, Some, None, sym, ap, subst, ◌∙◌, arith, length-append}
use Rattle.std.specs.Prelude.{codes}
use Rattle.std.specs.List.{flat_map, slice_get}
use Rattle.std.specs.Option.{option_map}
use Rattle.std.proofs.lemmas.Option.{slice_get-map}
use Rattle.psdl_tree.specs.Trees.{Definitions}
use Rattle.type_layout.specs.declared.schema.Home.{Home}
use Rattle.type_layout.specs.declared.schema.Schema.{Schema}
use Rattle.type_layout.specs.ShapeText.{type_text, member_line, home_line, key_line, home_lines, lines_from}
use Rattle.type_layout.specs.Sound.{EachMember, IsSoundLayout, StaysWithin}
use Rattle.type_layout.specs.Types.{PlainMember}
use Rattle.psdl_directory.specs.Declarations.{Declaration, all_declarations}
use Rattle.psdl_lineage.specs.Descent.{concrete_homes}
use Rattle.psdl_check.specs.Faults.{first_fault}
use Rattle.psdl_rules.specs.Faults.Limit.{most_shape}
use Rattle.psdl_check.specs.Schemas.{home_layout, home_of, referents, schema}
use Rattle.psdl_standings.specs.Standings.{standings}
use Rattle.psdl_check.specs.TextNames.{AreNames}
use Rattle.psdl_check.proofs.MemberTypes.{layout_holds}
use Rattle.psdl_sound.proofs.FineTypes.{IsFine, AreFine, fine_handed_on, reference_fine}
use Rattle.psdl_sound.proofs.Homes.{IsHome, homes_of, homes_count}
use Rattle.psdl_sound.proofs.HomeNumbers.{referents_rise, referents_stay}
use Rattle.psdl_sound.proofs.ShapeTexts.{short_shape}
use Rattle.psdl_sound.proofs.FineStandings.{no_value_fault, all_fine}

-- ---- the text of a type is part of the shape

member_text : (m : PlainMember) → length (type_text m.type) ≤ length (member_line m)
member_text m =
    let front : List ℕ = codes "member " ++ m.name ++ codes " " in
    omega (arith, length-append front (type_text m.type), length-append (front ++ type_text m.type) (10 ∷ []))

text_among : (ms : List PlainMember) (i : ℕ) (m : PlainMember) → slice_get ms i ≡ Some m → length (type_text m.type) ≤ length (flat_map member_line ms)
text_among [] i m is = absurd (cc)
text_among (x ∷ xs) zero m is =
    let same : x ≡ m = cc in
    omega (arith, member_text m, ap (λ (y : PlainMember). length (member_line y)) same, length-append (member_line x) (flat_map member_line xs))
text_among (x ∷ xs) (suc i) m is = omega (arith, text_among xs i m is, length-append (member_line x) (flat_map member_line xs))

lines_among : (S : Schema) (homes : List Home) (number k : ℕ) (home : Home) → slice_get homes k ≡ Some home → length (flat_map member_line home.layout.members) ≤ length (lines_from S number homes)
lines_among S [] number k home is = absurd (cc)
lines_among S (h ∷ hs) number zero home is =
    let same : h ≡ home = cc in
    omega (
      arith,
      ap (λ (x : Home). length (flat_map member_line x.layout.members)) same,
      length-append (home_lines S number h) (lines_from S (number + 1) hs),
      length-append (home_line number h ++ flat_map member_line h.layout.members) (flat_map (key_line S) h.keys),
      length-append (home_line number h) (flat_map member_line h.layout.members),
    )
lines_among S (h ∷ hs) number (suc k) home is = omega (arith, lines_among S hs (number + 1) k home is, length-append (home_lines S number h) (lines_from S (number + 1) hs))

home_there : (all : List Declaration) (k n : ℕ) → IsHome all k n → slice_get (schema all).homes k ≡ Some (home_of all (standings all) n)
home_there all k n home =
    ap (λ (l : List Home). slice_get l k) (homes_of all) ∙ slice_get-map (home_of all (standings all)) (concrete_homes all) k ∙ ap (option_map (home_of all (standings all))) home.at_place

-- the text of a member's type is short
short_text : (all : List Declaration) → first_fault all ≡ None → (k n : ℕ) → IsHome all k n → (i : ℕ) (m : PlainMember) → slice_get (home_layout all (standings all) n) i ≡ Some m → length (type_text m.type) ≤ most_shape
short_text all none k n home i m is =
    omega (
      arith,
      text_among (home_layout all (standings all) n) i m is,
      lines_among (schema all) (schema all).homes 1 k (home_of all (standings all) n) (home_there all k n home),
      short_shape all none,
    )

-- ---- layouts and references

module _ (tree : Definitions) (all : List Declaration) (whole : all ≡ all_declarations tree) (none : first_fault all ≡ None) (names : AreNames all) where
  members_fine : (n : ℕ) → EachMember (home_layout all (standings all) n) (λ m. IsFine (length (concrete_homes all)) m.type)
  members_fine n =
      let most : ℕ = length (concrete_homes all) in
      layout_holds (IsFine most) (AreFine most) (fine_handed_on most) all (no_value_fault all none) (all_fine most tree all whole none names)
      (λ u. reference_fine most (referents all u) (referents_rise all u) (referents_stay all u)) n

  -- the type of each member of a home is sound
  pub sound_layouts : (k n : ℕ) → IsHome all k n → IsSoundLayout (home_layout all (standings all) n)
  sound_layouts k n home i m at = let fine = members_fine n i m at in fine.sound (omega (arith, short_text all none k n home i m at))

  -- its references lead to homes of the schema
  pub references_stay : (n : ℕ) → EachMember (home_layout all (standings all) n) (λ m. StaysWithin (length (schema all).homes) m.type)
  references_stay n i m at = let fine = members_fine n i m at in subst (λ (most : ℕ). StaysWithin most m.type) (sym (homes_count all)) fine.stays
