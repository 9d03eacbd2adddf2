-- The layouts of homes begin with those of their bases, in the schema of a text without a fault.
use Rattle.std.proofs.Common.{◌≡◌, ℕ, List, ◌++◌, Option, Some, None, refl, sym, ap, ◌∙◌}
use Rattle.std.specs.Option.{option_map}
use Rattle.psdl_tree.specs.Trees.{Definitions}
use Rattle.type_layout.specs.declared.home.HomeNo.{HomeNo}
use Rattle.type_layout.specs.Types.{PlainMember}
use Rattle.type_layout.specs.Schemas.{members_at}
use Rattle.psdl_directory.specs.Declarations.{Declaration, all_declarations}
use Rattle.psdl_lineage.specs.Descent.{base_home}
use Rattle.psdl_standings.specs.Standings.{standings}
use Rattle.psdl_check.specs.Faults.{first_fault}
use Rattle.psdl_check.specs.Schemas.{home_layout, home_no, schema}
use Rattle.psdl_sound.specs.SmallLiterals.{AreSmall}
use Rattle.psdl_sound.specs.BaseLayouts.{BeginWithBases, KeepKeyMembers, LayoutsBeginWithBases, KeysKeepMembers}
use Rattle.psdl_sound.proofs.Ancestors.{same_some}
use Rattle.psdl_sound.proofs.BaseLines.{at_end, by_home, IsConcrete, home_concrete, base_parent, concrete_among}
use Rattle.psdl_sound.proofs.Catalogs.{housed}
use Rattle.psdl_sound.proofs.CompleteLayouts.{all_laid}
use Rattle.psdl_sound.proofs.Expressions.{small_at}
use Rattle.psdl_sound.proofs.Homes.{each_home}
use Rattle.psdl_sound.proofs.KeyNames.{each_key}
use Rattle.psdl_sound.proofs.KeyTypes.{IsLaid, laid_is, line_layout, key_member}
use Rattle.psdl_sound.proofs.MemberLists.{members_of_number}
use Rattle.psdl_sound.proofs.NamedTexts.{texts_are_small}

begins_with_base : (all : List Declaration) (none : first_fault all ≡ None) (h : ℕ) → IsConcrete all h → IsLaid all none h → (b : HomeNo) → option_map (home_no all) (base_home all h) ≡ Some b
    → (more : List PlainMember) × (home_layout all (standings all) h ≡ members_at (schema all) b ++ more)
begins_with_base all none h home laid b is = by (base_home all h) refl is
  where
    by : (o : Option ℕ) → base_home all h ≡ o → option_map (home_no all) o ≡ Some b → (more : List PlainMember) × (home_layout all (standings all) h ≡ members_at (schema all) b ++ more)
    by None e is = absurd (cc)
    by (Some g) e is =
        let number : home_no all g ≡ b = same_some (home_no all g) b is in
        let r = line_layout all none h g home (by_home h g g e (at_end g)) laid in
        let at_g = housed all g (concrete_among all g (base_parent all none h g home e).2) in
        let whole : members_at (schema all) b ≡ r.0.layout_members =
        ap (members_at (schema all)) (sym number) ∙ members_of_number all g at_g.0 at_g.1 ∙ laid_is all none g r.0 in
        (r.1, laid_is all none h laid ∙ r.2 ∙ ap (λ (l : List PlainMember). l ++ r.1) (sym whole))

begin_with_bases : (tree : Definitions) (all : List Declaration) → all ≡ all_declarations tree → first_fault all ≡ None → AreSmall all → BeginWithBases (schema all)
begin_with_bases tree all is none small =
    each_home all _ (λ k h home. let one = home_concrete all k h home in begins_with_base all none h one (all_laid tree all is none (small_at all small) h one))

keep_key_members : (tree : Definitions) (all : List Declaration) → all ≡ all_declarations tree → first_fault all ≡ None → AreSmall all → KeepKeyMembers (schema all)
keep_key_members tree all is none small =
    each_key all _
    (λ n i key.
    each_home all _
    (λ k h home on j p there.
    let r = key_member all none n i key k h home (all_laid tree all is none (small_at all small) h (home_concrete all k h home)) on j p there in
    (r.0, r.1, r.2)))

pub layouts_begin_with_bases : LayoutsBeginWithBases
layouts_begin_with_bases tree text is none = begin_with_bases tree (all_declarations tree) refl none (texts_are_small tree text is)

pub keys_keep_members : KeysKeepMembers
keys_keep_members tree text is none = keep_key_members tree (all_declarations tree) refl none (texts_are_small tree text is)
