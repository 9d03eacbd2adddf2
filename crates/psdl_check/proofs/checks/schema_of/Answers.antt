use Rattle.std.proofs.Common.{◌∙◌, List, ap, subst, sym}
use Rattle.psdl_directory.specs.Declarations.{Declaration}
use Rattle.psdl_directory.specs.Lookup.{at}
use Rattle.psdl_lineage.specs.Lineages.{text_of}
use Rattle.psdl_check.specs.inner.Made.{IsMade}
use Rattle.psdl_rules.specs.Faults.{faults}
use Rattle.psdl_check.proofs.FaultlessTexts.{nothing_least}
use Rattle.psdl_check.proofs.FewHomes.{few_homes}
use Rattle.psdl_check.proofs.FewMembers.{few_members}
use Rattle.psdl_check.proofs.InFront.{rising_of}
use Rattle.psdl_check.proofs.Judging.{whole_is, too_long_is}
use Rattle.psdl_check.proofs.SmallLayouts.{small_layouts}
use Rattle.psdl_check.proofs.checks.schema_of.Goals as goal

pub returns-in-Whole : goal.returns-in-Whole
returns-in-Whole c =
    let all = text_of c.args.lineage.now in
    whole_is all c.in_ok-made.made c.in-Whole.schema (subst (λ (d : List Declaration). IsMade d c.in_ok-made.made) c.in_ok-text.ensures.text c.in_ok-made.ensures) c.in-Whole.is c.requires.sound

pub returns : goal.returns
returns c =
    let all = text_of c.args.lineage.now in
    too_long_is all c.in_ok-made.made c.in-TooLong.home c.place.result (subst (λ (d : List Declaration). IsMade d c.in_ok-made.made) c.in_ok-text.ensures.text c.in_ok-made.ensures) c.in-TooLong.is
    (c.place.ensures ∙ ap (λ (d : List Declaration). (at d c.in-TooLong.home).place) c.directory.ensures) c.requires.sound

pub make_schema-requires : goal.make_schema-requires
make_schema-requires c = c.in_ok-text.ensures.told ∙ c.requires.one ∙ sym c.in_ok-text.ensures.text

pub new-requires-clause-rising : goal.new-requires-clause-rising
new-requires-clause-rising c = rising_of (text_of c.args.lineage.now) c.requires.sound

pub new-requires-clause-few : goal.new-requires-clause-few
new-requires-clause-few c =
    let all = text_of c.args.lineage.now in
    few_homes all (nothing_least (faults all) c.requires.sound)

pub new-requires-clause-members : goal.new-requires-clause-members
new-requires-clause-members c n =
    let all = text_of c.args.lineage.now in
    few_members all (nothing_least (faults all) c.requires.sound) n

pub new-requires-clause-small : goal.new-requires-clause-small
new-requires-clause-small c n =
    let all = text_of c.args.lineage.now in
    small_layouts all c.requires.turn (nothing_least (faults all) c.requires.sound) n
