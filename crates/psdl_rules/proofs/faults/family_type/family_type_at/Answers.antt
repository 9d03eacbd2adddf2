use Rattle.std.proofs.Common.{◌∙◌, Bool, not, ap, sym}
use Rattle.pss_base.specs.declared.place.Place.{Place}
use Rattle.psdl_directory.specs.declared.fault.CheckKind.TheVariants.{FamilyType}
use Rattle.psdl_directory.specs.Fault.{fault_if}
use Rattle.psdl_directory.specs.Lookup.{at}
use Rattle.psdl_directory.specs.Noting.{noting}
use Rattle.psdl_rules.specs.Texts.{judged}
use Rattle.psdl_rules.specs.inner.Related.{met, has_earlier}
use Rattle.psdl_rules.proofs.Noted.{not_not}
use Rattle.psdl_rules.proofs.Kindred.{entered, one_more, none_more, met_before, none_before}
use Rattle.psdl_rules.proofs.faults.family_type.family_type_at.Goals as goal

pub returns-in_ok-is_new-in-Some-clause-met : goal.returns-in_ok-is_new-in-Some-clause-met
returns-in_ok-is_new-in-Some-clause-met c =
    let old = c.args.members.now in
    let new = c.insert.new.self in
    one_more (judged c.args.text.now) c.args.number c.in-Some.member old new c.requires.met (sym c.in-Some.is ∙ c.membership_of.ensures) (entered (met old) (met new) c.in-Some.member c.in_ok-is_new-in-Some.ensures.updates.0)

pub returns-in_ok-is_new-in-Some-clause-noted : goal.returns-in_ok-is_new-in-Some-clause-noted
returns-in_ok-is_new-in-Some-clause-noted c =
    let all = judged c.args.text.now in
    let n = c.args.number in
    c.note_if.ensures
    ∙ ap (λ (b : Bool). noting c.args.least.now (fault_if b FamilyType c.place.result)) (ap not c.in_ok-is_new-in-Some.ensures.added ∙ not_not (met c.args.members.now c.in-Some.member) ∙ met_before all c.args.members.now c.in-Some.member n c.requires.met c.requires.number (sym c.in-Some.is ∙ c.membership_of.ensures))
    ∙ ap (λ (p : Place). noting c.args.least.now (fault_if (has_earlier all n) FamilyType p)) c.place.ensures

pub returns-in-None-clause-met : goal.returns-in-None-clause-met
returns-in-None-clause-met c = none_more (judged c.args.text.now) c.args.number c.args.members.now c.requires.met (sym c.in-None.is ∙ c.membership_of.ensures)

pub returns-in-None-clause-noted : goal.returns-in-None-clause-noted
returns-in-None-clause-noted c =
    let all = judged c.args.text.now in
    ap (λ (b : Bool). noting c.args.least.now (fault_if b FamilyType (at all c.args.number).place)) (none_before all c.args.number c.requires.number (sym c.in-None.is ∙ c.membership_of.ensures))
