use Rattle.std.proofs.Common.{◌∙◌, Bool, List, length, ap, sym, arith}
use Rattle.std.proofs.lemmas.Bool.{ltb-false}
use Rattle.psdl_directory.specs.declared.fault.CheckFault.{CheckFault}
use Rattle.psdl_directory.specs.declared.fault.CheckKind.TheVariants.{KeyType}
use Rattle.psdl_directory.specs.Fault.{fault_if}
use Rattle.psdl_directory.specs.Noting.{noting}
use Rattle.psdl_standings.specs.Texts.{types_in}
use Rattle.psdl_rules.proofs.Listed.{type_at_place}
use Rattle.psdl_rules.proofs.faults.key_type.keyed_at.Goals as goal

pub returns-in-Some : goal.returns-in-Some
returns-in-Some c =
    let i = c.args.identifier.now in
    c.note_if.ensures
    ∙ ap (λ (b : Bool). noting c.args.least.now (fault_if b KeyType i.place)) c.is_compound-holds.ensures
    ∙ ap (λ (l : List CheckFault). noting c.args.least.now l) (type_at_place (types_in c.args.standings.now) c.args.kept.now i c.args.place c.in-Some.entry.now c.requires c.in-Some.ensures.lookup.1)

pub returns-in-None : goal.returns-in-None
returns-in-None c = absurd (omega (arith, ltb-false c.args.place (length c.args.kept.now) (sym c.in-None.ensures.lookup.0), c.requires))
