use Rattle.std.proofs.Common.{◌∙◌, ap, refl}
use Rattle.psdl_directory.specs.Fault.{each, least}
use Rattle.psdl_standings.specs.Naming.{of_strings}
use Rattle.psdl_standings.specs.Standings.{standings}
use Rattle.psdl_standings.specs.Texts.{text_of}
use Rattle.psdl_rules.specs.Faults.{wrong_names, wrong_values}
use Rattle.psdl_rules.proofs.Bodies.{names_alike, values_alike}
use Rattle.psdl_rules.proofs.Found.{one_found, three_found}
use Rattle.psdl_rules.proofs.faults.body_faults.Goals as goal

pub returns : goal.returns
returns c =
    let all = text_of c.args.standings.now in
    three_found c.args.least.now c.note_found.new.least c.note_found-2.new.least c.note_found-3.new.least
    (each (wrong_names all (standings all)) all) (each (of_strings all (standings all)) all) (each (wrong_values all (standings all)) all)
    (one_found (λ ds. each (wrong_names ds (standings ds)) ds) c.args.least.now c.note_found.new.least c.names_fault.result all all refl (c.names_fault.ensures ∙ ap least (names_alike all (standings all))) c.note_found.ensures)
    (one_found (λ ds. each (of_strings ds (standings ds)) ds) c.note_found.new.least c.note_found-2.new.least c.strings_fault.result all all refl c.strings_fault.ensures c.note_found-2.ensures)
    (one_found (λ ds. each (wrong_values ds (standings ds)) ds) c.note_found-2.new.least c.note_found-3.new.least c.values_fault.result all all refl (c.values_fault.ensures ∙ ap least (values_alike all (standings all))) c.note_found-3.ensures)
