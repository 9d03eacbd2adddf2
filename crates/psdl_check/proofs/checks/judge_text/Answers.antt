use Rattle.std.proofs.Common.{◌∙◌, List, ap, sym}
use Rattle.psdl_directory.specs.Declarations.{Declaration}
use Rattle.psdl_directory.specs.Fault.{least}
use Rattle.psdl_lineage.specs.Lineages.{text_of}
use Rattle.psdl_rules.specs.Faults.{faults}
use Rattle.psdl_check.proofs.Judging.{fault_is}
use Rattle.psdl_check.proofs.checks.judge_text.Goals as goal

pub first_fault-requires : goal.first_fault-requires
first_fault-requires c = record { told = c.requires.one ∙ sym c.new-text.ensures }

pub schema_of-requires-clause-sound : goal.schema_of-requires-clause-sound
schema_of-requires-clause-sound c = ap (λ (d : List Declaration). least (faults d)) (sym c.new-text.ensures) ∙ sym c.in_ok-first.ensures ∙ c.in-None.is

pub returns-in-Some : goal.returns-in-Some
returns-in-Some c = fault_is (text_of c.args.lineage.now) c.in_ok-first.first c.in-Some.fault (c.in_ok-first.ensures ∙ ap (λ (d : List Declaration). least (faults d)) c.new-text.ensures) c.in-Some.is
