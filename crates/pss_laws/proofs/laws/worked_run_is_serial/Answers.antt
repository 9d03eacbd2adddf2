use Rattle.pss_laws.proofs.Worked.{history_is, trace_is, first_alone, last_alone, catalog_is}
use Rattle.pss_laws.proofs.laws.worked_run_is_serial.Goals as goal

pub returns-clause-history : goal.returns-clause-history
returns-clause-history c = history_is

pub returns-clause-trace : goal.returns-clause-trace
returns-clause-trace c = trace_is

pub returns-clause-first : goal.returns-clause-first
returns-clause-first c = first_alone

pub returns-clause-last : goal.returns-clause-last
returns-clause-last c = last_alone

pub returns-clause-catalog : goal.returns-clause-catalog
returns-clause-catalog c = catalog_is
