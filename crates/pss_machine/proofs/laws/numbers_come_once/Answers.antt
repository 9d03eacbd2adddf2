use Rattle.pss_machine.proofs.Numbering as numbering
use Rattle.pss_machine.proofs.laws.numbers_come_once.Goals as goal

pub returns-clause-sessions : goal.returns-clause-sessions
returns-clause-sessions c = numbering.sessions_once

pub returns-clause-entries : goal.returns-clause-entries
returns-clause-entries c = numbering.entries_once

pub returns-clause-same_session : goal.returns-clause-same_session
returns-clause-same_session c = numbering.sessions_stay

pub returns-clause-same_object : goal.returns-clause-same_object
returns-clause-same_object c = numbering.entries_stay
