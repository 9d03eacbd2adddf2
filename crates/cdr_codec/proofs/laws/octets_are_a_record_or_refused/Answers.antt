use Rattle.cdr_codec.proofs.Records.{one_refusal, no_record, record_or_refusal}
use Rattle.cdr_codec.proofs.laws.octets_are_a_record_or_refused.Goals as goal

pub returns-clause-one : goal.returns-clause-one
returns-clause-one c = one_refusal

pub returns-clause-no_record : goal.returns-clause-no_record
returns-clause-no_record c = no_record

pub returns-clause-some : goal.returns-clause-some
returns-clause-some c = record_or_refusal
