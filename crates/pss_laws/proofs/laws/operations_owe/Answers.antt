use Rattle.pss_laws.proofs.Answering.{answering}
use Rattle.pss_laws.proofs.Footprint.{footprint}
use Rattle.pss_laws.proofs.Overs.{alike_after, left_alike}
use Rattle.pss_laws.proofs.Unique.{stays_none, stays_unique}
use Rattle.pss_laws.proofs.laws.operations_owe.Goals as goal

pub returns-clause-alike : goal.returns-clause-alike
returns-clause-alike c = λ S M N op there unique_m unique_n agree. answering S M N unique_m unique_n op there agree

pub returns-clause-needed : goal.returns-clause-needed
returns-clause-needed c = λ S level M op fresh. footprint S M level op fresh

pub returns-clause-unique : goal.returns-clause-unique
returns-clause-unique c = λ S M op unique. stays_unique S M op unique

pub returns-clause-left : goal.returns-clause-left
returns-clause-left c = λ S M N cs r same alike. left_alike S M N cs r same alike

pub returns-clause-both : goal.returns-clause-both
returns-clause-both c = λ S M N cs r alike. alike_after S M N cs r alike

pub returns-clause-created : goal.returns-clause-created
returns-clause-created c = λ S M op s apart none. stays_none S M s none op apart
