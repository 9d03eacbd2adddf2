use Rattle.pss_laws.proofs.History.{each_run}
use Rattle.pss_laws.proofs.Rising.{always_rise}
use Rattle.pss_laws.proofs.Sourcing.{always_live}
use Rattle.pss_laws.proofs.Counting.{always_counted}
use Rattle.pss_laws.proofs.Changed.{always_changed}
use Rattle.pss_laws.proofs.Again.{next_serial}
use Rattle.pss_laws.proofs.laws.runs_are_serial.Goals as goal

pub returns-clause-serial : goal.returns-clause-serial
returns-clause-serial c = λ S limits M next lines sound unique none. (each_run S sound limits M next lines unique none).listed.serial

pub returns-clause-last : goal.returns-clause-last
returns-clause-last c = λ S limits M next lines sound unique none. (each_run S sound limits M next lines unique none).listed.now

pub returns-clause-unique : goal.returns-clause-unique
returns-clause-unique c = λ S limits M next lines sound unique none. (each_run S sound limits M next lines unique none).listed.all_unique

pub returns-clause-reads : goal.returns-clause-reads
returns-clause-reads c = λ S limits M next lines sound unique none. (each_run S sound limits M next lines unique none).listed.committed

pub returns-clause-live : goal.returns-clause-live
returns-clause-live c = λ S limits M next lines. record { followed = always_live S limits M next lines; serials = always_rise S limits M next lines }

pub returns-clause-again : goal.returns-clause-again
returns-clause-again c = next_serial

pub returns-clause-counted : goal.returns-clause-counted
returns-clause-counted c = always_counted

pub returns-clause-changed : goal.returns-clause-changed
returns-clause-changed c = always_changed
