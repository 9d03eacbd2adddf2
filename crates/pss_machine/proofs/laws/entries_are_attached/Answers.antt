use Rattle.pss_machine.proofs.Attaching.{only_open}
use Rattle.pss_machine.proofs.Staying.{others_stay, only_used, refresh_detaches}
use Rattle.pss_machine.proofs.Recounting.{dup_detaches, release_detaches}
use Rattle.pss_machine.proofs.Used as used
use Rattle.pss_machine.proofs.laws.entries_are_attached.Goals as goal

pub returns-clause-in_open : goal.returns-clause-in_open
returns-clause-in_open c = only_open

pub returns-clause-used : goal.returns-clause-used
returns-clause-used c = only_used

pub returns-clause-others : goal.returns-clause-others
returns-clause-others c = others_stay

pub returns-clause-refreshed : goal.returns-clause-refreshed
returns-clause-refreshed c = refresh_detaches

pub returns-clause-attached : goal.returns-clause-attached
returns-clause-attached c = used.used_attached

pub returns-clause-given : goal.returns-clause-given
returns-clause-given c = used.given_for

pub returns-clause-dup : goal.returns-clause-dup
returns-clause-dup c = dup_detaches

pub returns-clause-released : goal.returns-clause-released
returns-clause-released c = release_detaches
