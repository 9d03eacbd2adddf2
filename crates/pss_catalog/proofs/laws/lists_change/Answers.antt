use Rattle.pss_catalog.proofs.Listing.{entries_without, listed_without, listed_with, only_listed}
use Rattle.pss_catalog.proofs.laws.lists_change.Goals as goal

pub returns-clause-entries : goal.returns-clause-entries
returns-clause-entries c = entries_without

pub returns-clause-without : goal.returns-clause-without
returns-clause-without c = listed_without

pub returns-clause-with : goal.returns-clause-with
returns-clause-with c = listed_with

pub returns-clause-alone : goal.returns-clause-alone
returns-clause-alone c = only_listed
