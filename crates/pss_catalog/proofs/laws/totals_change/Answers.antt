use Rattle.pss_catalog.specs.Catalog.{weight}
use Rattle.pss_catalog.proofs.Listing.{total_without, total_with}
use Rattle.pss_catalog.proofs.laws.totals_change.Goals as goal

pub returns-clause-without : goal.returns-clause-without
returns-clause-without c = λ S M s. total_without (weight S) M s

pub returns-clause-with : goal.returns-clause-with
returns-clause-with c = λ S M s object. total_with (weight S) M s object
