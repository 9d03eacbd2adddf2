use Rattle.std.proofs.Common.{arith}
use Rattle.std.proofs.lemmas.Bool.{ltb-false}
use Rattle.owner_accounts.proofs.May.{there}
use Rattle.owner_accounts.proofs.Growing.{changes_add}
use Rattle.owner_accounts.proofs.accounts.Accounts.may_be_too_much.Goals as goal

pub returns : goal.returns
returns c S m not =
    omega (arith, ltb-false _ _ not, c.total_bytes.ensures S m.by.kept.catalog m.by.are.catalog, c.changed_count.ensures m.by.owner (there m.by), changes_add m.by)
