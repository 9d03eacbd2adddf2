use Rattle.std.proofs.Common.{◌++◌}
use Rattle.psdl_lineage.specs.Lineages.{asked_of}
use Rattle.psdl_check.specs.inner.KeyIds.{own_view}
use Rattle.psdl_check.specs.inner.KeysMade.{new_one}
use Rattle.psdl_check.proofs.Counting.{number_told}
use Rattle.psdl_check.proofs.numbering.number_of.Goals as goal

pub returns-clause-keys : goal.returns-clause-keys
returns-clause-keys c ids introduced has numbered are = c.in_ok-introduce_new.ensures (asked_of c.args.conformity.now) ids introduced has numbered are

pub returns-clause-number : goal.returns-clause-number
returns-clause-number c ids introduced has numbered few of_base are =
    let all = asked_of c.args.conformity.now in
    let home = c.args.home.now in
    number_told all home c.args.of_base introduced (own_view c.args.key) c.in_ok-first.first c.key_no.result.0 few of_base
    (c.in_ok-first.ensures.first ids (introduced ++ new_one c.args.of_base home (own_view c.args.key)) numbered (c.in_ok-introduce_new.ensures all ids introduced has numbered are))
    c.key_no.ensures
