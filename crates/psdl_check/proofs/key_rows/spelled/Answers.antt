use Rattle.std.proofs.Common.{◌∷◌, [], rules}
use Rattle.psdl_lineage.specs.Descent.{names_of}
use Rattle.psdl_members.specs.inner.Entries.{AreSpelled}
use Rattle.psdl_check.proofs.KeyIding.{spelled_all}
use Rattle.psdl_check.proofs.key_rows.spelled.Goals as goal

pub returns-clause-spelled : goal.returns-clause-spelled
returns-clause-spelled c =
    let listed = c.args.listed.now in
    let start : AreSpelled c.args.spellings.now c.new-numbers.result.items [] = search rules in
    let name = listed.name.now.name in
    spelled_all c.add_numbers-2.new.spellings c.add_numbers-2.new.numbers.items name listed.first.now listed.others.now
    (c.in_ok-add_numbers-2.ensures.spelled (name ∷ names_of listed.first.now) (c.in_ok-add_numbers.ensures.spelled (name ∷ []) (c.in_ok-add_number.ensures.spelled [] start)))

pub returns-clause-kept : goal.returns-clause-kept
returns-clause-kept c q n is = c.in_ok-add_numbers-2.ensures.kept q n (c.in_ok-add_numbers.ensures.kept q n (c.in_ok-add_number.ensures.kept q n is))
