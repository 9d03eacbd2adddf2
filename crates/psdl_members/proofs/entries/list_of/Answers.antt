use Rattle.std.proofs.Common.{[], rules}
use Rattle.psdl_lineage.specs.Descent.{names_of}
use Rattle.psdl_members.specs.inner.Entries.{AreSpelled}
use Rattle.psdl_members.proofs.Entering.{spelled_both}
use Rattle.psdl_members.proofs.entries.list_of.Goals as goal

pub returns-clause-spelled : goal.returns-clause-spelled
returns-clause-spelled c =
    let listed = c.args.listed.now in
    let start : AreSpelled c.args.spellings.now c.new-numbers.result.items [] = search rules in
    spelled_both c.add_numbers-2.new.spellings c.add_numbers-2.new.numbers.items listed.first.now listed.others.now
    (c.in_ok-add_numbers-2.ensures.spelled (names_of listed.first.now) (c.in_ok-add_numbers.ensures.spelled [] start))

pub returns-clause-kept : goal.returns-clause-kept
returns-clause-kept c q n is = c.in_ok-add_numbers-2.ensures.kept q n (c.in_ok-add_numbers.ensures.kept q n is)
