use Rattle.psdl_directory.proofs.spelling.Spelling.note.Goals as goal

pub returns-in-AsIs-clause-number : goal.returns-in-AsIs-clause-number
returns-in-AsIs-clause-number c = rw c.in-AsIs.is c.note.ensures.number

pub returns-in_ok-small-in-Lower-clause-number : goal.returns-in_ok-small-in-Lower-clause-number
returns-in_ok-small-in-Lower-clause-number c = rw c.in-Lower.is (rw (c.deref.ensures.value, c.in_ok-small-in-Lower.ensures) at c.note-in-Lower.ensures.number)
