use Rattle.psdl_directory.proofs.spelling.Spelling.number.Goals as goal

pub returns-in-AsIs : goal.returns-in-AsIs
returns-in-AsIs c = rw c.in-AsIs.is c.number.ensures

pub returns-in_ok-small-in-Lower : goal.returns-in_ok-small-in-Lower
returns-in_ok-small-in-Lower c = rw c.in-Lower.is (rw (c.deref.ensures.value, c.in_ok-small-in-Lower.ensures) at c.number-in-Lower.ensures)
