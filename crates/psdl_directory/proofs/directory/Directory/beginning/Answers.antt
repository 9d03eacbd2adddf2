use Rattle.psdl_directory.proofs.directory.Directory.beginning.Goals as goal

pub returns-in-Some : goal.returns-in-Some
returns-in-Some c = rw c.in-Some.is (rw (c.root.ensures.path, c.as_slice-first.ensures) at c.first_called.ensures)

pub returns-in-None : goal.returns-in-None
returns-in-None c = rw c.in-None.is (rw (c.scope.ensures.path, c.as_slice-first.ensures) at c.called_outwards.ensures)
