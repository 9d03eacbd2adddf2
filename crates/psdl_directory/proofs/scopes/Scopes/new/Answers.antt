use Rattle.std.proofs.Common.{rules}
use Rattle.psdl_directory.specs.inner.Scopes.{paths_of}
use Rattle.psdl_directory.proofs.Opened.{none_yet}
use Rattle.psdl_directory.proofs.scopes.Scopes.new.Goals as goal

pub returns : goal.returns
unfolding paths_of
returns c = search rules

pub invariant_of-result : goal.invariant_of-result
unfolding paths_of
invariant_of-result c = rw c.new.ensures.items (none_yet c.new-2.result c.new-2.ensures.empty)
