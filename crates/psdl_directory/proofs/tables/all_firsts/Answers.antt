use Rattle.psdl_directory.specs.Lookup.{as_is, lower}
use Rattle.psdl_directory.specs.inner.Keys.{plain}
use Rattle.psdl_directory.proofs.Indexed.{indexes}
use Rattle.psdl_directory.proofs.tables.all_firsts.Goals as goal

pub returns-clause-exact : goal.returns-clause-exact
returns-clause-exact c = indexes as_is plain c.args.keys.now.spellings c.in_ok-exact.exact c.args.keys.now.exact.items c.args.declarations.now (rw c.deref.ensures.value at c.in_ok-exact.ensures) c.requires.exact

pub returns-clause-small : goal.returns-clause-small
returns-clause-small c = indexes lower plain c.args.keys.now.spellings c.in_ok-small.small c.args.keys.now.small.items c.args.declarations.now (rw c.deref-2.ensures.value at c.in_ok-small.ensures) c.requires.small
