use Rattle.psdl_directory.specs.Lookup.{as_is}
use Rattle.psdl_directory.specs.inner.Keys.{plain}
use Rattle.psdl_directory.proofs.Keyed.{keys_kept}
use Rattle.psdl_directory.proofs.tables.all_keys.Goals as goal

pub returns-clause-exact : goal.returns-clause-exact
returns-clause-exact c = keys_kept as_is plain c.keys.new.spellings c.keys-2.new.spellings c.in_ok-exact.exact.items c.args.declarations.now c.keys-2.ensures.kept c.in_ok-exact.ensures.keys
