use Rattle.psdl_directory.specs.Lookup.{as_is}
use Rattle.psdl_directory.specs.inner.Keys.{whole}
use Rattle.psdl_directory.proofs.Indexed.{indexes, if_ok}
use Rattle.psdl_directory.proofs.tables.wholes.Goals as goal

pub returns : goal.returns
returns c = if_ok c.table_of.result _ _ (λ t h. indexes as_is whole c.args.keys.now.spellings t c.in_ok-wholes.wholes.items c.args.declarations.now h c.in_ok-wholes.ensures) (rw c.deref-2.ensures.value at c.table_of.ensures)
