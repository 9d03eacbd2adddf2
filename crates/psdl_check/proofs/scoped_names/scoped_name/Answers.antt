use Rattle.std.proofs.Common.{map}
use Rattle.psdl_directory.specs.Directories.{all_of}
use Rattle.psdl_directory.specs.Lookup.{at}
use Rattle.psdl_check.proofs.Prefixed.{whole_name}
use Rattle.psdl_check.proofs.scoped_names.scoped_name.Goals as goal

pub returns : goal.returns
returns c =
    whole_name (at (all_of c.args.directory.now) c.args.number) (map (λ n. n.now) c.in_ok-modules.modules.items) c.in_ok-whole.whole c.name.result.now c.extend.new.self
    (rw c.deref.ensures.value at c.in_ok-whole.ensures) c.in_ok-modules.ensures c.name.ensures c.in_ok-extend.ensures.ok
