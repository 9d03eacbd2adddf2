use Rattle.psdl_directory.specs.Directories.{all_of}
use Rattle.psdl_members.proofs.numbers.numbers_of.Goals as goal

pub returns : goal.returns
returns c = c.in_ok-numbers.ensures (all_of c.args.directory.now) c.in_ok-bodies.ensures.members c.in_ok-bodies.ensures.starts
