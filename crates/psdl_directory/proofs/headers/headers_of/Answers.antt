use Rattle.psdl_directory.specs.Directories.{all_of}
use Rattle.psdl_directory.specs.Headers.{header}
use Rattle.psdl_directory.proofs.Ranged.{each_more}
use Rattle.psdl_directory.proofs.headers.headers_of.Goals as goal

pub loop-index-preserved : goal.loop-index-preserved
loop-index-preserved c =
    each_more (header (all_of c.args.directory.now)) c.loop-index.headers.items c.push.new.self.items c.in_ok-header.header c.loop-index.index c.in_ok-push.ensures.items c.loop-index.invariant (rw c.new.ensures at c.in_ok-header.ensures)
