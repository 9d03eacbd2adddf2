use Rattle.std.proofs.Common.{length}
use Rattle.psdl_check.proofs.Gathering.{below_at_key}
use Rattle.psdl_check.proofs.home_keys.with_marks.Goals as goal

pub has-requires : goal.has-requires
has-requires c = below_at_key (length c.args.marks.now) c.args.keys.now c.loop-key.key-index c.key-item.result c.requires c.loop-key-test.true c.key-item.is
