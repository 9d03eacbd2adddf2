use Rattle.std.proofs.Common.{arith}
use Rattle.page_format.proofs.Buffers.{some_weaker}
use Rattle.page_format.proofs.Heads.{head_read}
use Rattle.page_format.proofs.head.read_head.Goals as goal

pub returns-in-Ok-clause-head : goal.returns-in-Ok-clause-head
returns-in-Ok-clause-head g c =
    some_weaker (g.W.Station.content c.args.w.now) _ _ (λ image is. head_read c.args.area c.head_of.result c.read_at.new.buf image (omega arith) c.head_of.ensures is) c.in-Ok.ensures.read
