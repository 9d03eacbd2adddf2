use Rattle.std.proofs.Common.{◌≡◌, arith, length}
use Rattle.page_format.specs.Refusals.{IsRootRefusal}
use Rattle.page_format.specs.inner.Current.{IsCurrentHead}
use Rattle.page_format.proofs.Buffers.{some_both}
use Rattle.page_format.proofs.roots.root_of.Goals as goal

pub returns-in-Err-test_head-clause-refused : goal.returns-in-Err-test_head-clause-refused
returns-in-Err-test_head-clause-refused g c =
    some_both (g.W.Station.content c.args.w.now) (λ image. length image ≡ c.args.len) (IsCurrentHead c.in-Ok.found) (IsRootRefusal c.in-Err-test_head.fault)
    (λ image len is. c.in-Err-test_head.ensures.refused c.args.len image (record { long = omega (arith, len, c.requires.long); len_ = len; found_ = is })) c.requires.len c.in-Ok.ensures.current
