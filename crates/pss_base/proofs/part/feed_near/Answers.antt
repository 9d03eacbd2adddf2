use Rattle.std.proofs.Common.{◌==◌, Some, sym, ap, ◌∙◌, arith, w8}
use Rattle.std.proofs.lemmas.Simd.{bitmask_splat, length-chunk}
use lib.Lanes.{chunk}
use lib.Count.{count_trailing_zeros}
use Rattle.pss_base.proofs.Near.{near}
use Rattle.pss_base.proofs.part.feed_near.Goals as goal

pub returns : goal.returns
returns c =
    let mask = bitmask_splat w8 (λ a b. a == b) (chunk 0 32 c.args.bytes.now) 32 10 (length-chunk 0 32 c.args.bytes.now (omega arith)) (omega arith) in
    near _ c.args.bytes.now 32 (omega arith) (omega arith) (omega (arith, mask)) ∙ ap (λ m. Some (count_trailing_zeros 64 m)) (sym mask)
