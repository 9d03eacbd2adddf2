use Rattle.std.proofs.Common.{length, ap, arith}
use Rattle.page_format.specs.inner.Buffers.{Filled}
use Rattle.page_format.proofs.Spelled.{length_root}
use Rattle.pss_recovery.specs.inner.Blanks.{first_root}
use Rattle.pss_recovery.proofs.clearing.write_new.Goals as goal

pub make-requires-clause-short : goal.make-requires-clause-short
make-requires-clause-short g c =
    omega (arith, ap length c.as_slice.ensures, ap (λ (b : Filled). length b.octets) c.root.view_is, ap length c.in-Ok.ensures, length_root (first_root c.args.shape.now), c.requires.short, ap length c.deref.ensures.value, c.in-Ok-zeros.ensures.len)
