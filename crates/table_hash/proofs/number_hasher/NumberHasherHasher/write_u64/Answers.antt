use Rattle.std.proofs.Common.{◌∙◌, ap, sym}
use Rattle.table_hash.specs.Numbers.{mixed}
use Rattle.table_hash.proofs.NumberWords.{eight}
use Rattle.table_hash.proofs.number_hasher.NumberHasherHasher.write_u64.Goals as goal

pub returns : goal.returns
returns c =
    let state = c.mixed-self.ensures ∙ ap (mixed c.args.self.now.state) (sym (eight c.args.i c.ranges.i.fits)) in
    ap (λ s. record { state = s }) state
