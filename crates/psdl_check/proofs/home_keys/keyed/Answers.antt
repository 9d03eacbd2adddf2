use Rattle.std.proofs.Common.{◌∙◌, ◌++◌, ◌∷◌, [], List, Bool, length, nat_lt, sym, ap, arith}
use Rattle.std.proofs.lemmas.List.FromFn.{map-range_with_len_more}
use Rattle.psdl_check.specs.inner.Gathered.{keyed_rows}
use Rattle.psdl_check.specs.inner.KeyRowed.{row_in}
use Rattle.psdl_check.proofs.home_keys.keyed.Goals as goal

pub loop-index-preserved : goal.loop-index-preserved
loop-index-preserved c =
    let rows = c.args.rows.now.rows.items in
    c.in_ok-push.ensures.items ∙ ap (λ (l : List Bool). l ++ c.has_keys.result ∷ []) c.loop-index.invariant ∙ ap (λ (b : Bool). keyed_rows rows c.loop-index.index ++ b ∷ []) c.has_keys.ensures
    ∙ sym (map-range_with_len_more (λ n. nat_lt 0 (length (row_in rows n))) 0 c.loop-index.index c.loop-index.index (omega arith))
