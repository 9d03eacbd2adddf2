use Rattle.std.proofs.Common.{ℕ, sym, ap, ◌∙◌, get_or, take_all, arith}
use Rattle.std.proofs.hash.Loops.{byte_more}
use Rattle.table_hash.specs.Numbers.{shifted, word_of}
use Rattle.table_hash.proofs.number_hasher.word_of.Goals as goal

pub loop-i-preserved : goal.loop-i-preserved
loop-i-preserved c =
    let bs = c.args.bytes.now in
    let i = c.loop-i.i in
    (omega arith, c.shifted-word.ensures ∙ ap (λ (x : ℕ). shifted x (get_or bs i 0)) c.loop-i.invariant.1 ∙ sym (byte_more shifted 0 bs i (omega arith)))

pub returns : goal.returns
returns c = c.loop-i.invariant.1 ∙ ap word_of (take_all c.loop-i.i c.args.bytes.now (omega arith))
