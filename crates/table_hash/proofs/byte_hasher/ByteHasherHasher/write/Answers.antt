use Rattle.std.proofs.Common.{sym, ap, ◌∙◌, get_or, take, drop, take_all, arith}
use Rattle.std.proofs.Math.Seq.{take-add}
use Rattle.std.proofs.hash.Loops.{byte_more}
use Rattle.std.proofs.lemmas.Grind.{fold-append}
use Rattle.table_hash.specs.declared.byte_hasher.ByteHasher.{ByteHasher}
use Rattle.table_hash.specs.Hashing.{fed, fed_all, fed_number}
use Rattle.table_hash.proofs.byte_hasher.ByteHasherHasher.write.Goals as goal

pub loop-at-preserved : goal.loop-at-preserved
loop-at-preserved c =
    let s = c.args.self.now in
    let bs = c.args.bytes.now in
    let i = c.loop-at.at in (
      omega arith,
      c.write_eight.ensures ∙ ap (λ x. fed_number 8 x c.number_at.result) c.loop-at.invariant.1 ∙ ap (fed_all (fed_all s (take i bs))) c.number_at.ensures
          ∙ sym (fold-append fed s (take i bs) (take 8 (drop i bs))) ∙ ap (fed_all s) (sym (take-add i 8 bs)),
    )

pub loop-i-init : goal.loop-i-init
loop-i-init c = c.loop-at.invariant

pub loop-i-preserved : goal.loop-i-preserved
loop-i-preserved c =
    let bs = c.args.bytes.now in
    let i = c.loop-i.i in
    (omega arith, c.write_byte.ensures ∙ ap (λ (x : ByteHasher). fed x (get_or bs i 0)) c.loop-i.invariant.1 ∙ sym (byte_more fed c.args.self.now bs i (omega arith)))

pub returns : goal.returns
returns c = c.loop-i.invariant.1 ∙ ap (fed_all c.args.self.now) (take_all c.loop-i.i c.args.bytes.now (omega arith))
