use Rattle.std.proofs.Common.{◌≡◌, ℕ, ◌+◌, ◌<◌, ap, sym, ◌∙◌, add-zero, get_or, take, drop, length, arith}
use Rattle.std.proofs.lemmas.Grind.{common_steps}
use Rattle.std.proofs.lemmas.List.{get_or-take, get_or-drop}
use Rattle.std.proofs.lemmas.Nat.{le_bytes_8}
use Rattle.std.specs.Hash.{le_bytes}
use Rattle.table_hash.proofs.byte_hasher.number_at.Goals as goal

pub returns : goal.returns
unfolding le_bytes
returns c =
    let at = c.args.at in
    let bs = c.args.bytes.now in
    let next = take 8 (drop at bs) in
    let byte : (j : ℕ) → j < 8 → get_or next j 0 ≡ get_or bs (at + j) 0 = λ j p. get_or-take 8 (drop at bs) j 0 p ∙ get_or-drop at bs j 0 in
    let first : get_or next 0 0 ≡ get_or bs at 0 = byte 0 (omega arith) ∙ ap (λ k. get_or bs k 0) (add-zero at) in
    let lengths : length next ≡ 8 = grind (arith, common_steps) in
    let small : (j : ℕ) → get_or next j 0 < 256 = λ j. let b = (c.type_inv.bytes (at + j)).fits in grind (arith, common_steps) in
    le_bytes_8 next c.from_le_bytes.result lengths small
    (c.from_le_bytes.ensures ∙ sym (rw (first, byte 1 (omega arith), byte 2 (omega arith), byte 3 (omega arith), byte 4 (omega arith), byte 5 (omega arith), byte 6 (omega arith), byte 7 (omega arith))))
