use Rattle.std.proofs.Common.{◌≡◌, ℕ, ◌<◌, sym, ◌∙◌, get_or, take, length, arith}
use Rattle.std.proofs.lemmas.Grind.{common_steps}
use Rattle.std.proofs.lemmas.List.{get_or-take}
use Rattle.std.proofs.lemmas.Nat.{le_bytes_4}
use Rattle.script_text.proofs.command.front_of.Goals as goal

pub returns : goal.returns
returns c =
    let bs = c.args.line.now in
    let next = take 4 bs in
    let byte : (j : ℕ) → j < 4 → get_or next j 0 ≡ get_or bs j 0 = λ j p. get_or-take 4 bs j 0 p in
    let lengths : length next ≡ 4 = grind (arith, common_steps) in
    let small : (j : ℕ) → get_or next j 0 < 256 = λ j. let b = (c.type_inv.line j).fits in grind (arith, common_steps) in
    le_bytes_4 next c.from_le_bytes.result lengths small
    (c.from_le_bytes.ensures ∙ sym (rw (byte 0 (omega arith), byte 1 (omega arith), byte 2 (omega arith), byte 3 (omega arith))))
