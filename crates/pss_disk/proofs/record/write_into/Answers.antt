use Rattle.std.proofs.Common.{◌≡◌, ◌≢◌, ◌++◌, ◌+◌, ℕ, List, length, take, drop, ap, ◌∙◌, arith}
use Rattle.std.proofs.lemmas.Grind.{common_steps}
use Rattle.std.proofs.lemmas.List.{take_at}
use Rattle.pss_disk.proofs.Filling.{copied_is_write}
use Rattle.pss_disk.proofs.record.write_into.Goals as goal

pub returns-clause-ok : goal.returns-clause-ok
returns-clause-ok c =
    let bytes = c.args.bytes.now in
    let some : length bytes ≢ 0 = grind (arith, common_steps) in
    let long = c.lengthen.new.octets.items in
    let len : length c.put.new.octets ≡ c.lengthen.new.octets.len = omega (arith, c.put.auto.octets, c.deref_mut.ensures.len) in
    take_at c.put.new.octets _ _ len ∙ c.put.ensures
    ∙ ap (λ (l : List ℕ). take c.args.at l ++ bytes ++ drop (c.args.at + length bytes) l) c.deref_mut.ensures.value
    ∙ copied_is_write c.args.at bytes c.args.content.now.items long some c.in_ok-lengthen.ensures.ok
