use Rattle.std.proofs.Common.{◌≡◌, ◌≢◌, ◌++◌, ◌+◌, ℕ, List, length, take, drop, replicate, ap, ◌∙◌, arith}
use Rattle.std.proofs.lemmas.Grind.{common_steps}
use Rattle.std.proofs.lemmas.List.{take_at}
use Rattle.pss_disk.proofs.Filling.{filled_range}
use Rattle.pss_disk.proofs.image.fill_range.Goals as goal

pub returns : goal.returns
returns c =
    let bytes = c.args.bytes.now in
    let n = length bytes in
    let some : length bytes ≢ 0 = grind (arith, common_steps) in
    let long = c.lengthen.new.octets.items in
    let len : length c.fill.new.octets ≡ c.lengthen.new.octets.len = omega (arith, c.fill.auto.octets, c.deref_mut.ensures.len) in
    filled_range c.args.at c.args.octet bytes c.args.image.now.items long _ some c.in_ok-lengthen.ensures.ok
    (take_at c.fill.new.octets _ _ len ∙ c.fill.ensures
    ∙ ap (λ (l : List ℕ). take c.args.at l ++ replicate n c.args.octet ++ drop (c.args.at + n) l) c.deref_mut.ensures.value)
