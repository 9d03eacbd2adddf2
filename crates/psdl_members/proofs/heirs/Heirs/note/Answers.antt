use Rattle.std.proofs.Common.{◌≡◌, ◌∙◌, ℕ, List, length, ap, rules, arith}
use Rattle.std.proofs.Math.ListN.{replicate}
use Rattle.std.proofs.lemmas.List.{length-replicate}
use Rattle.psdl_members.specs.declared.seen.Seen.{Seen}
use Rattle.psdl_members.specs.inner.Seeing.{nothing}
use Rattle.psdl_members.proofs.heirs.Heirs.note.Goals as goal

pub tell_with-requires-clause-seen : goal.tell_with-requires-clause-seen
tell_with-requires-clause-seen c =
    let count : ℕ = c.len.result in
    let many : count ≡ length c.args.self.now.heirs.items = omega (arith, c.len.ensures, c.args.self.now.heirs.ok.0) in
    let is : c.in_ok-seen.seen.items ≡ replicate count nothing = rw c.nothing.ensures at (c.in_ok-seen.ensures.items_if_clones_equal (λ y e. search rules)) in
    ap (λ (l : List Seen). length l) is ∙ length-replicate count nothing ∙ many
