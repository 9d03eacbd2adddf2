use Rattle.std.proofs.Common.{◌≡◌, ◌∙◌, ◌||◌, ℕ, Bool, List, false, length, get_or, ap, arith}
use Rattle.std.proofs.Math.ListN.{replicate}
use Rattle.std.proofs.lemmas.List.{length-replicate}
use Rattle.psdl_members.specs.inner.Heirs.{clashes_by_descent}
use Rattle.psdl_members.proofs.Telling.{clashes_are}
use Rattle.psdl_members.proofs.clashes.clashes_of.Goals as goal

pub returns : goal.returns
returns c =
    let graph : List (List ℕ) = c.args.graph.now in
    let lists = c.args.lists.now in
    let count : ℕ = c.count_in_order.result in
    let none : c.in_ok-flags.flags.items ≡ replicate count false = c.in_ok-flags.ensures.items_if_clones_equal (λ y e. e) in
    let long : length c.in_ok-flags.flags.items ≡ count = ap (λ (l : List Bool). length l) none ∙ length-replicate count false in
    let first : length c.note_clashes.new.flags.items ≡ count = c.note_clashes.ensures.sized ∙ long in
    clashes_are graph lists count c.note_clashes.new.flags.items c.note_clashes-2.new.flags.items (c.note_clashes-2.ensures.sized ∙ first)
    (λ n lt. c.in_ok-note_clashes.ensures.clashes n (omega (arith, lt, long)) ∙ ap (λ (l : List Bool). get_or l n false || clashes_by_descent graph lists.keys n) none)
    (λ n lt. c.in_ok-note_clashes-2.ensures.clashes n (omega (arith, lt, first)))
