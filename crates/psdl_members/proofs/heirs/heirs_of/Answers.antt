use Rattle.std.proofs.Common.{◌≡◌, ◌∙◌, ◌<◌, ◌||◌, ℕ, Bool, List, false, length-set, get_or, ap, arith}
use Rattle.std.specs.List.{list_any}
use Rattle.std.proofs.lemmas.List.{length-replicate}
use Rattle.psdl_lineage.specs.Graph.{ancestry_in, parents_in}
use Rattle.psdl_members.specs.inner.Heirs.{has_row}
use Rattle.psdl_members.proofs.Telling.{place_more, heir_is}
use Rattle.psdl_members.proofs.heirs.heirs_of.Goals as goal

pub loop-number-init : goal.loop-number-init
loop-number-init c = record { sized = search (arith, length-replicate); told = λ n never. absurd (omega (arith, never)) }

pub is_heir-heir-requires : goal.is_heir-heir-requires
is_heir-heir-requires c = omega (arith, c.requires.within, c.loop-number-test.true)

pub loop-number-preserved : goal.loop-number-preserved
loop-number-preserved c =
    let graph : List (List ℕ) = c.args.graph.now in
    let rows = c.args.rows.now in
    let heirs : List Bool = c.loop-number.heirs.items in
    let i : ℕ = c.loop-number.number in
    let lt : i < c.args.count = omega (arith, c.loop-number-test.true) in
    record {
      sized = length-set heirs i c.is_heir-heir.result ∙ c.loop-number.invariant.sized;
      told =
          place_more (λ (n : ℕ) (b : Bool). b ≡ list_any (has_row rows) (ancestry_in graph n)) heirs i c.is_heir-heir.result false (omega (arith, lt, c.loop-number.invariant.sized)) c.loop-number.invariant.told
          (c.is_heir-heir.ensures
          ∙ ap (λ (l : List Bool). has_row rows i || list_any (λ p. get_or l p false) (parents_in graph i)) c.deref.ensures.value
          ∙ heir_is graph rows heirs c.args.count i c.requires lt c.loop-number.invariant.told);
    }

pub returns-clause-sized : goal.returns-clause-sized
returns-clause-sized c = c.loop-number.invariant.sized

pub returns-clause-heirs : goal.returns-clause-heirs
returns-clause-heirs c n lt = c.loop-number.invariant.told n (omega (arith, lt, c.loop-number.invariant.sized, c.loop-number-test.false))
