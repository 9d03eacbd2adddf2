use Rattle.std.proofs.Common.{ℕ, rules}
use Rattle.std.proofs.lemmas.List.Sorted.{answers_always, IsNonDecreasingBy-from_sort}
use Rattle.pss_base.specs.declared.put.Put.{Put}
use Rattle.page_format.proofs.Leaving.{climbs, same_objects}
use Rattle.page_format.proofs.settling.sort.Goals as goal

pub returns : goal.returns
returns c =
    let serial : Put → ℕ = λ put. put.serial in
    let keys = answers_always _ _ _ (λ f a r next called. search rules) in
    record {
      climbing = climbs _ (IsNonDecreasingBy-from_sort serial _ (c.in_ok-sort_by_key.ensures.sorted serial keys));
      moved = c.sort_by_key.ensures.permutation;
      same = same_objects _ _ (c.sort_by_key.ensures.stable serial keys);
    }
