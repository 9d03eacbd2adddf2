use Rattle.std.proofs.Common.{ℕ, List, subst, rules}
use Rattle.std.specs.List.Sorted.{IsPermutation}
use Rattle.std.proofs.lemmas.List.Sorted.{answers_always, IsNonDecreasingBy-from_sort}
use Rattle.type_layout.specs.declared.home.HomeNo.{HomeNo}
use Rattle.owner_view.proofs.Belows.{heirs_below}
use Rattle.owner_view.proofs.below.homes_below.Goals as goal

pub returns : goal.returns
returns c S sound bases =
    let number : HomeNo → ℕ = λ home. home.0 in
    let homes = c.sort_unstable_by_key.new.self.items in
    let numbers = answers_always _ _ _ (λ f a r next called. search rules) in
    heirs_below S sound c.args.home c.heirs.result.now (c.heirs.ensures S sound bases) homes
    (subst (λ (hs : List HomeNo). IsPermutation hs homes) c.in_ok-homes.ensures.items c.sort_unstable_by_key.ensures.permutation)
    (IsNonDecreasingBy-from_sort number homes (c.sort_unstable_by_key.ensures.sorted number numbers))
