use Rattle.std.proofs.Common.{◌∙◌, ◌≡◌, ℕ, List, sym, ap, arith, rules}
use Rattle.std.proofs.lemmas.Bool.{eq-eqb}
use Rattle.type_layout.specs.declared.home.HomeNo.{HomeNo}
use Rattle.psdl_check.specs.declared.referents.HomesOf.{HomesOf}
use Rattle.psdl_check.specs.inner.Lists.{lists_in, homes_in}
use Rattle.psdl_check.proofs.Held.{found, found_nowhere, none_of_all}
use Rattle.psdl_check.proofs.referents.Referents.of.Goals as goal

pub returns-then-list-definition : goal.returns-then-list-definition
returns-then-list-definition c =
    let lists : List HomesOf = c.deref-list-items.result.now in
    let there : homes_in (lists_in lists) c.args.definition ≡ c.list-item.result.homes.items =
    (found lists c.loop-list.list-index c.args.definition c.list-item.result (record { within = omega (arith, c.loop-list-test.true); is = search rules; none = c.loop-list.invariant; here = eq-eqb _ c.args.definition c.if-list-definition.true })).1 in
    c.as_slice.ensures.value ∙ sym there ∙ ap (λ (ls : List HomesOf). homes_in (lists_in ls) c.args.definition) c.deref-list-items.ensures.value ∙ ap (λ (v : List (ℕ × List HomeNo)). homes_in v c.args.definition) c.self.view_is

pub returns : goal.returns
returns c =
    let lists : List HomesOf = c.deref-list-items.result.now in
    sym (found_nowhere lists c.args.definition (none_of_all lists c.loop-list.list-index c.args.definition (omega (arith, c.loop-list-test.false)) c.loop-list.invariant))
    ∙ ap (λ (ls : List HomesOf). homes_in (lists_in ls) c.args.definition) c.deref-list-items.ensures.value
    ∙ ap (λ (v : List (ℕ × List HomeNo)). homes_in v c.args.definition) c.self.view_is
