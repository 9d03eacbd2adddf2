use Rattle.std.proofs.Common.{◌∙◌, ◌≡◌, ℕ, List, true, sym, ap, arith, rules}
use Rattle.std.proofs.lemmas.Bool.{eq-eqb}
use Rattle.type_layout.specs.declared.home.HomeNo.{HomeNo}
use Rattle.psdl_check.specs.declared.referents.HomesOf.{HomesOf}
use Rattle.psdl_check.specs.inner.Lists.{lists_in, is_held}
use Rattle.psdl_check.proofs.Held.{found, held_of, none_of_all}
use Rattle.psdl_check.proofs.referents.Referents.holds.Goals as goal

pub returns-then-list-definition : goal.returns-then-list-definition
returns-then-list-definition c =
    let lists : List HomesOf = c.deref-list-items.result.now in
    let there : is_held (lists_in lists) c.args.definition ≡ true =
    (found lists c.loop-list.list-index c.args.definition c.list-item.result (record { within = omega (arith, c.loop-list-test.true); is = search rules; none = c.loop-list.invariant; here = eq-eqb _ c.args.definition c.if-list-definition.true })).0 in
    sym there ∙ ap (λ (ls : List HomesOf). is_held (lists_in ls) c.args.definition) c.deref-list-items.ensures.value ∙ ap (λ (v : List (ℕ × List HomeNo)). is_held v c.args.definition) c.self.view_is

pub returns : goal.returns
returns c =
    let lists : List HomesOf = c.deref-list-items.result.now in
    sym (held_of lists c.args.definition ∙ none_of_all lists c.loop-list.list-index c.args.definition (omega (arith, c.loop-list-test.false)) c.loop-list.invariant)
    ∙ ap (λ (ls : List HomesOf). is_held (lists_in ls) c.args.definition) c.deref-list-items.ensures.value
    ∙ ap (λ (v : List (ℕ × List HomeNo)). is_held v c.args.definition) c.self.view_is
