use Rattle.std.proofs.Common.{◌≡◌, ◌∙◌, ℕ, List, Bool, true, false, find, get_or, refl, sym, ap, arith}
use Rattle.psdl_directory.specs.Declarations.{Declaration}
use Rattle.psdl_lineage.specs.Descent.{has, ancestry, conforms}
use Rattle.psdl_lineage.specs.Lineages.{asked_of}
use Rattle.psdl_check.specs.inner.KeyIds.{own_view}
use Rattle.psdl_check.proofs.Introduced.{first_is, found_next, none_next, all_none}
use Rattle.psdl_check.proofs.keys.Keys.first_in_line.Goals as goal

pub returns-then-derives-clause-first : goal.returns-then-derives-clause-first
returns-then-derives-clause-first c ids introduced numbered are =
    let all = asked_of c.args.conformity.now in
    let homes = c.args.self.now.homes.items in
    let numbers = c.numbers_of-number-items.result.now in
    let test : ℕ → Bool = λ n. has (ancestry all c.args.home) (get_or homes n 0) in
    let n : ℕ = get_or numbers c.loop-number.number-index 0 in
    let here : test n ≡ true =
    ap (has (ancestry all c.args.home)) (sym c.home_of.ensures) ∙ ap (λ (d : List Declaration). conforms d c.args.home c.home_of.result) (sym c.loop-number.invariant.same) ∙ sym c.in_ok-derives.ensures.conforms ∙ c.if-derives.true in
    found_next test numbers c.loop-number.number-index n 0 c.loop-number-test.true refl c.loop-number.invariant.none here
    ∙ ap (find test) c.numbers_of-number-items.ensures ∙ sym (first_is all ids introduced c.args.self.now c.args.home c.args.key.id (own_view c.args.key) numbered are)

pub loop-number-preserved : goal.loop-number-preserved
loop-number-preserved c =
    let all = asked_of c.args.conformity.now in
    let homes = c.args.self.now.homes.items in
    let numbers = c.numbers_of-number-items.result.now in
    let test : ℕ → Bool = λ n. has (ancestry all c.args.home) (get_or homes n 0) in
    let n : ℕ = get_or numbers c.loop-number.number-index 0 in
    let off : test n ≡ false =
    ap (has (ancestry all c.args.home)) (sym c.home_of.ensures) ∙ ap (λ (d : List Declaration). conforms d c.args.home c.home_of.result) (sym c.loop-number.invariant.same) ∙ sym c.in_ok-derives.ensures.conforms ∙ c.if-derives.false in
    record {
      same = c.conforms.ensures.same ∙ c.loop-number.invariant.same;
      none = none_next test numbers c.loop-number.number-index n 0 c.loop-number-test.true refl c.loop-number.invariant.none off;
    }

pub returns-clause-first : goal.returns-clause-first
returns-clause-first c ids introduced numbered are =
    let all = asked_of c.args.conformity.now in
    let homes = c.args.self.now.homes.items in
    let numbers = c.numbers_of-number-items.result.now in
    let test : ℕ → Bool = λ n. has (ancestry all c.args.home) (get_or homes n 0) in
    all_none test numbers c.loop-number.number-index (omega (arith, c.loop-number-test.false)) c.loop-number.invariant.none
    ∙ ap (find test) c.numbers_of-number-items.ensures ∙ sym (first_is all ids introduced c.args.self.now c.args.home c.args.key.id (own_view c.args.key) numbered are)
