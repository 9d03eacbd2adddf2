use Rattle.std.proofs.Common.{◌∙◌, ℕ, List, take, refl, arith}
use Rattle.psdl_members.specs.inner.Rowed.{row_of}
use Rattle.psdl_members.proofs.Shown.{has_of, no_names_shown, name_shown, names_shown}
use Rattle.psdl_members.proofs.showing.show_names.Goals as goal

pub loop-name-init : goal.loop-name-init
loop-name-init c = record { sized = refl; seen = λ rows es claims group are. no_names_shown c.args.seen.now.items es rows c.args.names.now are }

pub loop-name-preserved : goal.loop-name-preserved
loop-name-preserved c =
    let ns : List ℕ = c.args.names.now in
    let i : ℕ = c.loop-name.name-index in
    record {
      sized = c.show_claims.ensures.sized ∙ c.loop-name.invariant.sized;
      seen = λ rows es claims group are.
          name_shown c.show_claims.new.seen.items es rows c.args.claims.now ns i c.loop-name-test.true claims
          ((rw c.claims_to.ensures at c.show_claims.ensures.seen) es (λ n test. has_of (take i ns) test (row_of rows n)) group (c.loop-name.invariant.seen rows es claims group are));
    }

pub returns-clause-sized : goal.returns-clause-sized
returns-clause-sized c = c.loop-name.invariant.sized

pub returns-clause-seen : goal.returns-clause-seen
returns-clause-seen c rows es claims group are = names_shown c.loop-name.seen.items es rows c.args.names.now c.loop-name.name-index (omega (arith, c.loop-name-test.false)) (c.loop-name.invariant.seen rows es claims group are)
