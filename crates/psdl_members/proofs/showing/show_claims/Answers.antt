use Rattle.std.proofs.Common.{◌∙◌, ◌||◌, ℕ, List, take, refl, arith}
use Rattle.psdl_members.specs.declared.claims.Claim.{Claim}
use Rattle.psdl_members.specs.inner.Claims.{has_claim}
use Rattle.psdl_members.proofs.Shown.{no_claims_shown, claim_shown, claims_shown}
use Rattle.psdl_members.proofs.showing.show_claims.Goals as goal

pub loop-claim-init : goal.loop-claim-init
loop-claim-init c = record { sized = refl; seen = λ es some group are. no_claims_shown c.args.seen.now.items es some c.args.claims.now are }

pub loop-claim-preserved : goal.loop-claim-preserved
loop-claim-preserved c =
    let cs : List Claim = c.args.claims.now in
    let i : ℕ = c.loop-claim.claim-index in
    record {
      sized = c.add_seen.ensures.sized ∙ c.loop-claim.invariant.sized;
      seen = λ es some group are.
          claim_shown c.add_seen.new.seen.items es some cs i _ c.loop-claim-test.true
          (c.add_seen.ensures.seen es (λ n test. some n test || has_claim (take i cs) n test) _ (c.loop-claim.invariant.seen es some group are) (c.seen.ensures es group));
    }

pub returns-clause-sized : goal.returns-clause-sized
returns-clause-sized c = c.loop-claim.invariant.sized

pub returns-clause-seen : goal.returns-clause-seen
returns-clause-seen c es some group are = claims_shown c.loop-claim.seen.items es some c.args.claims.now c.loop-claim.claim-index (omega (arith, c.loop-claim-test.false)) (c.loop-claim.invariant.seen es some group are)
