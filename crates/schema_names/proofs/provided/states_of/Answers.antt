use Rattle.std.proofs.Common.{arith}
use Rattle.schema_names.proofs.Hashing.{next_state}
use Rattle.schema_names.proofs.provided.states_of.Goals as goal

pub loop-index-preserved : goal.loop-index-preserved
loop-index-preserved c =
    (omega (arith, c.loop-index-test.true), next_state c.args.scopes.now c.loop-index.states.items c.push.new.self.items c.loop-index.index c.next_state-state.result (omega (arith, c.loop-index-test.true)) c.loop-index.invariant.1 c.next_state-state.ensures c.in_ok-push.ensures.items)
