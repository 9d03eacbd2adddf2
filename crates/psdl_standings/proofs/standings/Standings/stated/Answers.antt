use Rattle.std.proofs.Common.{rules}
use Rattle.psdl_standings.specs.Texts.{text_of, types_in}
use Rattle.psdl_standings.proofs.BodyStates.{one_flag_more, has_some}
use Rattle.psdl_standings.proofs.standings.Standings.stated.Goals as goal

pub loop-index-preserved : goal.loop-index-preserved
loop-index-preserved c =
    let all = text_of c.args.self.now in
    one_flag_more all c.loop-index.index c.loop-index.flags.items c.push.new.self.items _ c.loop-index.invariant c.in_ok-push.ensures.items
    (has_some all (types_in c.args.self.now) c.loop-index.index c.states.result.now c.is_empty-has_states.result _ (λ homes. rw c.new.ensures at c.states.ensures.are homes) (search rules) (search rules))
