use Rattle.std.proofs.Common.{refl, subst, IsSome}
use Rattle.tx_session.specs.Kept.{IsCleared}
use Rattle.tx_session.proofs.Turns.{turned_by}
use Rattle.tx_session.proofs.table.clear.Goals as goal

pub returns-in-Some : goal.returns-in-Some
returns-in-Some c =
    turned_by IsCleared c.args.table.now _ c.args.owner.0 c.in-Some.owned.now c.clear.new.self c.in-Some.ensures.value (λ q. c.get_mut.follows.holds c.clear.new.self (subst IsSome c.in-Some.ensures.value refl) (record { 0 = q }))
    (record { level_is = c.clear.ensures.level; changes = c.clear.ensures.changes; counted = c.clear.ensures.counted; under = c.clear.ensures.under })
