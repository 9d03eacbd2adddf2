use Rattle.std.proofs.Common.{◌<◌, ◌-◌, arith}
use Rattle.incarnations.specs.Records.{with_attached}
use Rattle.incarnations.proofs.Keys.{session_key, same_session, session_ties}
use Rattle.recent_table.proofs.Hashed.{some, holds_at, there, never, written}
use Rattle.incarnations.proofs.tables.sessions.SessionTable.count_down.Goals as goal

pub overflow_sub-record : goal.overflow_sub-record
overflow_sub-record c = omega (arith, holds_at session_key same_session session_ties c.self.inside.table _ c.self.view_is c.args.session (λ r. 0 < r.attached) c.requires c.in-Some.record.now c.in-Some.ensures.value)

pub unreachable-requires : goal.unreachable-requires
unreachable-requires c =
    never session_key same_session session_ties c.self.inside.table _ c.self.view_is c.args.session
    (some session_key same_session session_ties c.self.inside.table _ c.self.view_is c.args.session (λ r. 0 < r.attached) c.requires) c.in-None.ensures.value

pub returns : goal.returns
returns c =
    written session_key same_session session_ties c.self.inside.table _ c.self.view_is c.args.session _ (λ r. with_attached (r.attached - 1) r) c.in-Some.record.now c.in-Some.ensures.value
    (c.get_mut.follows.holds (with_attached (c.in-Some.record.now.attached - 1) c.in-Some.record.now) (there session_key same_session session_ties c.self.inside.table _ c.self.view_is c.args.session (some session_key same_session session_ties c.self.inside.table _ c.self.view_is c.args.session (λ r. 0 < r.attached) c.requires)))
