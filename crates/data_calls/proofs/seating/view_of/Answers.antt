use Rattle.std.proofs.Common.{sym, ap, ◌∙◌}
use Rattle.pss_machine.specs.Owners.{has_changed}
use Rattle.data_calls.proofs.Seats.{view_changed, view_kept, view_committed}
use Rattle.data_calls.proofs.seating.view_of.Goals as goal

pub returns-then-changed : goal.returns-then-changed
returns-then-changed c S k is pid are same = view_changed k c.args.acting is pid (ap (has_changed is.owner) same ∙ sym (c.changed.ensures S k is.owner are is.owner_there) ∙ c.if-changed.true)

pub returns-then-acting : goal.returns-then-acting
returns-then-acting c S k is pid are same = view_kept k c.args.acting is pid (ap (has_changed is.owner) same ∙ sym (c.changed.ensures S k is.owner are is.owner_there) ∙ c.if-changed.false) c.if-acting.true

pub returns-else-acting : goal.returns-else-acting
returns-else-acting c S k is pid are same = view_committed k c.args.acting is pid (ap (has_changed is.owner) same ∙ sym (c.changed.ensures S k is.owner are is.owner_there) ∙ c.if-changed.false) c.if-acting.false
