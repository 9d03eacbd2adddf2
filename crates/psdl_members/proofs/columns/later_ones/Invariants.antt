use Rattle.std.proofs.Common.{◌≡◌, take, filter}
use Rattle.psdl_members.specs.inner.Contested.{is_later}
use Rattle.psdl_members.proofs.columns.later_ones.Given as goal

abbrev pub invariant-loop-entry : goal.invariant-loop-entry
invariant-loop-entry l = l.kept.items ≡ filter (is_later l.lists) (take l.entry-index l.entries)
