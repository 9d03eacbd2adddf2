use Rattle.std.proofs.Common.{◌≡◌, ◌++◌, take, filter}
use Rattle.psdl_members.specs.inner.Contested.{is_contested}
use Rattle.psdl_members.proofs.contested.add_contested.Given as goal

abbrev pub invariant-loop-entry : goal.invariant-loop-entry
invariant-loop-entry l = l.kept.items ≡ l.fn.kept.items ++ filter (is_contested l.lists) (take l.entry-index l.entries)
