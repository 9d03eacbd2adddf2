use Rattle.std.proofs.Common.{◌≡◌, map, take}
use Rattle.commit_saving.specs.Saving.{put_of}
use Rattle.commit_saving.proofs.saving.body_of.Given as goal

abbrev pub invariant-loop-change : goal.invariant-loop-change
invariant-loop-change l = l.puts.items ≡ map put_of (take l.change-index l.changes)
