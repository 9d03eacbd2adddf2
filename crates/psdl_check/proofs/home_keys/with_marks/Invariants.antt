use Rattle.std.proofs.Common.{◌≡◌, ◌++◌, map, drop}
use Rattle.psdl_check.specs.inner.HeldKeys.{held_by}
use Rattle.psdl_check.proofs.home_keys.with_marks.Given as goal

abbrev pub invariant-loop-key : goal.invariant-loop-key
invariant-loop-key l = l.held.items ++ map (held_by l.marks) (drop l.key-index l.keys) ≡ map (held_by l.marks) l.keys
