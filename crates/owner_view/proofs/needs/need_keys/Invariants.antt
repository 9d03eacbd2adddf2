use Rattle.std.proofs.Common.{◌≡◌, ◌++◌, take}
use Rattle.owner_view.specs.Keyed.{key_needs}
use Rattle.owner_view.proofs.needs.need_keys.Given as goal

abbrev pub invariant-loop-key : goal.invariant-loop-key
invariant-loop-key l = l.needs ≡ l.fn.needs ++ key_needs (take l.key-index l.pairs)
