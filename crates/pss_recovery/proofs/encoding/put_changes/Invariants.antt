use Rattle.std.proofs.Common.{◌≡◌, ◌++◌, take}
use Rattle.std.specs.List.{AllByRecursion, flat_map}
use Rattle.pss_recovery.specs.Bodies.{IsSpellable, change_octets}
use Rattle.pss_recovery.proofs.encoding.put_changes.Given as goal

abbrev pub invariant-loop-put : goal.invariant-loop-put
invariant-loop-put l = (l.octets ≡ l.fn.octets ++ flat_map change_octets (take l.put-index l.puts)) × AllByRecursion IsSpellable (take l.put-index l.puts)
