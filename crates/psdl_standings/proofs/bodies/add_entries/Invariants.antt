use Rattle.std.proofs.Common.{◌≡◌, ◌++◌, ◌∷◌, map, take}
use Rattle.psdl_standings.proofs.bodies.add_entries.Given as goal

abbrev pub invariant-loop-name : goal.invariant-loop-name
invariant-loop-name l = l.kept.items ≡ l.fn.kept.items ++ l.entry ∷ map (λ i. l.entry) (take l._name-index l.names.others.items)
