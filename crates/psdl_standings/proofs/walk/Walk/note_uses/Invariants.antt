use Rattle.std.proofs.Common.{◌≡◌, take}
use Rattle.std.specs.List.{flat_map}
use Rattle.psdl_standings.specs.inner.Walked.{with_names, use_faults, Goes}
use Rattle.psdl_standings.proofs.walk.Walk.note_uses.Given as goal

abbrev pub invariant-loop-used : goal.invariant-loop-used
invariant-loop-used l =
    record {
      goes : Goes l.fn.self l.self;
      noted : l.self.faults ≡ with_names l.fn.self.faults (flat_map (use_faults l.fn.self l.need) (take l.used-index l.uses));
    }
