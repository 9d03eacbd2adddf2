-- Changes by rising serials, one behind the other.
use Rattle.std.proofs.Common.{ℕ, ◌+◌, ◌≤◌, List, [], ◌∷◌, ◌++◌}
use Rattle.storage_home.specs.declared.change.Change.{Change}
use Rattle.storage_home.specs.Changes.{Rises, least_next}

pub rises_on : (least : ℕ) (cs : List Change) (c : Change) → Rises least cs → least_next least cs ≤ c.put.serial → Rises least (cs ++ c ∷ [])
rises_on least [] c rise above = (above, tt)
rises_on least (d ∷ ds) c rise above = (rise.0, rises_on (d.put.serial + 1) ds c rise.1 above)
