-- Changes of objects by serial.
use Rattle.std.specs.Prelude.{ℕ, List, [], ◌∷◌, Option, map}
use Rattle.std.specs.Ordering.{nat_cmp}
use Rattle.std.specs.FinMap.{FinMap, insert, entries}
use Rattle.pss_catalog.specs.Catalog.{Object}
use Rattle.pss_catalog.specs.Changes.{Change}

-- by serial, the state that an object was changed to last, or its removal
abbrev pub Changes : Type 0
Changes = FinMap nat_cmp (Option Object)

-- changes with further ones, each in the place of an earlier one of its serial
abbrev pub with_changes : Changes → List Change → Changes
with_changes changes [] = changes
with_changes changes (c ∷ cs) = with_changes (insert changes c.serial c.state) cs

abbrev pub change_of : ℕ × Option Object → Change
change_of e = record { serial = e.0; state = e.1 }

-- the changes by serial
abbrev pub listed : Changes → List Change
listed changes = map change_of (entries changes)
