-- Who holds up what is needed, owner by owner.
use Rattle.std.specs.Prelude.{◌≡◌, ◌≤◌, List, Option, Some, None, true}
use Rattle.std.specs.List.{list_any}
use Rattle.std.specs.FinSet as set
use Rattle.pss_base.specs.declared.owner.OwnerNo.{OwnerNo}
use Rattle.pss_machine.specs.declared.lock.Need.{Need}
use Rattle.pss_machine.specs.Needs.{clash}
use Rattle.lock_table.specs.Locks.{Held, held_by, blocker}

-- an owner has a lock that clashes with one of the needs
abbrev pub HoldsUp : Held → List Need → OwnerNo → Type 0
HoldsUp held needs n = (x : Need) × (set.contains (held_by held n) x ≡ true) × (list_any (clash x) needs ≡ true)

-- nobody but the owner itself, or else the least of those who do
pub record IsLeastBlocker (held : Held) (owner : OwnerNo) (needs : List Need) (o : Option OwnerNo) : Type 0 where
  pub none : o ≡ None → (n : OwnerNo) → (n ≡ owner → ⊥) → HoldsUp held needs n → ⊥
  pub some : (b : OwnerNo) → o ≡ Some b → (b ≡ owner → ⊥) × HoldsUp held needs b
  pub least : (b n : OwnerNo) → o ≡ Some b → (n ≡ owner → ⊥) → HoldsUp held needs n → b.0 ≤ n.0

-- so of each blocker
abbrev pub BlockersAreLeast : Type 0
BlockersAreLeast = (held : Held) (owner : OwnerNo) (needs : List Need) → IsLeastBlocker held owner needs (blocker held owner needs)
