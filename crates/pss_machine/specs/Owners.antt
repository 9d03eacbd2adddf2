-- Owners: what each has locked and changed, and how it sees the catalog.
use Rattle.std.specs.Prelude.{ℕ, List, filter, find, Option, Bool, true, false, not, ◌&&◌, ◌==◌}
use Rattle.std.specs.Option.{option_map}
use Rattle.std.specs.Ordering.{nat_cmp}
use Rattle.std.specs.FinMap.{FinMap, get, entries, contains_key}
use Rattle.std.specs.FinMap as map
use Rattle.std.specs.FinSet as set
use Rattle.pss_base.specs.declared.owner.OwnerNo.{OwnerNo}
use Rattle.type_layout.specs.declared.schema.Schema.{Schema}
use Rattle.pss_catalog.specs.Catalog.{Catalog}
use Rattle.pss_machine.specs.declared.lock.Need.{Need}
use Rattle.pss_machine.specs.declared.level.Level.{Level}
use Rattle.pss_machine.specs.declared.level.Level.TheVariants.{Serializable, ReadCommitted, Basic}
use Rattle.pss_machine.specs.Operations.{PlainOp, PlainAnswer}
use Rattle.pss_catalog.specs.Changes.{Change, over}
use Rattle.pss_machine.specs.Changes.{Changes, with_changes, listed}
use Rattle.pss_machine.specs.Same.{same_state}
use Rattle.pss_machine.specs.Alone.{alone}
use Rattle.pss_machine.specs.Needs.{Locks, needs, hold_up}

pub record Owner : Type 0 where
  pub level : Level
  pub locks : Locks
  pub changes : Changes

-- the owners by number
abbrev pub Owners : Type 0
Owners = FinMap nat_cmp Owner

-- an owner that has locked and changed nothing
abbrev pub new_owner : Level → Owner
new_owner level = record { level = level; locks = set.empty; changes = map.empty }

abbrev pub is_basic : Level → Bool
is_basic Basic = true
is_basic Serializable = false
is_basic ReadCommitted = false

-- the catalog as an owner sees it
abbrev pub view : Catalog → Owner → Catalog
view M owner = over M (listed owner.changes)

-- the owner has changed the object of a serial, maybe back to what it was
abbrev pub has_changed : Owner → ℕ → Bool
has_changed owner serial = contains_key owner.changes serial

-- the serials at which the owner's view differs from the catalog, with the states there
abbrev pub net : Catalog → Owner → List Change
net M owner = filter (λ c. not (same_state c.state (get M c.serial))) (listed owner.changes)

-- the least other owner with a lock that clashes with what is needed
abbrev pub blocker : Owners → OwnerNo → List Need → Option OwnerNo
blocker owners n wanted = option_map (λ e. record { 0 = e.0 }) (find (λ e. not (e.0 == n.0) && hold_up e.1.locks wanted) (entries owners))

-- what one operation of an owner came to
pub record Step : Type 0 where
  pub op : PlainOp
  pub answer : PlainAnswer
  pub needs : List Need
  pub own : List Change

-- the step of an operation on the owner's view
abbrev pub step_on_view : Schema → Catalog → Owner → PlainOp → Step
step_on_view S M owner op = record {
  op = op;
  answer = (alone S (view M owner) op).answer;
  needs = needs S owner.level (view M owner) op;
  own = (alone S (view M owner) op).changes;
}

-- an owner after a step: it has locked what it needed, and changed what it changed
abbrev pub stepped : Step → Owner → Owner
stepped step owner = record { level = owner.level; locks = set.union owner.locks (set.from_list step.needs); changes = with_changes owner.changes step.own }
