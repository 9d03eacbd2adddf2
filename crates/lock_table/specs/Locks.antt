-- Which locks owners hold, who holds up whom, and what granting and releasing leave.
use Rattle.std.specs.Prelude.{ℕ, suc, zero, ◌==◌, ◌≡◌, ◌⊎◌, List, map, find, Option, not, ◌&&◌, sum, if◌then◌else◌, refl}
use Rattle.std.proofs.Common.{inl, inr}
use Rattle.std.specs.Option.{option_map, unwrap_or}
use Rattle.std.specs.Ordering.{nat_cmp}
use Rattle.std.specs.Coded.{Coded, code_by, coded×, coded⊎, coded_ℕ, coded_list}
use Rattle.std.specs.FinMap as map
use Rattle.std.specs.FinSet as set
use Rattle.pss_base.specs.declared.owner.OwnerNo.{OwnerNo}
use Rattle.pss_machine.specs.declared.lock.Resource.{Resource}
use Rattle.pss_machine.specs.declared.lock.Resource.TheVariants as resource
use Rattle.pss_machine.specs.declared.lock.Mode.{Mode}
use Rattle.pss_machine.specs.declared.lock.Mode.TheVariants.{S as Read, M as Many, X as Write}
use Rattle.pss_machine.specs.declared.lock.Need.{Need}
use Rattle.pss_machine.specs.Needs.{Locks, hold_up}

-- the locks of each owner that has any
abbrev pub Held : Type 0
Held = map.FinMap nat_cmp Locks

-- the locks of one owner
abbrev pub held_by : Held → OwnerNo → Locks
held_by held owner = unwrap_or (map.get held owner.0) set.empty

-- these are the locks of an owner, and all others have theirs
abbrev pub with_locks : Held → OwnerNo → Locks → Held
with_locks held owner locks = if set.len locks == 0 then map.remove held owner.0 else map.insert held owner.0 locks

-- an owner has what it needs beside what it had
abbrev pub granted : Held → OwnerNo → List Need → Held
granted held owner needs = with_locks held owner (set.union (held_by held owner) (set.from_list needs))

-- an owner has no lock
abbrev pub released : Held → OwnerNo → Held
released held owner = map.remove held owner.0

-- the least other owner with a lock that clashes with what is needed
abbrev pub blocker : Held → OwnerNo → List Need → Option OwnerNo
blocker held owner needs = option_map (λ e. record { 0 = e.0 }) (find (λ e. not (e.0 == owner.0) && hold_up e.1 needs) (map.entries held))

-- the number of locks of all owners
abbrev pub lock_count : Held → ℕ
lock_count held = sum (map (λ e. set.len e.1) (map.entries held))

-- ---- how they are stored

abbrev pub mode_number : Mode → ℕ
mode_number Read = 0
mode_number Many = 1
mode_number Write = 2

abbrev pub mode_numbered : ℕ → Mode
mode_numbered zero = Read
mode_numbered (suc zero) = Many
mode_numbered (suc (suc n)) = Write

pub mode_again : (mode : Mode) → mode_numbered (mode_number mode) ≡ mode
mode_again Read = refl
mode_again Many = refl
mode_again Write = refl

abbrev pub parts : Resource → ℕ ⊎ (ℕ × List ℕ) ⊎ ℕ
parts (resource.Object serial) = inl serial
parts (resource.Key k bytes) = inr (inl (k, bytes))
parts (resource.Extent h) = inr (inr h)

abbrev pub of_parts : ℕ ⊎ (ℕ × List ℕ) ⊎ ℕ → Resource
of_parts (inl serial) = resource.Object serial
of_parts (inr (inl key)) = resource.Key key.0 key.1
of_parts (inr (inr h)) = resource.Extent h

pub resource_again : (r : Resource) → of_parts (parts r) ≡ r
resource_again (resource.Object serial) = refl
resource_again (resource.Key k bytes) = refl
resource_again (resource.Extent h) = refl

-- a mode is stored as a number
abbrev pub mode_code : Coded Mode
mode_code = code_by ℕ coded_ℕ mode_number mode_numbered mode_again

-- a resource is stored as its parts
abbrev pub resource_code : Coded Resource
resource_code = code_by (ℕ ⊎ (ℕ × List ℕ) ⊎ ℕ) (coded⊎ coded_ℕ (coded⊎ (coded× coded_ℕ (coded_list coded_ℕ)) coded_ℕ)) parts of_parts resource_again

-- a need is stored as the pair of its parts
abbrev pub need_code : Coded Need
need_code = code_by (Resource × Mode) (coded× resource_code mode_code) (λ n. (n.resource, n.mode)) (λ p. record { resource = p.0; mode = p.1 }) (λ _. refl)

-- what is held is stored as a map of sets
abbrev pub held_code : Coded Held
held_code = map.code coded_ℕ (set.code need_code)
