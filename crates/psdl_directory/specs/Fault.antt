-- Faults, and the least of them.
use Rattle.std.specs.Prelude.{ℕ, ◌+◌, List, [], ◌∷◌, ◌++◌, Option, Some, None, Bool, ◌&&◌, ◌||◌, ◌==◌, nat_lt, if◌then◌else◌}
use Rattle.std.specs.Ordering.{is_lt}
use Rattle.pss_base.specs.declared.place.Place.{Place}
use Rattle.psdl_directory.specs.declared.fault.CheckFault.{CheckFault}
use Rattle.psdl_directory.specs.declared.fault.CheckKind.{CheckKind}
use Rattle.psdl_directory.specs.contracts.fault.CheckKindOrd.TheImpl as declared_order
use Rattle.psdl_directory.specs.Declarations.{Declaration}

abbrev pub fault : CheckKind → Place → CheckFault
fault kind place = record { place = place; kind = kind }

-- a fault, where it holds
abbrev pub fault_if : Bool → CheckKind → Place → List CheckFault
fault_if holds kind place = if holds then fault kind place ∷ [] else []

-- kinds go in the order in which they are declared, which is that of their numbers
unfoldable pub is_before : CheckKind → CheckKind → Bool
is_before a b = is_lt ((declared_order.ghosts).cmp a b)

-- first by place, then by kind
abbrev pub is_after : CheckFault → CheckFault → Bool
is_after a b = nat_lt b.place.offset a.place.offset || ((b.place.offset == a.place.offset) && is_before b.kind a.kind)

abbrev pub lesser : Option CheckFault → Option CheckFault → Option CheckFault
lesser None b = b
lesser (Some a) None = Some a
lesser (Some a) (Some b) = if is_after a b then Some b else Some a

abbrev pub least : List CheckFault → Option CheckFault
least [] = None
least (f ∷ fs) = lesser (Some f) (least fs)

-- the faults at each declaration, by its number
abbrev pub each_from : (ℕ → Declaration → List CheckFault) → ℕ → List Declaration → List CheckFault
each_from condition n [] = []
each_from condition n (d ∷ ds) = condition n d ++ each_from condition (n + 1) ds

abbrev pub each : (ℕ → Declaration → List CheckFault) → List Declaration → List CheckFault
each condition all = each_from condition 0 all
