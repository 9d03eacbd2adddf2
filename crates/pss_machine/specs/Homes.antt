-- Storage homes in families, their extents, and what is found of a home by number.
use Rattle.std.specs.Prelude.{ℕ, ◌+◌, List, [], ◌∷◌, filter, Option, Bool, true, false, ◌&&◌}
use Rattle.std.specs.List.{list_any, slice_get}
use Rattle.pss_base.specs.declared.pid.Pid.{Pid}
use Rattle.type_layout.specs.declared.home.HomeNo.{HomeNo}
use Rattle.type_layout.specs.declared.schema.Home.{Home}
use Rattle.type_layout.specs.declared.schema.Schema.{Schema}
use Rattle.type_layout.specs.Types.{PlainMember}
use Rattle.type_layout.specs.Schemas.{given, base_of, members_at, descends}
use Rattle.pss_catalog.specs.Catalog.{Catalog, pids_where}

-- as many numbers as homes, from the first one on
abbrev pub numbers_from : ℕ → List Home → List HomeNo
numbers_from n [] = []
numbers_from n (home ∷ homes) = record { 0 = n } ∷ numbers_from (n + 1) homes

-- the homes of a schema, which are numbered from 1
abbrev pub all_homes : Schema → List HomeNo
all_homes S = numbers_from 1 S.homes

-- a home and those derived from it
abbrev pub below : Schema → HomeNo → List HomeNo
below S h = filter (λ g. descends S g h) (all_homes S)

abbrev pub is_root : Schema → HomeNo → Bool
is_root S h = given (base_of S h) true (λ base. false)

-- A family is a home without base and all that derive from it: both homes are in one.
abbrev pub in_one_family : Schema → HomeNo → HomeNo → Bool
in_one_family S g h = list_any (λ root. is_root S root && (descends S g root && descends S h root)) (all_homes S)

-- the objects of a home and of those derived from it, by serial
abbrev pub extent : Schema → Catalog → HomeNo → List Pid
extent S M h = pids_where (λ object. descends S object.home h) M

abbrev pub home_of : Pid → HomeNo
home_of pid = record { 0 = pid.home }

-- the member of a home with this number
abbrev pub member_at : Schema → HomeNo → ℕ → Option PlainMember
member_at S h i = slice_get (members_at S h) i
