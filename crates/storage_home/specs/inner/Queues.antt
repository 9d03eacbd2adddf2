-- Homes that wait with their next serials, and the list that they make.
use Rattle.std.specs.Prelude.{ℕ, ◌+◌, ◌≡◌, ◌≤◌, ◌↔◌, List, [], ◌∷◌, length, filter, Option, Some, true, IsSome, nat_lt, cond}
use Rattle.std.specs.List.{slice_get}
use Rattle.std.specs.Ordering.{nat_cmp}
use Rattle.std.specs.Map.{lookup}
use Rattle.std.specs.BTreeMap.{BTreeMap, is_at}
use Rattle.pss_base.specs.declared.pid.Pid.{Pid}
use Rattle.type_layout.specs.declared.home.HomeNo.{HomeNo}
use Rattle.type_layout.specs.declared.schema.Schema.{Schema}
use Rattle.type_layout.specs.Schemas.{given, home_at}
use Rattle.type_layout.specs.Sound.{IsSoundSchema}
use Rattle.pss_catalog.specs.Catalog.{Catalog, EachObject}
use Rattle.pss_catalog.specs.Families.{AreHeirs}
use Rattle.storage_home.specs.declared.extents.Block.{Block}
use Rattle.storage_home.specs.Extents.{is_held_in, IsNextIn}
use Rattle.storage_home.specs.Kept.{is_object_of}
use Rattle.std.specs.FinMap.{get}

abbrev pub Listed : List HomeNo → HomeNo → Type 0
Listed heirs h = (i : ℕ) × (slice_get heirs i ≡ Some h)

abbrev pub waiting_at : ℕ → List (ℕ × HomeNo) → Option HomeNo
waiting_at s queue = lookup (is_at (nat_cmp s)) queue

-- no serial is of two homes
abbrev pub IsApart : List (BTreeMap ℕ Block) → Type 0
IsApart extents = (h g s : ℕ) → is_held_in extents h s ≡ true → is_held_in extents g s ≡ true → h ≡ g

abbrev pub AreIn : List (BTreeMap ℕ Block) → List HomeNo → Type 0
AreIn extents heirs = (h : HomeNo) → Listed heirs h → (1 ≤ h.0) × (h.0 ≤ length extents)

-- each of these homes waits with its next serial from this one on, where it has one
abbrev pub IsQueue : List (BTreeMap ℕ Block) → List HomeNo → ℕ → List (ℕ × HomeNo) → Type 0
IsQueue extents heirs from queue = (s : ℕ) (h : HomeNo) → (waiting_at s queue ≡ Some h) ↔ (Listed heirs h × IsNextIn extents h.0 from (Some s))

-- a home waits with this serial, where there is one
abbrev pub enqueued : Option ℕ → HomeNo → ℕ → Option HomeNo → Option HomeNo
enqueued next home q before = given next before (λ s. cond (is_at (nat_cmp s) q) (Some home) before)

-- the serial behind the last
abbrev pub after : ℕ → List Pid → ℕ
after from [] = from
after from (p ∷ ps) = after (p.serial + 1) ps

abbrev pub below : ℕ → List Pid → List Pid
below from pids = filter (λ p. nat_lt p.serial from) pids

-- the extents are a catalog's, and the homes are one with those that derive from it
pub record IsListing (S : Schema) (M : Catalog) (home : HomeNo) (extents : List (BTreeMap ℕ Block)) (heirs : List HomeNo) : Type 0 where
  pub sound : IsSoundSchema S
  pub there : EachObject M (λ serial object. IsSome (home_at S object.home))
  pub extents_are : (h s : ℕ) → is_held_in extents h s ≡ is_object_of h (get M s)
  pub heirs_are : AreHeirs S home heirs

-- a queue from the start
abbrev pub AnyQueue : List (BTreeMap ℕ Block) → List (ℕ × HomeNo) → Type 0
AnyQueue extents queue = (heirs : List HomeNo) × IsApart extents × AreIn extents heirs × IsQueue extents heirs 0 queue
