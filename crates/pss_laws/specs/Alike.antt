-- Two catalogs that are alike at what can be locked.
use Rattle.std.specs.Prelude.{ℕ, ◌≡◌, ◌==◌, Bool, List, [], ◌∷◌, Option, Some, None, if◌then◌else◌}
use Rattle.std.specs.FinMap.{get}
use Rattle.type_layout.specs.declared.home.HomeNo.{HomeNo}
use Rattle.type_layout.specs.declared.schema.Schema.{Schema}
use Rattle.pss_catalog.specs.Catalog.{Object, Catalog, holds}
use Rattle.pss_machine.specs.declared.lock.Resource.{Resource}
use Rattle.pss_machine.specs.declared.lock.Resource.TheVariants as resource
use Rattle.pss_machine.specs.declared.lock.Mode.{Mode}
use Rattle.pss_machine.specs.declared.lock.Mode.TheVariants.{S as Read, M as Many, X as Write}
use Rattle.pss_machine.specs.declared.lock.Need.{Need}

-- the home of an object that is there and passes a test
abbrev pub home_where : (Object → Bool) → Option Object → Option HomeNo
home_where test None = None
home_where test (Some object) = if test object then Some object.home else None

abbrev pub is_of_home : ℕ → Object → Bool
is_of_home h object = object.home.0 == h

-- the same objects pass a test in both, by serial and home
abbrev pub PassAlike : (Object → Bool) → Catalog → Catalog → Type 0
PassAlike test M N = (s : ℕ) → home_where test (get M s) ≡ home_where test (get N s)

-- in both a serial has the same object or none, a key with its bytes the same holders, a home the same objects
abbrev pub Alike : Schema → Catalog → Catalog → Resource → Type 0
Alike S M N (resource.Object s) = get M s ≡ get N s
Alike S M N (resource.Key k bytes) = PassAlike (holds S (record { 0 = k }) bytes) M N
Alike S M N (resource.Extent h) = PassAlike (is_of_home h) M N

-- what others may add to and take from at once need not be alike
abbrev pub AlikeIn : Schema → Catalog → Catalog → Mode → Resource → Type 0
AlikeIn S M N Read r = Alike S M N r
AlikeIn S M N Many r = Unit {0}
AlikeIn S M N Write r = Alike S M N r

abbrev pub AllAlike : Schema → Catalog → Catalog → List Need → Type 0
AllAlike S M N [] = Unit {0}
AllAlike S M N (x ∷ xs) = AlikeIn S M N x.mode x.resource × AllAlike S M N xs
