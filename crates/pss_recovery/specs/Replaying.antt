-- The bodies of a journal, made over a catalog: which are right, one behind the other, and which is the first that is wrong.
use Rattle.std.specs.Prelude.{ℕ, ◌≡◌, ◌<◌, ◌≤◌, List, [], ◌∷◌, length, take, Some, None, IfSome, IsSome}
use Rattle.std.specs.List.{slice_get}
use Rattle.std.specs.FinMap.{get}
use Rattle.pss_base.specs.declared.put.Put.{Put}
use Rattle.type_layout.specs.declared.schema.Schema.{Schema}
use Rattle.pss_catalog.specs.Catalog.{Catalog, IsUnique, total}
use Rattle.pss_catalog.specs.Changes.{Change as Step, over}
use Rattle.storage_home.specs.Applied.{IsStep}
use Rattle.redo_journal.specs.Journal.{behind, journal_start}
use Rattle.pss_recovery.specs.Bodies.{Spells}
use Rattle.pss_recovery.specs.Loading.{RefersBelow, most_octets}
use Rattle.pss_recovery.specs.declared.body.Body.{Body}

-- the serials rise, each above the one before and below the next one
abbrev pub Rise : ℕ → ℕ → List Put → Type 0
Rise last next [] = Unit {0}
Rise last next (put ∷ puts) = (last < put.serial) × (put.serial < next) × Rise put.serial next puts

-- a change gives its serial this state: an object of the home of the one that is there, if there is one, whose record
-- is short and refers below the next serial; or none, where there was an object of its home
pub record IsMade (S : Schema) (M : Catalog) (next : ℕ) (put : Put) (step : Step) : Type 0 where
  pub step_ : IsStep S put step
  pub home : IfSome (get M put.serial) (λ object. object.home.0 ≡ put.home)
  pub there : put.bytes ≡ None → IsSome (get M put.serial)
  pub short : IfSome put.bytes (λ octets. length octets ≤ 8000)
  pub refers : IfSome step.state (RefersBelow next)

abbrev pub AreMade : Schema → Catalog → ℕ → List Put → List Step → Type 0
AreMade S M next [] [] = Unit {0}
AreMade S M next (put ∷ puts) (step ∷ steps) = IsMade S M next put step × AreMade S M next puts steps
AreMade S M next _ _ = ⊥

-- a body may come over a catalog with a next serial, and makes this other one of it
pub record IsChanged (S : Schema) (M : Catalog) (next : ℕ) (body : Body) (N : Catalog) : Type 0 where
  pub some : 1 ≤ length body.puts
  pub few : length body.puts ≤ 256
  pub later : next ≤ body.next
  pub rise : Rise 0 body.next body.puts
  pub steps : List Step
  pub made : AreMade S M body.next body.puts steps
  pub result : N ≡ over M steps
  pub unique : IsUnique S N
  pub bounded : total S N ≤ most_octets

-- these octets are such a body
pub record IsRight (S : Schema) (M : Catalog) (next : ℕ) (octets : List ℕ) (N : Catalog) (last : ℕ) : Type 0 where
  pub body : Body
  pub spells : Spells octets body
  pub last_ : last ≡ body.next
  pub changed : IsChanged S M next body N

-- with these bodies, one behind the other, a catalog and a next serial become others
abbrev pub AreReplayed : Schema → Catalog → ℕ → List (List ℕ) → Catalog → ℕ → Type 0
AreReplayed S M next [] N last = (N ≡ M) × (last ≡ next)
AreReplayed S M next (octets ∷ bodies) N last = (between : Catalog) × (number : ℕ) × IsRight S M next octets between number × AreReplayed S between number bodies N last

-- the gate behind the records of some bodies
abbrev pub gate_behind : ℕ → List (List ℕ) → ℕ
gate_behind gate [] = gate
gate_behind gate (body ∷ bodies) = gate_behind (behind gate (length body)) bodies

-- of these bodies, some are right, and the one behind them, at this gate, is not
pub record IsChangeDamage (S : Schema) (M : Catalog) (next : ℕ) (bodies : List (List ℕ)) (at : ℕ) : Type 0 where
  pub index : ℕ
  pub octets : List ℕ
  pub there : slice_get bodies index ≡ Some octets
  pub before : Catalog
  pub number : ℕ
  pub replayed : AreReplayed S M next (take index bodies) before number
  pub place : at ≡ gate_behind journal_start (take index bodies)
  pub wrong : (N : Catalog) (last : ℕ) → IsRight S before number octets N last → ⊥
