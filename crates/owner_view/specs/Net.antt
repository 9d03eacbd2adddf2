-- What an owner's changes come to at a commit.
use Rattle.std.specs.Prelude.{ℕ, ◌≡◌, List, [], ◌∷◌, filter, Option, Some, None, Bool, true, false, not}
use Rattle.std.specs.FinMap.{get}
use Rattle.std.specs.Option.{option_map}
use Rattle.type_layout.specs.declared.schema.Schema.{Schema}
use Rattle.pss_catalog.specs.Catalog.{Object, Catalog, object_spelling}
use Rattle.pss_catalog.specs.Changes.{Change as Step}
use Rattle.storage_home.specs.declared.change.Change.{Change}
use Rattle.pss_machine.specs.Changes.{Changes, listed}
use Rattle.pss_machine.specs.Same.{same_state}
use Rattle.owner_view.specs.Keyed.{keys_of}

-- the state is another than that of the catalog
abbrev pub is_net : Catalog → Step → Bool
is_net M step = not (same_state step.state (get M step.serial))

-- the serials at which the changes leave another state than the catalog has, with these states
abbrev pub net_of : Catalog → Changes → List Step
net_of M changes = filter (is_net M) (listed changes)

-- the home of an object that is there, or of the one that was
abbrev pub home_left : Option Object → Option Object → ℕ
home_left (Some object) old = object.home.0
home_left None (Some object) = object.home.0
home_left None None = 0

-- a change says what becomes of the object with its serial, and which keys this one had and has
pub record IsNet (S : Schema) (M : Catalog) (step : Step) (change : Change) : Type 0 where
  pub serial : change.put.serial ≡ step.serial
  pub home : change.put.home ≡ home_left step.state (get M step.serial)
  pub bytes : change.put.bytes ≡ option_map (object_spelling S) step.state
  pub old_keys : change.old_keys ≡ keys_of S (get M step.serial)
  pub new_keys : change.new_keys ≡ keys_of S step.state

abbrev pub AreNet : Schema → Catalog → List Step → List Change → Type 0
AreNet S M [] [] = Unit {0}
AreNet S M (d ∷ ds) (c ∷ cs) = IsNet S M d c × AreNet S M ds cs
AreNet S M _ _ = ⊥

-- what is told of a serial: its change where its state is another, and none where it is the same
abbrev pub IsNetAt : Schema → Catalog → Step → Option Change → Type 0
IsNetAt S M step None = is_net M step ≡ false
IsNetAt S M step (Some change) = (is_net M step ≡ true) × IsNet S M step change

-- the same of what stands in a slot
abbrev pub IsNetIn : Schema → Catalog → ℕ → Option (Option Object) → Option Change → Type 0
IsNetIn S M serial None change = change ≡ None
IsNetIn S M serial (Some state) change = IsNetAt S M (record { serial = serial; state = state }) change
