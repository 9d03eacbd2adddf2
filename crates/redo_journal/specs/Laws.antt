-- In each image the journal of an epoch is one thing.
use Rattle.std.specs.Prelude.{ℕ, ◌≡◌, ◌<◌, ◌⊎◌, List}
use Rattle.pss_disk.specs.Parts.{octet_at}
use Rattle.redo_journal.specs.Journal.{Holds, IsDamaged}

-- an image holds one list of bodies, up to one end
abbrev pub HoldsOneList : Type 0
HoldsOneList =
    (epoch end last : ℕ) (bodies others : List (List ℕ)) (image : List ℕ) → Holds (record { end = end; epoch = epoch }) bodies image → Holds (record { end = last; epoch = epoch }) others image → (bodies ≡ others) × (end ≡ last)

-- an image is damaged at one place
abbrev pub IsDamagedOnce : Type 0
IsDamagedOnce = (epoch at other : ℕ) (image : List ℕ) → IsDamaged epoch at image → IsDamaged epoch other image → at ≡ other

-- an image that holds bodies is not damaged
abbrev pub IsNeverBoth : Type 0
IsNeverBoth = (epoch end at : ℕ) (bodies : List (List ℕ)) (image : List ℕ) → Holds (record { end = end; epoch = epoch }) bodies image → IsDamaged epoch at image → ⊥

-- each octet is below 256
abbrev pub AreOctets : List ℕ → Type 0
AreOctets image = (i : ℕ) → octet_at image i < 256

-- an image holds some bodies, up to some end
pub record IsHeld (epoch : ℕ) (image : List ℕ) : Type 0 where
  pub bodies : List (List ℕ)
  pub end : ℕ
  pub holds : Holds (record { end = end; epoch = epoch }) bodies image

-- an image is damaged at some place
pub record IsBroken (epoch : ℕ) (image : List ℕ) : Type 0 where
  pub at : ℕ
  pub damaged : IsDamaged epoch at image

-- each image holds bodies or is damaged
abbrev pub IsEither : Type 0
IsEither = (epoch : ℕ) (image : List ℕ) → AreOctets image → IsHeld epoch image ⊎ IsBroken epoch image
