-- The forms of the program's words.
use Rattle.std.specs.Prelude.{ℕ, List, [], ◌∷◌, ◌≡◌, ◌≤◌, codes}
use Rattle.std.specs.Fmt.{decimal}
use Rattle.pss_daemon.specs.declared.forms.Plan.{Plan}
use Rattle.pss_daemon.specs.declared.forms.Plan.TheVariants.{Check, Init, Run, Demo}

-- a command and one name
abbrev pub HasOneName : List (List ℕ) → List ℕ → Type 0
HasOneName words command = (name : List ℕ) × (words ≡ command ∷ name ∷ [])

-- a command and two names
abbrev pub HasTwoNames : List (List ℕ) → List ℕ → Type 0
HasTwoNames words command = (first : List ℕ) × (second : List ℕ) × (words ≡ command ∷ first ∷ second ∷ [])

-- The words say this. Names are told by their places.
abbrev pub IsPlanOf : List (List ℕ) → Plan → Type 0
IsPlanOf words (Check schema) = (schema ≡ 1) × HasOneName words (codes "check")
IsPlanOf words (Init schema store) = (schema ≡ 1) × (store ≡ 2) × HasTwoNames words (codes "init")
IsPlanOf words (Run schema store) = (schema ≡ 1) × (store ≡ 2) × HasTwoNames words (codes "run")
IsPlanOf words (Demo rounds store) =
    (1 ≤ rounds) × (rounds ≤ 1000) × (store ≡ 2) × ((name : List ℕ) × (words ≡ codes "demo" ∷ decimal rounds ∷ name ∷ []))
