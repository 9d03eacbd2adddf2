-- Sentences and their fronts.
use Rattle.std.specs.Prelude.{Option, Some, None, option_and_then, ◌≡◌, ◌≤◌, ◌<◌, ◌+◌, ◌-◌, ℕ, List, [], ◌∷◌, ◌++◌, length, take}

-- some sentence begins so
abbrev pub Begins : {E A : Type 0} → (A → List E) → List E → Type 0
Begins {E} {A} spell front = (more : List E) × (tree : A) × (front ++ more ≡ spell tree)

-- left elements from the end stands the first one with which no sentence begins; at 0 the end is where one is lacking
pub record IsFirstFault {E A : Type 0} (spell : A → List E) (es : List E) (left : ℕ) : Type 0 where
  pub within : left ≤ length es
  pub before : Begins spell (take (length es - left) es)
  pub element : 0 < left → Begins spell (take (length es - left + 1) es) → ⊥
  pub no_sentence : (tree : A) → es ≡ spell tree → ⊥

-- the spellings of parts, one behind the other
abbrev pub joined : {E A : Type 0} → (A → List E) → List A → List E
joined spell [] = []
joined spell (x ∷ xs) = spell x ++ joined spell xs

-- a part, where there is one
abbrev pub maybe : {E A : Type 0} → (A → List E) → Option A → List E
maybe spell None = []
maybe spell (Some x) = spell x

-- where a walk over the elements comes to, one step for each, unless a step is refused
abbrev pub steps : {E S : Type 0} → (S → E → Option S) → S → List E → Option S
steps step s [] = Some s
steps step s (e ∷ es) = option_and_then (λ t. steps step t es) (step s e)
