-- What a reader owes to its grammar.
use Rattle.std.proofs.Common.{◌≡◌, ℕ, List, [], ◌∷◌, ◌++◌, length, Result, Ok, Err, Option, Some, ◌⊎◌}
use Rattle.part_readers.specs.Sentences.{steps}
use Rattle.part_readers.specs.Reading.{Reader}

-- What a language of readers has beside its readers. A state goes over the elements, and a step from it may be refused.
-- A fault says how many elements are left from it to the end, and what may stand where it is met, and in its place.
pub record Language : Type 1 where
  pub Element : Type 0
  pub Fault : Type 0
  pub State : Type 0
  pub step : State → Element → Option State
  pub left_of : Fault → ℕ
  pub moved : Fault → ℕ → Fault
  pub Meets : Fault → State → List Element → List Element → Type 0
  pub meets_more : (f : Fault) (e : State) (rest more end : List Element) → Meets f e rest more → Meets f e rest (more ++ end)
  pub Excuses : Fault → Type 0

-- the state behind the elements, where no step is refused
abbrev pub run : (l : Language) → l.State → List l.Element → Option l.State
run l = steps l.step

-- both lists begin with the same, or are empty
abbrev pub SameHead : {E : Type 0} → List E → List E → Type 0
SameHead [] [] = Unit {0}
SameHead [] (b ∷ ys) = ⊥
SameHead (a ∷ xs) [] = ⊥
SameHead (a ∷ xs) (b ∷ ys) = a ≡ b

-- a fault that a sentence may have too
abbrev pub IsExcused : (l : Language) {A : Type 0} → Result A l.Fault → Type 0
IsExcused l r = (f : l.Fault) × (r ≡ Err f) × l.Excuses f

-- a reader took x, and takes it whatever is behind the next element
pub record Takes {A : Type 0} (l : Language) (d e : l.State) (read : Reader l.Element l.Fault A) (spell : A → List l.Element) (toks : List l.Element) (x : A) (rest : List l.Element) : Type 0 where
  pub spelled : toks ≡ spell x ++ rest
  pub again : (other : List l.Element) → SameHead rest other → read (spell x ++ other) ≡ Ok (x, other)
  pub level : run l d (spell x) ≡ Some e

-- a reader stopped at an element: what it used begins a tree, and it stops there whatever is behind that element
pub record Stops {A : Type 0} (l : Language) (d : l.State) (read : Reader l.Element l.Fault A) (spell : A → List l.Element) (toks : List l.Element) (f : l.Fault) : Type 0 where
  pub used : List l.Element
  pub rest : List l.Element
  pub spelled : toks ≡ used ++ rest
  pub left_is : l.left_of f ≡ length rest
  pub still : (other : List l.Element) → SameHead rest other → read (used ++ other) ≡ Err (l.moved f (length other))
  pub tree : A
  pub more : List l.Element
  pub begun : used ++ more ≡ spell tree
  pub state : l.State
  pub level : run l d used ≡ Some state
  pub meets : l.Meets f state rest more

-- What a reader owes to its grammar, from one state to another. Behind a tree may stand what the reader does not go on with.
pub record IsReader {A : Type 0} (l : Language) (d e : l.State) (read : Reader l.Element l.Fault A) (spell : A → List l.Element) (Ends : List l.Element → Type 0) : Type 0 where
  pub takes : (toks : List l.Element) (x : A) (rest : List l.Element) → read toks ≡ Ok (x, rest) → Takes l d e read spell toks x rest
  pub reads : (x : A) (rest : List l.Element) → Ends rest → (read (spell x ++ rest) ≡ Ok (x, rest)) ⊎ IsExcused l (read (spell x ++ rest))
  pub stops : (toks : List l.Element) (f : l.Fault) → read toks ≡ Err f → Stops l d read spell toks f
  pub some : A
