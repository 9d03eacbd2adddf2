-- Reading from the front of a list, part by part, with the first fault that is met.
use Rattle.std.specs.Prelude.{◌≡◌, ℕ, zero, suc, List, [], ◌∷◌, length, Result, Ok, Err, Option, Some, None, Bool, false, if◌then◌else◌, ◌⊎◌}
use Rattle.std.proofs.Common.{inl, inr}
use Rattle.part_readers.specs.declared.refusal.Refusal.{Refusal}
use Rattle.part_readers.specs.declared.refusal.Refusal.TheVariants.{Memory, Fault}

infixl 10 ◌>>=◌
-- a step, and the next with what the first gave
abbrev pub ◌>>=◌ : {F A B : Type 0} → Result A F → (A → Result B F) → Result B F
(Ok x) >>= next = next x
(Err f) >>= next = Err f

-- a function that was refused says what reading says, unless memory ran out
abbrev pub Fails : {F Y : Type 0} → Refusal F → Result Y F → Type 0
Fails Memory read = Unit {0}
Fails (Fault f) read = read ≡ Err f

-- what a function returned, seen by view, is what reading gives, unless memory ran out
abbrev pub Gives : {F X Y : Type 0} → (X → Y) → Result X (Refusal F) → Result Y F → Type 0
Gives view (Ok x) read = read ≡ Ok (view x)
Gives view (Err refusal) read = Fails refusal read

-- a reader takes its part from the front, and gives what is behind it
abbrev pub Reader : Type 0 → Type 0 → Type 0 → Type 0
Reader E F A = List E → Result (A × List E) F

-- the first element passes a test
abbrev pub starts : {E : Type 0} → (E → Bool) → List E → Bool
starts is [] = false
starts is (e ∷ es) = is e

-- the value of an option, seen by f, or else another
abbrev pub given : {A B : Type 0} → Option A → B → (A → B) → B
given None other f = other
given (Some x) other f = f x

-- one element, by what it stands for; fault says what is wrong at so many elements from the end
abbrev pub one : {E F A : Type 0} → (ℕ → F) → (E → Option A) → Reader E F A
one fault part [] = Err (fault 0)
one fault part (e ∷ es) = given (part e) (Err (fault (length (e ∷ es)))) (λ x. Ok (x, es))

-- what was read, seen as another thing
abbrev pub mapped : {E F A B : Type 0} → (A → B) → Reader E F A → Reader E F B
mapped f read es = read es >>= λ x. Ok (f x.0, x.1)

-- one part, and the other behind it
abbrev pub both : {E F A B : Type 0} → Reader E F A → Reader E F B → Reader E F (A × B)
both first second es = first es >>= λ x. second x.1 >>= λ y. Ok ((x.0, y.0), y.1)

-- the first part where an element starts it, and else the second
abbrev pub either : {E F A B : Type 0} → (E → Bool) → Reader E F A → Reader E F B → Reader E F (A ⊎ B)
either is first second es = if starts is es then mapped inl first es else mapped inr second es

-- the part where an element starts it
abbrev pub optional : {E F A : Type 0} → (E → Bool) → Reader E F A → Reader E F (Option A)
optional is part es = if starts is es then mapped Some part es else Ok (None, es)

-- parts while an element starts one, at most so many
unfoldable pub many_at : {E F A : Type 0} → (E → Bool) → Reader E F A → ℕ → Reader E F (List A)
many_at is part zero es = Ok ([], es)
many_at is part (suc n) es = if starts is es then (part es >>= λ first. many_at is part n first.1 >>= λ others. Ok (first.0 ∷ others.0, others.1)) else Ok ([], es)

-- parts while an element starts one
abbrev pub many : {E F A : Type 0} → (E → Bool) → Reader E F A → Reader E F (List A)
many is part es = many_at is part (length es) es

-- one part, and others of another kind while an element starts one
abbrev pub separated : {E F A B : Type 0} → (E → Bool) → Reader E F A → Reader E F B → Reader E F (A × List B)
separated is first other = both first (many is other)

-- a part behind which nothing is left; fault says what is wrong with more
abbrev pub finished : {E F A : Type 0} → (ℕ → F) → A → List E → Result A F
finished fault x [] = Ok x
finished fault x (e ∷ es) = Err (fault (length (e ∷ es)))

-- a part that is all there is
abbrev pub whole : {E F A : Type 0} → (ℕ → F) → Reader E F A → List E → Result A F
whole fault read es = read es >>= λ x. finished fault x.0 x.1
