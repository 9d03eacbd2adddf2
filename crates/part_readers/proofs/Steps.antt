-- Steps of reading, taken apart.
use Rattle.std.proofs.Common.{◌≡◌, Bool, List, [], ◌∷◌, ◌++◌, Result, Ok, Err, Option, Some, None, refl, sym, ap, ◌∙◌, subst, ◌⊎◌, inl, inr}
use Rattle.std.specs.Prelude.{option_and_then}
use Rattle.part_readers.specs.Reading.{◌>>=◌, Reader, starts}
use Rattle.part_readers.proofs.Law.{Language, run, SameHead, IsReader}

-- the value of a step that did not fail
pub bind_ok : {F A B : Type 0} (r : Result A F) (f : A → Result B F) (y : B) → (r >>= f) ≡ Ok y → (x : A) × (r ≡ Ok x) × (f x ≡ Ok y)
bind_ok (Ok x) f y e = (x, refl, e)
bind_ok (Err d) f y e = absurd cc

-- the step that failed
pub bind_err : {F A B : Type 0} (r : Result A F) (f : A → Result B F) (e : F) → (r >>= f) ≡ Err e → (r ≡ Err e) ⊎ ((x : A) × (r ≡ Ok x) × (f x ≡ Err e))
bind_err (Ok x) f d e = inr (x, refl, e)
bind_err (Err c) f d e = inl cc

abbrev pub done : {F A : Type 0} → A → Result A F
done x = Ok x

pub ok_is : {F A : Type 0} (x y : A) → done {F = F} x ≡ done y → x ≡ y
ok_is x y e = cc

pub head_same : {E : Type 0} (xs : List E) → SameHead xs xs
head_same [] = tt
head_same (x ∷ xs) = refl

pub head_behind : {E : Type 0} (used rest other : List E) → SameHead rest other → SameHead (used ++ rest) (used ++ other)
head_behind [] rest other h = h
head_behind (u ∷ used) rest other h = refl

-- a list that was cut begins like its first part with what begins like its second
pub head_through : {E : Type 0} (toks used rest other : List E) → toks ≡ used ++ rest → SameHead rest other → SameHead toks (used ++ other)
head_through {E} toks used rest other cut same = subst (λ (k : List E). SameHead k (used ++ other)) (sym cut) (head_behind used rest other same)

pub starts_same : {E : Type 0} (is : E → Bool) (xs ys : List E) → SameHead xs ys → starts is xs ≡ starts is ys
starts_same is [] [] h = refl
starts_same is [] (b ∷ ys) h = absurd h
starts_same is (a ∷ xs) [] h = absurd h
starts_same is (a ∷ xs) (b ∷ ys) h = ap is h

-- a test says the same of a list that was cut and of what begins like it
pub test_through : {E : Type 0} (is : E → Bool) (b : Bool) (toks used rest other : List E) → starts is toks ≡ b → toks ≡ used ++ rest → SameHead rest other → starts is (used ++ other) ≡ b
test_through is b toks used rest other h cut same = sym (starts_same is toks (used ++ other) (head_through toks used rest other cut same)) ∙ h

pub run_append : (l : Language) (d e : l.State) (a b : List l.Element) → run l d a ≡ Some e → run l d (a ++ b) ≡ run l e b
run_append l d e [] b h = ap (λ (o : Option l.State). option_and_then (λ k. run l k b) o) h
run_append l d e (t ∷ a) b h = by_step (l.step d t) h (λ k g. run_append l k e a b g)
  where
    by_step : (o : Option l.State) → option_and_then (λ k. run l k a) o ≡ Some e → ((k : l.State) → run l k a ≡ Some e → run l k (a ++ b) ≡ run l e b) → option_and_then (λ k. run l k (a ++ b)) o ≡ run l e b
    by_step None h ih = absurd cc
    by_step (Some k) h ih = ih k h

-- less may stand behind a tree
pub narrowed : {A : Type 0} (l : Language) (d e : l.State) (read : Reader l.Element l.Fault A) (spell : A → List l.Element) (Ends Fewer : List l.Element → Type 0) → ((rest : List l.Element) → Fewer rest → Ends rest) → IsReader l d e read spell Ends → IsReader l d e read spell Fewer
narrowed l d e read spell Ends Fewer less is = record { takes = is.takes; reads = λ x rest h. is.reads x rest (less rest h); stops = is.stops; some = is.some }
