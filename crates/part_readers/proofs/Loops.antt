-- Reading parts one after the other, as a loop does.
use Rattle.std.proofs.lemmas.List.{map_push}
use Rattle.std.proofs.Common.{map, ◌≡◌, ℕ, zero, suc, ◌-◌, ◌+◌, ◌≤◌, ◌<◌, Bool, true, false, List, [], ◌∷◌, ◌++◌, length, Result, Ok, Err, refl, sym, ap, ◌∙◌, append_assoc, arith}
use Rattle.std.proofs.lemmas.List.{append-nil}
use Rattle.part_readers.specs.declared.refusal.Refusal.{Refusal}
use Rattle.part_readers.specs.declared.refusal.Refusal.TheVariants.{Memory, Fault}
use Rattle.part_readers.specs.Reading.{◌>>=◌, Fails, Reader, starts, mapped, both, many_at, many}

-- what was read before, and what is still read
abbrev pub with_front : {E F A : Type 0} → List A → Result (List A × List E) F → Result (List A × List E) F
with_front front read = read >>= λ x. Ok (front ++ x.0, x.1)

regroup : {E F A : Type 0} (front : List A) (n : A) (read : Result (List A × List E) F) → with_front front (read >>= λ x. Ok (n ∷ x.0, x.1)) ≡ with_front (front ++ n ∷ []) read
regroup {E} {F} {A} front n (Ok x) = ap (λ (ns : List A). Ok (ns, x.1)) (simp append_assoc)
regroup front n (Err f) = refl

-- nothing was read so far
pub sets_out : {E F A : Type 0} (is : E → Bool) (part : Reader E F A) (count : ℕ) (toks : List E) → length toks ≡ count → with_front [] (many_at is part (count - 0) toks) ≡ many is part toks
sets_out is part count toks le =
    let k : count - 0 ≡ length toks = omega (arith, le) in
    rw k (same (many_at is part (length toks) toks))
  where
    same : {E F A : Type 0} (read : Result (List A × List E) F) → with_front [] read ≡ read
    same (Ok x) = refl
    same (Err f) = refl

pub goes_on : {E F A : Type 0} (is : E → Bool) (part : Reader E F A) (front : List A) (count i : ℕ) (rest : List E) (x : A) (after : List E) (total : Result (List A × List E) F)
    → i < count → starts is rest ≡ true → part rest ≡ Ok (x, after)
    → with_front front (many_at is part (count - i) rest) ≡ total → with_front (front ++ x ∷ []) (many_at is part (count - (i + 1)) after) ≡ total
unfolding many_at
goes_on {E} {F} {A} is part front count i rest x after total lt goes h so_far =
    let k : count - i ≡ suc (count - (i + 1)) = omega arith in
    let one : with_front front (many_at is part (count - i) rest) ≡ with_front (front ++ x ∷ []) (many_at is part (count - (i + 1)) after) = rw (k, goes, h) (regroup front x (many_at is part (count - (i + 1)) after)) in
    sym one ∙ so_far

pub stops : {E F A : Type 0} (refusal : Refusal F) (is : E → Bool) (part : Reader E F A) (front : List A) (count i : ℕ) (rest : List E) (total : Result (List A × List E) F)
    → i < count → starts is rest ≡ true → Fails refusal (part rest)
    → with_front front (many_at is part (count - i) rest) ≡ total → Fails refusal total
unfolding many_at
stops Memory is part front count i rest total lt goes h so_far = tt
stops (Fault f) is part front count i rest total lt goes h so_far =
    let k : count - i ≡ suc (count - (i + 1)) = omega arith in
    let one : with_front front (many_at is part (count - i) rest) ≡ Err f = rw (k, goes, h) refl in
    sym so_far ∙ one

pub no_more : {E F A : Type 0} (is : E → Bool) (part : Reader E F A) (front : List A) (count i : ℕ) (rest : List E) (total : Result (List A × List E) F) → starts is rest ≡ false → with_front front (many_at is part (count - i) rest) ≡ total → total ≡ Ok (front, rest)
unfolding many_at
no_more {E} {F} {A} is part front count i rest total ends so_far =
    sym so_far ∙ ap (with_front front) (nothing_starts (count - i)) ∙ ap (λ (ns : List A). Ok (ns, rest)) (append-nil front)
  where
    nothing_starts : (n : ℕ) → many_at is part n rest ≡ Ok ([], rest)
    nothing_starts zero = refl
    nothing_starts (suc n) = rw ends refl

pub is_done : {E F A : Type 0} (is : E → Bool) (part : Reader E F A) (front : List A) (count i : ℕ) (rest : List E) (total : Result (List A × List E) F) → count ≤ i → with_front front (many_at is part (count - i) rest) ≡ total → total ≡ Ok (front, rest)
unfolding many_at
is_done {E} {F} {A} is part front count i rest total le so_far =
    let k : count - i ≡ 0 = omega arith in
    let one : with_front front (many_at is part (count - i) rest) ≡ Ok (front, rest) = rw k (ap (λ (ns : List A). Ok (ns, rest)) (append-nil front)) in
    sym so_far ∙ one

-- ---- one part behind another, as functions read them

pub first_fails : {E F A B : Type 0} (refusal : Refusal F) (first : Reader E F A) (second : Reader E F B) (toks : List E) → Fails refusal (first toks) → Fails refusal (both first second toks)
first_fails Memory first second toks h = tt
first_fails (Fault f) first second toks h = rw h refl

pub second_fails : {E F A B : Type 0} (refusal : Refusal F) (first : Reader E F A) (second : Reader E F B) (toks : List E) (x : A) (mid : List E) → first toks ≡ Ok (x, mid) → Fails refusal (second mid) → Fails refusal (both first second toks)
second_fails Memory first second toks x mid g h = tt
second_fails (Fault f) first second toks x mid g h = rw (g, h) refl

pub both_gives : {E F A B : Type 0} (first : Reader E F A) (second : Reader E F B) (toks : List E) (x : A) (mid : List E) (y : B) (rest : List E) → first toks ≡ Ok (x, mid) → second mid ≡ Ok (y, rest) → both first second toks ≡ Ok ((x, y), rest)
both_gives first second toks x mid y rest g h = rw (g, h) refl

pub mapped_fails : {E F A B : Type 0} (refusal : Refusal F) (f : A → B) (read : Reader E F A) (toks : List E) → Fails refusal (read toks) → Fails refusal (mapped f read toks)
mapped_fails Memory f read toks h = tt
mapped_fails (Fault k) f read toks h = rw h refl

pub mapped_gives : {E F A B : Type 0} (f : A → B) (read : Reader E F A) (toks : List E) (x : A) (rest : List E) → read toks ≡ Ok (x, rest) → mapped f read toks ≡ Ok (f x, rest)
mapped_gives f read toks x rest h = rw h refl

-- a loop that pushes what it read, seen by view, goes on
pub pushed_on : {E F A X : Type 0} (view : X → A) (is : E → Bool) (part : Reader E F A) (after_push items : List X) (made : X) (count i : ℕ) (rest : List E) (x : A) (after : List E) (total : Result (List A × List E) F)
    → after_push ≡ items ++ made ∷ [] → view made ≡ x → i < count → starts is rest ≡ true → part rest ≡ Ok (x, after)
    → with_front (map view items) (many_at is part (count - i) rest) ≡ total → with_front (map view after_push) (many_at is part (count - (i + 1)) after) ≡ total
pushed_on view is part after_push items made count i rest x after total push seen lt goes h so_far =
    rw (push, map_push view items made, seen) (goes_on is part (map view items) count i rest x after total lt goes h so_far)
