-- What was put behind what.
use Rattle.std.proofs.Common.{◌≡◌, ℕ, ◌+◌, List, ◌++◌, length, Result, Ok, Err, ap, ◌∙◌, append_assoc, length-append}
use Rattle.std.specs.Prelude.{OnOk}

pub on_ok : {T E : Type 0} (r : Result T E) (P Q : Type 0) → (P → Q) → OnOk r P → OnOk r Q
on_ok (Ok x) P Q weaker p = weaker p
on_ok (Err e) P Q weaker p = tt

-- a text, and another that begins where it ends
pub put_behind : (old first middle new : List ℕ) (others : ℕ → List ℕ) → middle ≡ old ++ first → new ≡ middle ++ others (length middle) → new ≡ old ++ (first ++ others (length old + length first))
put_behind old first middle new others is e =
    e ∙ ap (λ (m : List ℕ). m ++ others (length m)) is ∙ append_assoc old first (others (length (old ++ first))) ∙ ap (λ (k : ℕ). old ++ (first ++ others k)) (length-append old first)
