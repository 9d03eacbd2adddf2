-- Serials that were seen, and those that were not.
use Rattle.std.proofs.Common.{ℕ, zero, suc, ◌≡◌, ◌≢◌, ◌<◌, List, [], ◌∷◌, length, get_or, Bool, true, false, None, Some, is_some, cond, refl, sym, ◌∙◌, arith}
use Rattle.std.proofs.lemmas.Bool.{eq-eqb, eqb-true, true≢false}
use Rattle.std.proofs.Math.Dec.{eqb}
use Rattle.std.specs.Map.{keys_of, lookup}
use Rattle.std.specs.declared.option.Option.{Option}

-- none of these is the serial
abbrev pub Unseen : List ℕ → ℕ → Type 0
Unseen seen serial = (k : ℕ) → k < length seen → get_or seen k 0 ≢ serial

by_key : (b : Bool) (slot : ℕ) (rest : Option ℕ) → is_some (cond b (Some slot) rest) ≡ false → (b ≡ false) × (is_some rest ≡ false)
by_key true slot rest e = absurd (true≢false e)
by_key false slot rest e = (refl, e)

pub unseen_of : (serial : ℕ) (es : List (ℕ × ℕ)) → is_some (lookup (eqb serial) es) ≡ false → Unseen (keys_of es) serial
unseen_of serial [] e k lt = absurd (omega (arith, lt))
unseen_of serial (p ∷ es) e zero lt = λ same. true≢false (sym (eq-eqb serial p.0 (sym same)) ∙ (by_key (eqb serial p.0) p.1 (lookup (eqb serial) es) e).0)
unseen_of serial (p ∷ es) e (suc k) lt = unseen_of serial es (by_key (eqb serial p.0) p.1 (lookup (eqb serial) es) e).1 k (omega (arith, lt))

pub absent_of : (serial : ℕ) (es : List (ℕ × ℕ)) → Unseen (keys_of es) serial → lookup (eqb serial) es ≡ None
absent_of serial [] f = refl
absent_of serial (p ∷ es) f = by (eqb serial p.0) refl (absent_of serial es (λ k lt. f (suc k) (omega (arith, lt))))
  where
    by : (b : Bool) → eqb serial p.0 ≡ b → lookup (eqb serial) es ≡ None → cond b (Some p.1) (lookup (eqb serial) es) ≡ None
    by true e rest = absurd (f 0 (omega arith) (sym (eqb-true serial p.0 e)))
    by false e rest = rest
