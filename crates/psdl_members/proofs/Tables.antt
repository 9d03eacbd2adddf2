-- A table of masks, one bit more at a time.
use Rattle.std.proofs.Common.{◌≡◌, ◌∙◌, ℕ, ◌<◌, List, Bool, true, false, ◌==◌, ◌||◌, ◌&&◌, length, get_or, refl, sym, ap, ⊎_elim, get_or-set_same, get_or-set_other}
use Rattle.std.proofs.Math.ListN.{set}
use Rattle.std.proofs.lemmas.Bool.{cases_eq, eq-eqb, ne_eqb}
use Rattle.std.proofs.lemmas.List.{get_or_read}
use Rattle.psdl_members.specs.inner.Bits.{has_bit}

or_false : (b : Bool) → b ≡ (b || false)
or_false true = refl
or_false false = refl

-- the place was made, and then one mask was changed
pub table_put : (old made : List ℕ) (number bit was mask : ℕ) → number < length made → ((n : ℕ) → get_or made n 0 ≡ get_or old n 0) → was ≡ get_or made number was
    → ((k : ℕ) → k < 64 → has_bit mask k ≡ (has_bit was k || k == bit)) → (n k : ℕ) → k < 64 → has_bit (get_or (set made number mask) n 0) k ≡ (has_bit (get_or old n 0) k || (n == number && k == bit))
table_put old made number bit was mask room same read put n k low =
    ⊎_elim
    (λ here.
    let before : was ≡ get_or old n 0 = get_or_read made number was room read 0 ∙ same number ∙ ap (λ (m : ℕ). get_or old m 0) (sym here) in
    ap (λ (m : ℕ). has_bit (get_or (set made number mask) m 0) k) here
    ∙ ap (λ (m : ℕ). has_bit m k) (get_or-set_same made number mask 0 room)
    ∙ put k low
    ∙ ap (λ (m : ℕ). has_bit m k || k == bit) before
    ∙ ap (λ (b : Bool). has_bit (get_or old n 0) k || (b && k == bit)) (sym (eq-eqb n number here)))
    (λ other.
    ap (λ (m : ℕ). has_bit m k) (get_or-set_other made number n mask 0 other ∙ same n)
    ∙ or_false (has_bit (get_or old n 0) k)
    ∙ ap (λ (b : Bool). has_bit (get_or old n 0) k || (b && k == bit)) (sym (ne_eqb n number other)))
    (cases_eq n number)
