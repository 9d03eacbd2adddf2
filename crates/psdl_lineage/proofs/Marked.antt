-- Marks that are stamps.
use Rattle.std.proofs.Common.{◌≡◌, ℕ, zero, suc, ◌<◌, ◌≤◌, List, [], ◌∷◌, true, false, ◌==◌, map, length, refl, ap, ◌∙◌, arith}
use Rattle.std.proofs.Math.ListN.{replicate, set}
use Rattle.std.specs.List.{All}
use Rattle.std.proofs.lemmas.Bool.{ne_eqb, eq-eqb}
use Rattle.psdl_lineage.specs.inner.Marking.{marks_of}

-- a later stamp is on none
pub none_later : (stamps : List ℕ) (present later : ℕ) → present < later → All (λ s. s ≤ present) stamps → marks_of later stamps ≡ map (λ _. false) (marks_of present stamps)
none_later [] present later lt past = refl
none_later (s ∷ stamps) present later lt past =
    ap (λ b. b ∷ marks_of later stamps) (ne_eqb s later (omega (arith, past 0 0 (omega arith))))
    ∙ ap (λ l. false ∷ l) (none_later stamps present later lt (λ k d below. past (suc k) d (omega arith)))

pub none_of : (stamps : List ℕ) (n present : ℕ) → length stamps ≡ n → marks_of 1 (replicate n 0) ≡ map (λ _. false) (marks_of present stamps)
none_of [] n present e = rw (← e) refl
none_of (s ∷ stamps) n present e = rw (← e) (ap (λ l. false ∷ l) (none_of stamps (length stamps) present refl))

pub none_marked : (n : ℕ) → marks_of 1 (replicate n 0) ≡ replicate n false
none_marked zero = refl
none_marked (suc n) = ap (λ l. false ∷ l) (none_marked n)

pub marked_at : (stamps : List ℕ) (i present : ℕ) → marks_of present (set stamps i present) ≡ set (marks_of present stamps) i true
marked_at [] i present = refl
marked_at (s ∷ stamps) zero present = ap (λ b. b ∷ marks_of present stamps) (eq-eqb present present refl)
marked_at (s ∷ stamps) (suc i) present = ap (λ l. (s == present) ∷ l) (marked_at stamps i present)
