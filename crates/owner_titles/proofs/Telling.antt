-- The texts of the last commits.
use Rattle.std.proofs.Common.{ℕ, zero, suc, ◌≡◌, ◌+◌, ◌-◌, ◌<◌, List, [], ◌∷◌, ◌++◌, length, take, drop, map, slice_index_or, sym, ap, ◌∙◌, arith}
use Rattle.std.proofs.lemmas.List.{drop-map, map-append, length-map}
use Rattle.pss_machine.specs.Moving.{last_64}
use Rattle.owner_titles.specs.declared.told.Told.{Told}
use Rattle.owner_titles.specs.Telling.{told_text}
use Rattle.owner_titles.specs.inner.Room.{newest}

newest_texts : (commits : List Told) → map told_text (newest commits) ≡ last_64 (map told_text commits)
newest_texts commits = sym (drop-map told_text (length commits - 64) commits) ∙ ap (λ n. drop (n - 64) (map told_text commits)) (sym (length-map commits told_text))

-- the texts after one commit more
pub one_told : (commits : List Told) (commit : Told) → map told_text (newest (commits ++ commit ∷ [])) ≡ last_64 (map told_text commits ++ told_text commit ∷ [])
one_told commits commit = newest_texts (commits ++ commit ∷ []) ∙ ap last_64 (map-append told_text commits (commit ∷ []))

spelled : (commits : List Told) (at : ℕ) (commit : Told) → at < length commits → commit ≡ slice_index_or commits at commit → take at (map told_text commits) ++ told_text commit ∷ [] ≡ take (suc at) (map told_text commits)
spelled [] at commit less is = absurd (omega (arith, less))
spelled (first ∷ rest) zero commit less is = ap (λ told. told_text told ∷ []) is
spelled (first ∷ rest) (suc at) commit less is = ap (λ texts. told_text first ∷ texts) (spelled rest at commit (omega (arith, less)) is)

-- one text more is spelled
pub one_spelled : (commits : List Told) (at : ℕ) (commit : Told) → at < length commits → commit ≡ slice_index_or commits at commit → take at (map told_text commits) ++ told_text commit ∷ [] ≡ take (at + 1) (map told_text commits)
one_spelled commits at commit less is = let next : suc at ≡ at + 1 = omega arith in spelled commits at commit less is ∙ ap (λ n. take n (map told_text commits)) next
