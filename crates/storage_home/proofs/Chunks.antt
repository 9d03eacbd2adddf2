-- The row of one serial changes with that of its place in its chunk.
use Rattle.std.proofs.Common.{ℕ, ◌≡◌, ◌==◌, ◌/◌, ◌%◌, List, Option, Some, None, IsSome, true, false, cond, get_or, subst, refl, sym, ap, ◌∙◌, arith, eq-eqb}
use Rattle.std.specs.Prelude.{nat_eq}
use Rattle.recent_table.specs.Turned.{IsTurned}
use Rattle.storage_home.specs.declared.rows.Row.{Row}
use Rattle.storage_home.specs.Cells.{TurnsCell}
use Rattle.storage_home.specs.Rows.{Chunks, chunk_at, cell_in, row_at, object_in, is_reserved_in, reserved_in, object_at, is_reserved_at, TurnsRow, KeepsRows, KeepsObjects, TurnsReserved}
use Rattle.storage_home.proofs.Places.{by_test, same_number}

-- two serials of one chunk are one where they have one place
pub one_place : (s q : ℕ) → s / 64 ≡ q / 64 → (s % 64 == q % 64) ≡ (s == q)
one_place s q near =
    by_test (λ b. (s == q) ≡ b → (s % 64 == q % 64) ≡ b) (s == q) (λ _ same. eq-eqb (s % 64) (q % 64) (ap (λ k. k % 64) (same_number s q same)))
    (λ _ apart. by_test (λ b. (s % 64 == q % 64) ≡ b → b ≡ false) (s % 64 == q % 64) (λ _ e. (let place = same_number (s % 64) (q % 64) e in let same : s ≡ q = omega (arith, near, place) in sym (eq-eqb s q same) ∙ apart)) (λ _ _. refl) refl)
    refl

pub far_apart : (s q : ℕ) → (s / 64 == q / 64) ≡ false → (s == q) ≡ false
far_apart s q far = by_test (λ b. (s == q) ≡ b → b ≡ false) (s == q) (λ _ same. sym (eq-eqb (s / 64) (q / 64) (ap (λ k. k / 64) (same_number s q same))) ∙ far) (λ _ _. refl) refl

module _ (old new : Chunks) (s : ℕ) (row : Option Row) where
  row_turned :
      (chunk : Option (List (Option Row))) → ((n : ℕ) → chunk_at n new ≡ cond (s / 64 == n) chunk (chunk_at n old))
      → ((p : ℕ) → cell_in chunk p ≡ cond (s % 64 == p) row (cell_in (chunk_at (s / 64) old) p)) → TurnsRow old new s row
  row_turned chunk turns cells q =
      ap (λ o. cell_in o (q % 64)) (turns (q / 64))
      ∙ by_test (λ b. (s / 64 == q / 64) ≡ b → cell_in (cond b chunk (chunk_at (q / 64) old)) (q % 64) ≡ cond (s == q) row (row_at q old)) (s / 64 == q / 64)
      (λ _ same.
      let near = same_number (s / 64) (q / 64) same in
      cells (q % 64) ∙ ap (λ b. cond b row (cell_in (chunk_at (s / 64) old) (q % 64))) (one_place s q near) ∙ ap (λ (n : ℕ). cond (s == q) row (cell_in (chunk_at n old) (q % 64))) near)
      (λ _ far. ap (λ b. cond b row (row_at q old)) (sym (far_apart s q far)))
      refl

  -- its chunk is there
  pub chunk_turned :
      (before after : List (Option Row)) → Some before ≡ chunk_at (s / 64) old → ((n : ℕ) → chunk_at n new ≡ cond (s / 64 == n) (Some after) (chunk_at n old))
      → TurnsCell before after (s % 64) row → TurnsRow old new s row
  chunk_turned before after is turns cells = row_turned (Some after) turns (λ p. cells p ∙ ap (λ o. cond (s % 64 == p) row (cell_in o p)) is)

  -- its chunk is new
  pub chunk_begun :
      (before after : List (Option Row)) → ((p : ℕ) → get_or before p None ≡ None) → chunk_at (s / 64) old ≡ None → ((n : ℕ) → chunk_at n new ≡ cond (s / 64 == n) (Some after) (chunk_at n old))
      → TurnsCell before after (s % 64) row → TurnsRow old new s row
  chunk_begun before after none is turns cells =
      row_turned (Some after) turns (λ p. cells p ∙ ap (cond (s % 64 == p) row) (none p) ∙ ap (λ o. cond (s % 64 == p) row (cell_in o p)) (sym is))

-- a chunk without rows goes
pub chunk_ended : (old new : Chunks) (number : ℕ) → ((q : ℕ) → cell_in (chunk_at number old) q ≡ None) → ((n : ℕ) → chunk_at n new ≡ cond (number == n) None (chunk_at n old)) → KeepsRows old new
chunk_ended old new number none turns q =
    ap (λ o. cell_in o (q % 64)) (turns (q / 64))
    ∙ by_test (λ b. (number == q / 64) ≡ b → cell_in (cond b None (chunk_at (q / 64) old)) (q % 64) ≡ row_at q old) (number == q / 64)
    (λ _ same. sym (none (q % 64)) ∙ ap (λ (n : ℕ). cell_in (chunk_at n old) (q % 64)) (same_number number (q / 64) same))
    (λ _ _. refl)
    refl

pub chunk_same :
    (old new : Chunks) (number : ℕ) (before after : List (Option Row)) → Some before ≡ chunk_at number old → after ≡ before → ((n : ℕ) → chunk_at n new ≡ cond (number == n) (Some after) (chunk_at n old)) → KeepsRows old new
chunk_same old new number before after is same turns q =
    ap (λ o. cell_in o (q % 64)) (turns (q / 64))
    ∙ by_test (λ b. (number == q / 64) ≡ b → cell_in (cond b (Some after) (chunk_at (q / 64) old)) (q % 64) ≡ row_at q old) (number == q / 64)
    (λ _ here. ap (λ (l : List (Option Row)). cell_in (Some l) (q % 64)) same ∙ ap (λ o. cell_in o (q % 64)) is ∙ ap (λ (n : ℕ). cell_in (chunk_at n old) (q % 64)) (same_number number (q / 64) here))
    (λ _ _. refl)
    refl

-- a chunk that was found, and what was written into it
module _ (old : Chunks) (s : ℕ) (before : List (Option Row)) (is : Some before ≡ chunk_at (s / 64) old) where
  pub chunk_there : IsSome (chunk_at (s / 64) old)
  chunk_there = subst IsSome is refl

  pub cell_is : get_or before (s % 64) None ≡ row_at s old
  cell_is = ap (λ o. cell_in o (s % 64)) is

  pub cell_there : IsSome (row_at s old) → IsSome (get_or before (s % 64) None)
  cell_there = subst IsSome (sym cell_is)

  module _ (new : Chunks) (after : List (Option Row)) (turned : IsTurned nat_eq old new (s / 64) (Some after)) where
    pub row_put : (row : Option Row) → TurnsCell before after (s % 64) row → TurnsRow old new s row
    row_put row = chunk_turned old new s row before after is turned

    pub row_reserved : TurnsCell before after (s % 64) (Some (reserved_in (get_or before (s % 64) None))) → TurnsRow old new s (Some (reserved_in (row_at s old)))
    row_reserved cells = subst (λ (r : Option Row). TurnsRow old new s (Some (reserved_in r))) cell_is (row_put _ cells)

    pub row_kept : after ≡ before → KeepsRows old new
    row_kept same = chunk_same old new (s / 64) before after is same turned

-- the chunk of a row that is there is there
pub never_none : (es : Chunks) (s : ℕ) → IsSome (row_at s es) → None ≡ chunk_at (s / 64) es → ⊥
never_none es s there none = let no : IsSome (cell_in None (s % 64)) = subst (λ o. IsSome (cell_in o (s % 64))) (sym none) there in cc

-- a row that is reserved keeps its object
module _ (old new : Chunks) (s : ℕ) (turned : TurnsRow old new s (Some (reserved_in (row_at s old)))) where
  pub objects_stay : KeepsObjects old new
  objects_stay q =
      ap object_in (turned q)
      ∙ by_test (λ b. (s == q) ≡ b → object_in (cond b (Some (reserved_in (row_at s old))) (row_at q old)) ≡ object_at q old) (s == q) (λ _ same. ap (λ (n : ℕ). object_at n old) (same_number s q same)) (λ _ _. refl) refl

  pub one_reserved : TurnsReserved old new s true
  one_reserved q = ap is_reserved_in (turned q) ∙ by_test (λ b. is_reserved_in (cond b (Some (reserved_in (row_at s old))) (row_at q old)) ≡ cond b true (is_reserved_at q old)) (s == q) (λ _. refl) (λ _. refl)
