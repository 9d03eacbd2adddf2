-- Slots in cells, and behind them in a map.
use Rattle.std.proofs.Common.{ℕ, zero, suc, ◌≡◌, ◌==◌, ◌+◌, ◌<◌, ◌≤◌, Bool, true, false, cond, List, [], ◌∷◌, ◌++◌, length, get_or, None, Some, refl, sym, ap, ◌∙◌, arith}
use Rattle.std.proofs.lemmas.Bool.{eq-eqb, eqb-true}
use Rattle.std.specs.declared.option.Option.{Option}
use Rattle.page_store.specs.Placed.{slot_under}
use Rattle.page_store.specs.inner.SlotTables.{first_of, in_cells}

apart : (a b : ℕ) → (a ≡ b → ⊥) → (a == b) ≡ false
apart a b not = by (a == b) refl
  where
    by : (r : Bool) → (a == b) ≡ r → r ≡ false
    by true is = absurd (not (eqb-true a b is))
    by false is = refl

-- no cell stands for a serial below the first one
below : (q at : ℕ) (cells : List (Option ℕ)) (es : List (ℕ × ℕ)) → q < at → slot_under q (in_cells at cells ++ es) ≡ slot_under q es
below q at [] es lt = refl
below q at (None ∷ cells) es lt = below q (suc at) cells es (omega (arith, lt))
below q at (Some slot ∷ cells) es lt =
    ap (λ b. cond b (Some slot) (slot_under q (in_cells (suc at) cells ++ es))) (apart q at (λ is. omega (arith, is, lt))) ∙ below q (suc at) cells es (omega (arith, lt))

under_cell : (cells : List (Option ℕ)) (es : List (ℕ × ℕ)) (q at i : ℕ) → q ≡ at + i → slot_under q (in_cells at cells ++ es) ≡ first_of (get_or cells i None) (slot_under q es)
under_cell [] es q at i is = refl
under_cell (None ∷ cells) es q at zero is = below q (suc at) cells es (omega (arith, is))
under_cell (None ∷ cells) es q at (suc i) is = under_cell cells es q (suc at) i (omega (arith, is))
under_cell (Some slot ∷ cells) es q at zero is = ap (λ b. cond b (Some slot) (slot_under q (in_cells (suc at) cells ++ es))) (eq-eqb q at (omega (arith, is)))
under_cell (Some slot ∷ cells) es q at (suc i) is =
    ap (λ b. cond b (Some slot) (slot_under q (in_cells (suc at) cells ++ es))) (apart q at (λ e. omega (arith, is, e))) ∙ under_cell cells es q (suc at) i (omega (arith, is))

-- what is found: the slot in the cell of a serial, or else that in the map
pub under : (cells : List (Option ℕ)) (es : List (ℕ × ℕ)) (q : ℕ) → slot_under q (in_cells 0 cells ++ es) ≡ first_of (get_or cells q None) (slot_under q es)
under cells es q = under_cell cells es q 0 q (omega arith)

-- no cell stands behind the last one
pub no_cell : (cells : List (Option ℕ)) (i : ℕ) → length cells ≤ i → get_or cells i None ≡ None
no_cell [] i le = refl
no_cell (cell ∷ cells) zero le = absurd (omega (arith, le))
no_cell (cell ∷ cells) (suc i) le = no_cell cells i (omega (arith, le))

-- an object is taken out of both
pub taken_of_both : (cells new : List (Option ℕ)) (es rest : List (ℕ × ℕ)) (serial : ℕ)
    → ((q : ℕ) → get_or new q None ≡ cond (serial == q) None (get_or cells q None)) → ((q : ℕ) → slot_under q rest ≡ cond (serial == q) None (slot_under q es))
    → (q : ℕ) → slot_under q (in_cells 0 new ++ rest) ≡ cond (serial == q) None (slot_under q (in_cells 0 cells ++ es))
taken_of_both cells new es rest serial of_cells of_map q =
    under new rest q ∙ ap (λ (c : Option ℕ). first_of c (slot_under q rest)) (of_cells q) ∙ ap (first_of (cond (serial == q) None (get_or cells q None))) (of_map q)
    ∙ by (serial == q) (get_or cells q None) (slot_under q es) ∙ ap (cond (serial == q) None) (sym (under cells es q))
  where
    by : (b : Bool) (c o : Option ℕ) → first_of (cond b None c) (cond b None o) ≡ cond b None (first_of c o)
    by true c o = refl
    by false c o = refl

-- an object is put into its cell
pub put_in_cell : (cells new : List (Option ℕ)) (es : List (ℕ × ℕ)) (serial slot : ℕ) → ((q : ℕ) → get_or new q None ≡ cond (serial == q) (Some slot) (get_or cells q None))
    → (q : ℕ) → slot_under q (in_cells 0 new ++ es) ≡ cond (serial == q) (Some slot) (slot_under q (in_cells 0 cells ++ es))
put_in_cell cells new es serial slot of_cells q =
    under new es q ∙ ap (λ (c : Option ℕ). first_of c (slot_under q es)) (of_cells q) ∙ by (serial == q) (get_or cells q None) (slot_under q es) ∙ ap (cond (serial == q) (Some slot)) (sym (under cells es q))
  where
    by : (b : Bool) (c o : Option ℕ) → first_of (cond b (Some slot) c) o ≡ cond b (Some slot) (first_of c o)
    by true c o = refl
    by false c o = refl

-- an object that has no cell is put into the map
pub put_in_map : (cells : List (Option ℕ)) (es new : List (ℕ × ℕ)) (serial slot : ℕ) → length cells ≤ serial → ((q : ℕ) → slot_under q new ≡ cond (serial == q) (Some slot) (slot_under q es))
    → (q : ℕ) → slot_under q (in_cells 0 cells ++ new) ≡ cond (serial == q) (Some slot) (slot_under q (in_cells 0 cells ++ es))
put_in_map cells es new serial slot le of_map q =
    under cells new q ∙ ap (first_of (get_or cells q None)) (of_map q) ∙ by (serial == q) refl ∙ ap (cond (serial == q) (Some slot)) (sym (under cells es q))
  where
    by : (b : Bool) → (serial == q) ≡ b → first_of (get_or cells q None) (cond b (Some slot) (slot_under q es)) ≡ cond b (Some slot) (first_of (get_or cells q None) (slot_under q es))
    by true is = ap (λ (c : Option ℕ). first_of c (Some slot)) (no_cell cells q (omega (arith, le, eqb-true serial q is)))
    by false is = refl

-- cells that find the same, with the same map
pub same_cells : (cells new : List (Option ℕ)) (es : List (ℕ × ℕ)) → ((q : ℕ) → get_or new q None ≡ get_or cells q None) → (q : ℕ) → slot_under q (in_cells 0 new ++ es) ≡ slot_under q (in_cells 0 cells ++ es)
same_cells cells new es same q = under new es q ∙ ap (λ (c : Option ℕ). first_of c (slot_under q es)) (same q) ∙ sym (under cells es q)
