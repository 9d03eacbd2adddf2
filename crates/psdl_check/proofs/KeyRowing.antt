-- Rows of keys, one more at a time.
use Rattle.std.proofs.Common.{◌≡◌, ℕ, zero, suc, ◌+◌, ◌<◌, ◌≤◌, List, [], ◌∷◌, ◌++◌, length, refl, sym, ap, ◌∙◌, subst, arith, length-append, ⊎_elim}
use Rattle.std.proofs.Math.Nat.{eq-or-lt_of_le}
use Rattle.std.specs.declared.vec.Vec.{Vec}
use Rattle.psdl_directory.specs.Declarations.{Declaration}
use Rattle.psdl_members.specs.declared.list_kind.ListKind.TheVariants as kinds
use Rattle.psdl_members.specs.inner.Listing.{own_lists}
use Rattle.psdl_check.specs.declared.key_rows.KeyIds.{KeyIds}
use Rattle.psdl_check.specs.declared.key_rows.OwnKey.{OwnKey}
use Rattle.psdl_check.specs.inner.KeyIds.{KeepsIds, own_views, HaveIds}
use Rattle.psdl_check.specs.inner.KeyRowed.{row_in, AreRowsTo}
use Rattle.psdl_check.proofs.KeyIding.{have_kept}

-- two numbers, in order
pub by_test : {P : Type 0} (m n : ℕ) → (m ≤ n → P) → (n < m → P) → P
by_test zero n f g = f (omega arith)
by_test (suc m) zero f g = g (omega arith)
by_test (suc m) (suc n) f g = by_test m n (λ le. f (omega (arith, le))) (λ lt. g (omega (arith, lt)))

module _ {Z : Type 0} where
  row_before : (rows : List (Vec OwnKey Z)) (row : Vec OwnKey Z) (n : ℕ) → n < length rows → row_in (rows ++ row ∷ []) n ≡ row_in rows n
  row_before [] row n lt = absurd (omega (arith, lt))
  row_before (r ∷ rows) row zero lt = refl
  row_before (r ∷ rows) row (suc n) lt = row_before rows row n (omega (arith, lt))

  row_last : (rows : List (Vec OwnKey Z)) (row : Vec OwnKey Z) → row_in (rows ++ row ∷ []) (length rows) ≡ row.items
  row_last [] row = refl
  row_last (r ∷ rows) row = row_last rows row

  pub row_past : (rows : List (Vec OwnKey Z)) (n : ℕ) → length rows ≤ n → row_in rows n ≡ []
  row_past [] n le = refl
  row_past (r ∷ rows) zero le = absurd (omega (arith, le))
  row_past (r ∷ rows) (suc n) le = row_past rows n (omega (arith, le))

  pub no_rows : (all : List Declaration) (ids : KeyIds) (rows : List (Vec OwnKey Z)) → rows ≡ [] → AreRowsTo all ids rows 0
  no_rows all ids rows e = subst (λ (l : List (Vec OwnKey Z)). AreRowsTo all ids l 0) (sym e) (record { sized = refl; views = λ n lt. absurd (omega (arith, lt)); numbered = λ n. refl })

  module _ (all : List Declaration) (old new : KeyIds) (rows more : List (Vec OwnKey Z)) (row : Vec OwnKey Z) (i : ℕ) (kept : KeepsIds old new) (push : more ≡ rows ++ row ∷ [])
      (views : own_views row.items ≡ own_lists kinds.Key all i) (numbered : HaveIds new row.items) (so_far : AreRowsTo all old rows i) where
    at : (n : ℕ) → (P : List OwnKey → Type 0) → (n < i → P (row_in rows n)) → (n ≡ i → P row.items) → (i < n → P []) → P (row_in more n)
    at n P f g h =
        subst (λ (l : List (Vec OwnKey Z)). P (row_in l n)) (sym push)
        (by_test n i within beyond)
      where
        within : n ≤ i → P (row_in (rows ++ row ∷ []) n)
        within le = ⊎_elim
            (λ e. subst P (sym (ap (row_in (rows ++ row ∷ [])) (e ∙ sym so_far.sized) ∙ row_last rows row)) (g e))
            (λ lt. subst P (sym (row_before rows row n (omega (arith, lt, so_far.sized)))) (f lt))
            (eq-or-lt_of_le le)

        beyond : i < n → P (row_in (rows ++ row ∷ []) n)
        beyond gt = subst P (sym (row_past (rows ++ row ∷ []) n (omega (arith, gt, so_far.sized, length-append rows (row ∷ []))))) (h gt)

    pub one_row_more : AreRowsTo all new more (i + 1)
    one_row_more = record {
      sized = ap length push ∙ length-append rows (row ∷ []) ∙ ap (λ n. n + 1) so_far.sized;
      views = λ n lt.
          at n (λ l. own_views l ≡ own_lists kinds.Key all n) (λ less. so_far.views n less) (λ e. views ∙ ap (own_lists kinds.Key all) (sym e)) (λ gt. absurd (omega (arith, gt, lt)));
      numbered = λ n. at n (HaveIds new) (λ less. have_kept old new (row_in rows n) kept (so_far.numbered n)) (λ e. numbered) (λ gt. refl);
    }
