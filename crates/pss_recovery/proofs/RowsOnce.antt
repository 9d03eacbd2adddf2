-- Rows make one catalog, or one of them is the first that is wrong, and in one way.
use Rattle.std.proofs.Common.{ℕ, zero, suc, ◌≡◌, ◌⊎◌, inl, inr, ◌<◌, ◌≤◌, List, [], ◌∷◌, length, take, slice_index, None, Some, IsSome, refl, sym, ap, ◌∙◌, subst, arith}
use Rattle.std.specs.FinMap.{empty, insert}
use Rattle.std.specs.List.{slice_get}
use Rattle.std.proofs.lemmas.Bool.{false≢true}
use Rattle.std.proofs.lemmas.Option.{slice_get_within}
use Rattle.pss_base.specs.declared.damage.DamageKind.{DamageKind}
use Rattle.pss_base.specs.declared.put.Put.{Put}
use Rattle.type_layout.specs.declared.schema.Schema.{Schema}
use Rattle.type_layout.specs.Schemas.{home_at}
use Rattle.pss_catalog.specs.Catalog.{Catalog, Object, total}
use Rattle.pss_catalog.proofs.Forest.{Compared, compared}
use Rattle.storage_home.proofs.Places.{take_end}
use Rattle.pss_recovery.specs.Loading.{AreLoaded, IsFree, IsRow, IsRowDamage, IsStored, IsTotalDamage, IsWrongRow, RefersBelow, most_octets}
use Rattle.pss_recovery.proofs.Additions.{home_there}
use Rattle.pss_recovery.proofs.Rows.{one_object}

module _ (S : Schema) (next : ℕ) where
  -- ---- rows that are right

  pub loaded_once : (rows : List Put) (M N O : Catalog) → AreLoaded S next M rows N → AreLoaded S next M rows O → N ≡ O
  loaded_once [] M N O a b = a ∙ sym b
  loaded_once (row ∷ rows) M N O a b =
      let same : b.0 ≡ a.0 = one_object S row b.0 a.0 b.1.stored a.1.stored in
      loaded_once rows (insert M row.serial a.0) N O a.2 (subst (λ (x : Object). AreLoaded S next (insert M row.serial x) rows O) same b.2)

  -- the rows in front of one are right, and it too
  record IsRightAt (M : Catalog) (rows : List Put) (i : ℕ) (row : Put) : Type 0 where
    before : Catalog
    loaded : AreLoaded S next M (take i rows) before
    object : Object
    is_row : IsRow S next before row object

  right_at : (rows : List Put) (M N : Catalog) (i j : ℕ) (row : Put) → i < j → slice_get rows i ≡ Some row → AreLoaded S next M (take j rows) N → IsRightAt M rows i row
  right_at [] M N i j row less there loaded = absurd (let no : None ≡ Some row = there in cc)
  right_at (r ∷ rows) M N i zero row less there loaded = absurd (omega (arith, less))
  right_at (r ∷ rows) M N zero (suc j) row less there loaded =
      let same : r ≡ row = (cc) in
      record { before = M; loaded = refl; object = loaded.0; is_row = subst (λ (p : Put). IsRow S next M p loaded.0) same loaded.1 }
  right_at (r ∷ rows) M N (suc i) (suc j) row less there loaded =
      let rest = right_at rows (insert M r.serial loaded.0) N i j row (omega (arith, less)) there loaded.2 in
      record { before = rest.before; loaded = (loaded.0, loaded.1, rest.loaded); object = rest.object; is_row = rest.is_row }

  -- ---- a row that is wrong

  module _ (M : Catalog) (row : Put) where
    homeless : (object : Object) → IsStored S row object → home_at S (record { 0 = row.home }) ≡ None → ⊥
    homeless object stored none = false≢true (subst IsSome none (home_there S row object stored))

    not_right : (object : Object) (place at : ℕ) (k : DamageKind) → IsRow S next M row object → IsWrongRow S next M row place at k → ⊥
    not_right object place at k is (inl w) = homeless object is.stored w.none
    not_right object place at k is (inr (inl w)) = w.none object is.stored
    not_right object place at k is (inr (inr (inl w))) = w.above (subst (RefersBelow next) (one_object S row object w.object is.stored w.stored) is.refers)
    not_right object place at k is (inr (inr (inr w))) = w.held (subst (IsFree S M) (one_object S row object w.object is.stored w.stored) is.free)

    above_or_below : (x y : Object) → IsStored S row x → IsStored S row y → (RefersBelow next x → ⊥) → RefersBelow next y → ⊥
    above_or_below x y a b above below = above (subst (RefersBelow next) (one_object S row y x b a) below)

    wrong_once : (place at other : ℕ) (k l : DamageKind) → IsWrongRow S next M row place at k → IsWrongRow S next M row place other l → (at ≡ other) × (k ≡ l)
    wrong_once place at other k l (inl a) (inl b) = (a.place_ ∙ sym b.place_, a.kind_ ∙ sym b.kind_)
    wrong_once place at other k l (inl a) (inr (inl b)) = absurd (false≢true (subst IsSome a.none b.home))
    wrong_once place at other k l (inl a) (inr (inr (inl b))) = absurd (homeless b.object b.stored a.none)
    wrong_once place at other k l (inl a) (inr (inr (inr b))) = absurd (homeless b.object b.stored a.none)
    wrong_once place at other k l (inr (inl a)) (inl b) = absurd (false≢true (subst IsSome b.none a.home))
    wrong_once place at other k l (inr (inl a)) (inr (inl b)) = (a.place_ ∙ sym b.place_, a.kind_ ∙ sym b.kind_)
    wrong_once place at other k l (inr (inl a)) (inr (inr (inl b))) = absurd (a.none b.object b.stored)
    wrong_once place at other k l (inr (inl a)) (inr (inr (inr b))) = absurd (a.none b.object b.stored)
    wrong_once place at other k l (inr (inr (inl a))) (inl b) = absurd (homeless a.object a.stored b.none)
    wrong_once place at other k l (inr (inr (inl a))) (inr (inl b)) = absurd (b.none a.object a.stored)
    wrong_once place at other k l (inr (inr (inl a))) (inr (inr (inl b))) = (a.place_ ∙ sym b.place_, a.kind_ ∙ sym b.kind_)
    wrong_once place at other k l (inr (inr (inl a))) (inr (inr (inr b))) = absurd (above_or_below a.object b.object a.stored b.stored a.above b.refers)
    wrong_once place at other k l (inr (inr (inr a))) (inl b) = absurd (homeless a.object a.stored b.none)
    wrong_once place at other k l (inr (inr (inr a))) (inr (inl b)) = absurd (b.none a.object a.stored)
    wrong_once place at other k l (inr (inr (inr a))) (inr (inr (inl b))) = absurd (above_or_below b.object a.object b.stored a.stored b.above a.refers)
    wrong_once place at other k l (inr (inr (inr a))) (inr (inr (inr b))) = (a.place_ ∙ sym b.place_, a.kind_ ∙ sym b.kind_)

  -- ---- the first row that is wrong

  module _ (rows : List Put) (places : List ℕ) where
    -- it is not among rows that are right
    not_before : (at : ℕ) (k : DamageKind) (d : IsRowDamage S next rows places at k) (j : ℕ) (N : Catalog) → d.index < j → AreLoaded S next empty (take j rows) N → ⊥
    not_before at k d j N less loaded =
        let r = right_at rows empty N d.index j d.row less d.there loaded in
        let same : r.before ≡ d.before = loaded_once (take d.index rows) empty r.before d.before r.loaded d.loaded in
        not_right d.before d.row r.object (slice_index places d.index) at k (subst (λ (K : Catalog). IsRow S next K d.row r.object) same r.is_row) d.wrong

    pub not_loaded : (at : ℕ) (k : DamageKind) → IsRowDamage S next rows places at k → (N : Catalog) → AreLoaded S next empty rows N → ⊥
    not_loaded at k d N loaded =
        not_before at k d (length rows) N (slice_get_within rows d.index d.row d.there) (subst (λ (l : List Put). AreLoaded S next empty l N) (sym (take_end rows (length rows) (omega arith))) loaded)

    pub damage_once : (at other : ℕ) (k l : DamageKind) → IsRowDamage S next rows places at k → IsRowDamage S next rows places other l → (at ≡ other) × (k ≡ l)
    damage_once at other k l d e = by (compared d.index e.index)
      where
        by : Compared d.index e.index → (at ≡ other) × (k ≡ l)
        by (inl less) = absurd (not_before at k d e.index e.before less e.loaded)
        by (inr (inr less)) = absurd (not_before other l e d.index d.before less d.loaded)
        by (inr (inl same)) =
            let there : Some d.row ≡ Some e.row = sym d.there ∙ ap (λ (n : ℕ). slice_get rows n) same ∙ e.there in
            let row : e.row ≡ d.row = (cc) in
            let loaded : AreLoaded S next empty (take d.index rows) e.before = subst (λ (n : ℕ). AreLoaded S next empty (take n rows) e.before) (sym same) e.loaded in
            let before : e.before ≡ d.before = loaded_once (take d.index rows) empty e.before d.before loaded d.loaded in
            let at_place : IsWrongRow S next e.before e.row (slice_index places d.index) other l = subst (λ (n : ℕ). IsWrongRow S next e.before e.row (slice_index places n) other l) (sym same) e.wrong in
            let of_row : IsWrongRow S next e.before d.row (slice_index places d.index) other l = subst (λ (p : Put). IsWrongRow S next e.before p (slice_index places d.index) other l) row at_place in
            wrong_once d.before d.row (slice_index places d.index) at other k l d.wrong (subst (λ (K : Catalog). IsWrongRow S next K d.row (slice_index places d.index) other l) before of_row)

    -- of rows and their sum one thing is wrong
    abbrev pub AreWrong : ℕ → DamageKind → Type 0
    AreWrong at k = IsRowDamage S next rows places at k ⊎ IsTotalDamage S next rows at k

    pub rows_once : (at other : ℕ) (k l : DamageKind) → AreWrong at k → AreWrong other l → (at ≡ other) × (k ≡ l)
    rows_once at other k l (inl a) (inl b) = damage_once at other k l a b
    rows_once at other k l (inl a) (inr b) = absurd (not_loaded at k a b.all b.loaded)
    rows_once at other k l (inr a) (inl b) = absurd (not_loaded other l b a.all a.loaded)
    rows_once at other k l (inr a) (inr b) = (a.place_ ∙ sym b.place_, a.kind_ ∙ sym b.kind_)

    pub not_within : (at : ℕ) (k : DamageKind) → AreWrong at k → (N : Catalog) → AreLoaded S next empty rows N → total S N ≤ most_octets → ⊥
    not_within at k (inl a) N loaded bounded = not_loaded at k a N loaded
    not_within at k (inr a) N loaded bounded = let same = ap (total S) (loaded_once rows empty a.all N a.loaded loaded) in omega (arith, same, a.over, bounded)
