-- The keys of a home with marks of what its base has.
use Rattle.std.proofs.Common.{◌≡◌, ℕ, List, [], ◌∷◌, Bool, Option, Some, length, map, refl, sym, ap, ◌∙◌, subst}
use Rattle.std.specs.List.{list_any}
use Rattle.type_layout.specs.Schemas.{given}
use Rattle.psdl_directory.specs.Declarations.{Declaration}
use Rattle.psdl_lineage.specs.Descent.{Listed, same_listed, home_keys}
use Rattle.psdl_check.specs.declared.home_keys.HeldKey.{HeldKey}
use Rattle.psdl_check.specs.declared.key_rows.KeyIds.{KeyIds}
use Rattle.psdl_check.specs.declared.key_rows.OwnKey.{OwnKey}
use Rattle.psdl_check.specs.inner.Gathered.{FitsIds}
use Rattle.psdl_check.specs.inner.HeldKeys.{AreMarked, AreHeld, held_by, held_views}
use Rattle.psdl_check.specs.inner.KeyIds.{id_of, own_view, own_views, HaveIds}

module _ (ids : KeyIds) (marks : List Bool) (listed : List Listed) (fits : FitsIds ids (length marks)) (marked : AreMarked ids marks listed) where
  keys_back : (ks : List OwnKey) → map (λ (h : HeldKey). h.key) (map (held_by marks) ks) ≡ ks
  keys_back [] = refl
  keys_back (k ∷ ks) = ap (λ l. k ∷ l) (keys_back ks)

  views_back : (ks : List OwnKey) → held_views (map (held_by marks) ks) ≡ own_views ks
  views_back [] = refl
  views_back (k ∷ ks) = ap (λ l. own_view k ∷ l) (views_back ks)

  based : (ks : List OwnKey) → HaveIds ids ks → map (λ (h : HeldKey). h.of_base) (map (held_by marks) ks) ≡ map (λ l. list_any (same_listed l) listed) (held_views (map (held_by marks) ks))
  based [] have = refl
  based (k ∷ ks) have =
      let first : Some k.id ≡ id_of ids (own_view k) = cc in
      let rest : HaveIds ids ks = cc in
      ap (λ b. b ∷ map (λ (h : HeldKey). h.of_base) (map (held_by marks) ks)) (marked (own_view k) k.id (sym first) (fits (own_view k) k.id (sym first)))
      ∙ ap (λ bs. list_any (same_listed (own_view k)) listed ∷ bs) (based ks rest)

-- all keys of a home
pub are_held : (all : List Declaration) (ids : KeyIds) (marks : List Bool) (home : ℕ) (base : Option ℕ) (ks : List OwnKey) (held : List HeldKey) → held ≡ map (held_by marks) ks → own_views ks ≡ home_keys all home → HaveIds ids ks
    → FitsIds ids (length marks) → AreMarked ids marks (given base [] (home_keys all)) → AreHeld all ids home base held
are_held all ids marks home base ks held is views have fits marked =
    subst (AreHeld all ids home base) (sym is)
    (record {
      views = views_back ids marks (given base [] (home_keys all)) fits marked ks ∙ views;
      numbered = subst (HaveIds ids) (sym (keys_back ids marks (given base [] (home_keys all)) fits marked ks)) have;
      of_base = based ids marks (given base [] (home_keys all)) fits marked ks have;
    })
