-- What a provision is called.
use Rattle.std.proofs.Common.{ℕ, ◌≡◌, List, [], ◌∷◌, ◌++◌, Option, Some, Bool, false, map, sym, ap, ◌∙◌, append_assoc}
use Rattle.std.specs.List.{slice_get}
use Rattle.std.specs.Option.{option_map, unwrap_or}
use Rattle.std.specs.Str.{bytes_eq}
use Rattle.std.proofs.lemmas.Option.{slice_get-map}
use Rattle.type_layout.specs.declared.provided.Provision.{Provision}
use Rattle.type_layout.specs.Scopes.{Provided, name_at, provided_in, full_name}
use Rattle.type_layout.proofs.Ending.{apart, one_end_twice}

module _ (names : List (List ℕ)) (ps : List Provision) (n : ℕ) (p : Provision) (word : List ℕ) where
  abbrev is_it : Option Provided → Bool
  is_it o = unwrap_or (option_map (λ p. bytes_eq word (full_name p)) o) false

  -- by its catalog, the point and its name
  told : slice_get ps n ≡ Some p → is_it (slice_get (map (provided_in names) ps) n) ≡ bytes_eq word (name_at names p.catalog ++ (46 ∷ []) ++ p.name)
  told there = ap is_it (slice_get-map (provided_in names) ps n ∙ ap (option_map (provided_in names)) there) ∙ ap (bytes_eq word) (sym (append_assoc (name_at names p.catalog) (46 ∷ []) p.name))

  pub by_catalog : (front : List ℕ) → slice_get ps n ≡ Some p → word ≡ front ++ (46 ∷ []) ++ p.name → bytes_eq front (name_at names p.catalog) ≡ is_it (slice_get (map (provided_in names) ps) n)
  by_catalog front there is =
      sym (told there ∙ ap (λ (w : List ℕ). bytes_eq w (name_at names p.catalog ++ (46 ∷ []) ++ p.name)) is ∙ one_end_twice front (name_at names p.catalog) (46 ∷ []) p.name)

  pub otherwise : slice_get ps n ≡ Some p → ((front : List ℕ) → word ≡ front ++ (46 ∷ []) ++ p.name → ⊥) → false ≡ is_it (slice_get (map (provided_in names) ps) n)
  otherwise there none = sym (told there ∙ apart word (name_at names p.catalog) (46 ∷ []) p.name none)
