-- What is noted of expressions is what is wrong with the names and bounds in them.
use Rattle.std.proofs.Common.{◌≡◌, ℕ, List, [], ◌∷◌, ◌++◌, get_or, map, Bool, Option, Some, None, refl, sym, ap, ◌∙◌}
use mathlib.Core.Path.{fun_ext}
use Rattle.std.specs.Prelude.{ℤ, not, is_some}
use Rattle.std.specs.List.{flat_map}
use Rattle.std.specs.Option.{option_and_then}
use Rattle.std.proofs.lemmas.Grind.{flat_map-append}
use Rattle.std.proofs.lemmas.List.{map-append}
use Rattle.std.proofs.Math.ListN.{get_or-map}
use Rattle.psdl_tree.specs.Trees.{Name, Primary, Expression}
use Rattle.type_layout.specs.Schemas.{given}
use Rattle.type_layout.specs.Types.{PlainType}
use Rattle.psdl_directory.specs.declared.fault.CheckFault.{CheckFault}
use Rattle.psdl_directory.specs.declared.fault.CheckKind.{CheckKind}
use Rattle.psdl_directory.specs.declared.fault.CheckKind.TheVariants.{Unknown, WrongCase, WrongKind}
use Rattle.psdl_directory.specs.Fault.{fault, fault_if}
use Rattle.psdl_directory.specs.Lookup.{lower, meaning, place_of}
use Rattle.psdl_directory.specs.Noting.{noting}
use Rattle.psdl_directory.proofs.Noting.{noting-append}
use Rattle.psdl_standings.specs.declared.body_faults.BodyFaults.{BodyFaults}
use Rattle.psdl_standings.specs.declared.need.Need.TheVariants as needs
use Rattle.psdl_standings.specs.declared.numbered_standing.NumberedStanding.{NumberedStanding}
use Rattle.psdl_standings.specs.declared.numbered_standing.NumberedStanding.TheVariants as tellings
use Rattle.psdl_standings.specs.Expressions.{operands, named_by, text_of}
use Rattle.psdl_standings.specs.Naming.{of_use, of_texts}
use Rattle.psdl_standings.specs.Ranges.{of_bound}
use Rattle.psdl_standings.specs.Standings.{Standing, Nothing, number_of, standing, sight, assessed_by, natural, size_by}
use Rattle.psdl_standings.specs.Uses.{use_of, in_expression, bounds_of, is_number}
use Rattle.psdl_standings.specs.Values.{Assessed, assessed}
use Rattle.psdl_standings.specs.inner.Sights.{Scene, meant_at, unknown_by, means_alike, value_at, value_faults, value_owns, of_own}
use Rattle.psdl_standings.specs.inner.Tellings.{stand, value_told, is_number_told}
use Rattle.psdl_standings.specs.inner.Walks.{text_fault, noted_by, noted, bounded, walked}
use Rattle.psdl_standings.proofs.Operands.{append_none}

-- ---- what is told

abbrev pub done_by : List PlainType → List NumberedStanding → List Standing
done_by types told = map (stand types) told

value_stands : (types : List PlainType) (t : NumberedStanding) → number_of (stand types t) ≡ value_told t
value_stands types tellings.Nothing = refl
value_stands types (tellings.OfType type) = refl
value_stands types (tellings.OfNumber type value) = refl

number_stands : (types : List PlainType) (t : NumberedStanding) → is_number (stand types t) ≡ is_number_told t
number_stands types tellings.Nothing = refl
number_stands types (tellings.OfType type) = refl
number_stands types (tellings.OfNumber type value) = refl

pub stands_at : (types : List PlainType) (told : List NumberedStanding) (n : ℕ) → standing (done_by types told) n ≡ stand types (get_or told n tellings.Nothing)
stands_at types told n = get_or-map (stand types) told n tellings.Nothing

module _ (types : List PlainType) (s : Scene) where
  value_linked : (name : Name) → number_of (sight s.all (done_by types s.told) s.limit s.path name) ≡ value_at s name
  value_linked name = by (meant_at s name)
    where
      by : (o : Option ℕ) → number_of (given o Nothing (λ n. standing (done_by types s.told) n)) ≡ given o None (λ n. value_told (get_or s.told n tellings.Nothing))
      by None = refl
      by (Some n) = ap number_of (stands_at types s.told n) ∙ value_stands types (get_or s.told n tellings.Nothing)

  alike_linked : (o : Option ℕ) → given o Unknown (λ _. WrongCase) ≡ unknown_by (is_some o)
  alike_linked None = refl
  alike_linked (Some n) = refl

  use_linked : (name : Name) → of_use s.all (done_by types s.told) s.path (use_of s.limit needs.OfNumber name) ≡ value_faults s name
  use_linked name = by (meant_at s name)
    where
      by : (o : Option ℕ) → given o (fault (given (meaning lower s.all s.limit s.path name) Unknown (λ _. WrongCase)) (place_of name) ∷ []) (λ j. fault_if (not (is_number (standing (done_by types s.told) j))) WrongKind (place_of name))
          ≡ given o (fault (unknown_by (means_alike s name)) (place_of name) ∷ []) (λ n. fault_if (not (is_number_told (get_or s.told n tellings.Nothing))) WrongKind (place_of name))
      by None = ap (λ (k : CheckKind). fault k (place_of name) ∷ []) (alike_linked (meaning lower s.all s.limit s.path name))
      by (Some n) =
          ap (λ (b : Bool). fault_if (not b) WrongKind (place_of name))
          (ap is_number (stands_at types s.told n) ∙ number_stands types (get_or s.told n tellings.Nothing))

  pub assessed_linked : (width : Option ℕ) (e : Expression) → assessed_by (sight s.all (done_by types s.told) s.limit s.path) width e ≡ assessed (value_at s) width e
  assessed_linked width e = ap (λ (env : Name → Option ℤ). assessed env width e) (fun_ext value_linked)

  pub size_linked : (e : Expression) → option_and_then natural (assessed (value_at s) (Some 64) e).value ≡ size_by (sight s.all (done_by types s.told) s.limit s.path) e
  size_linked e = sym (ap (λ (a : Assessed). option_and_then natural a.value) (assessed_linked (Some 64) e))

  -- ---- operands

  names_linked : (names : List Name) → flat_map (value_faults s) names ≡ flat_map (of_use s.all (done_by types s.told) s.path) (map (use_of s.limit needs.OfNumber) names)
  names_linked [] = refl
  names_linked (x ∷ xs) = rw (use_linked x, names_linked xs) refl

  owns_linked : (names : List Name) → flat_map (value_owns s) names ≡ flat_map (of_own s.all s.own s.path) (map (use_of s.limit needs.OfNumber) names)
  owns_linked [] = refl
  owns_linked (x ∷ xs) = ap (λ (l : List CheckFault). value_owns s x ++ l) (owns_linked xs)

  noted_parts : (f : BodyFaults) (ps : List Primary) → noted s f ps ≡ record { names = noting f.names (flat_map (value_faults s) (flat_map named_by ps)); strings = noting f.strings (map text_fault (flat_map text_of ps)); values = f.values; selves = noting f.selves (flat_map (value_owns s) (flat_map named_by ps)) }
  noted_parts f [] = refl
  noted_parts f (p ∷ ps) =
      noted_parts (noted_by s f p) ps
      ∙ rw (flat_map-append (value_faults s) (named_by p) (flat_map named_by ps), noting-append f.names (flat_map (value_faults s) (named_by p)) (flat_map (value_faults s) (flat_map named_by ps)), map-append text_fault (text_of p) (flat_map text_of ps), noting-append f.strings (map text_fault (text_of p)) (map text_fault (flat_map text_of ps)), flat_map-append (value_owns s) (named_by p) (flat_map named_by ps), noting-append f.selves (flat_map (value_owns s) (named_by p)) (flat_map (value_owns s) (flat_map named_by ps))) refl

  pub texts_linked : (f : BodyFaults) (e : Expression) → noted s f (operands e) ≡ record { names = noting f.names (flat_map (of_use s.all (done_by types s.told) s.path) (in_expression s.limit e)); strings = noting f.strings (of_texts e); values = f.values; selves = noting f.selves (flat_map (of_own s.all s.own s.path) (in_expression s.limit e)) }
  texts_linked f e = rw (noted_parts f (operands e), names_linked (flat_map named_by (operands e)), owns_linked (flat_map named_by (operands e))) refl

  -- ---- a bound

  pub bound_linked : (most : ℕ) (f : BodyFaults) (e : Expression) → bounded s most f e ≡ walked s.all (done_by types s.told) s.path s.own f (in_expression s.limit e) (bounds_of s.limit most (e ∷ []))
  bound_linked most f e =
      rw (
        noted_parts f (operands e),
        names_linked (flat_map named_by (operands e)),
        owns_linked (flat_map named_by (operands e)),
        append_none (of_texts e),
        append_none (of_bound s.all (done_by types s.told) s.path (record { limit = s.limit; most = most; value = e })),
        assessed_linked (Some 64) e,
      ) refl
