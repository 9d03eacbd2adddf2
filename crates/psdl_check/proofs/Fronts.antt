-- What stands in front of a declaration stands for the same in the whole text.
use Rattle.std.proofs.Common.{◌≡◌, ℕ, zero, suc, ◌+◌, ◌<◌, ◌≤◌, List, [], ◌∷◌, length, take, Option, Some, None, refl, sym, ap, ◌∙◌, add-one, arith, ⊎_elim}
use mathlib.Core.Path.{fun_ext}
use Rattle.std.specs.Prelude.{ℤ}
use Rattle.std.specs.Option.{option_and_then}
use Rattle.std.proofs.lemmas.Bool.{cases_lt}
use Rattle.std.proofs.lemmas.List.{get_or_append_left, get_or_push, get_or_past}
use Rattle.psdl_tree.specs.Trees.{Name, Expression}
use Rattle.type_layout.specs.Schemas.{given}
use Rattle.psdl_directory.specs.Declarations.{Path, Declaration}
use Rattle.psdl_directory.specs.Lookup.{as_is, at, meaning}
use Rattle.psdl_standings.specs.Standings.{Standing, Nothing, number_of, natural, standing, sight, size_by, standing_of, standings_after, standings}
use Rattle.psdl_standings.specs.Values.{assessed}
use Rattle.psdl_standings.proofs.Earlier.{as_many_before, one_behind, standing_is}
use Rattle.psdl_standings.proofs.Earlier.{as_many}
use Rattle.psdl_standings.proofs.Below.{meaning_less}

-- what the first so many declarations stand for
abbrev pub front : List Declaration → ℕ → List Standing
front all i = standings_after all [] (take i all)

abbrev stands : List Declaration → ℕ → Standing
stands all m = standing_of all (front all m) m (at all m).path (at all m).what

front_has : (all : List Declaration) (i m : ℕ) → m < i → i ≤ length all → standing (front all i) m ≡ stands all m
front_has all zero m lt le = absurd (omega (arith, lt))
front_has all (suc i) m lt le = ap (λ (n : ℕ). standing (front all n) m) (sym (add-one i)) ∙ ap (λ (l : List Standing). standing l m) (one_behind all i (omega (arith, le)))
    ∙ ⊎_elim
    (λ less. get_or_append_left (front all i) (stands all i ∷ []) Nothing m (omega (arith, less, as_many_before all i (omega (arith, le)))) ∙ front_has all i m less (omega (arith, le)))
    (λ more.
    let same : i ≡ m = omega (arith, more, lt) in
    get_or_push (front all i) (stands all i) Nothing m (omega (arith, same, as_many_before all i (omega (arith, le)))) ∙ ap (stands all) same)
    (cases_lt m i)

-- it stands for the same
pub front_same : (all : List Declaration) (i m : ℕ) → m < i → i < length all → standing (front all i) m ≡ standing (standings all) m
front_same all i m lt inside = front_has all i m lt (omega (arith, inside)) ∙ sym (standing_is all m (omega (arith, lt, inside)))

-- what does not stand in front stands for nothing yet
pub front_past : (all : List Declaration) (i m : ℕ) → i ≤ m → i < length all → standing (front all i) m ≡ Nothing
front_past all i m le inside = get_or_past (front all i) m Nothing (omega (arith, le, as_many_before all i inside))

-- what is not declared stands for nothing
pub nothing_past : (all : List Declaration) (m : ℕ) → length all ≤ m → standing (standings all) m ≡ Nothing
unfolding standings
nothing_past all m le = get_or_past (standings_after all [] all) m Nothing (omega (arith, le, as_many all [] all))

-- ---- names

-- names of a scope stand for the same in front as in the whole text
pub sight_same : (all : List Declaration) (i limit : ℕ) (path : Path) → i < length all → limit ≤ i → sight all (front all i) limit path ≡ sight all (standings all) limit path
sight_same all i limit path inside low = fun_ext each
  where
    each : (name : Name) → sight all (front all i) limit path name ≡ sight all (standings all) limit path name
    each name = by (meaning as_is all limit path name) (meaning_less as_is all limit path name)
      where
        by : (o : Option ℕ) → ((m : ℕ) → o ≡ Some m → m < limit) → given o Nothing (λ n. standing (front all i) n) ≡ given o Nothing (λ n. standing (standings all) n)
        by None h = refl
        by (Some m) h = front_same all i m (omega (arith, h m refl, low)) inside

-- ---- numbers

module _ (all : List Declaration) (i limit : ℕ) (path : Path) (inside : i < length all) (low : limit ≤ i + 1) (none : number_of (standing (standings all) i) ≡ None) where
  number_at : (m : ℕ) → m < limit → number_of (standing (front all i) m) ≡ number_of (standing (standings all) m)
  number_at m lt =
      ⊎_elim
      (λ less. ap number_of (front_same all i m less inside))
      (λ more.
      let same : i ≡ m = omega (arith, more, lt, low) in
      ap number_of (front_past all i m more inside) ∙ sym (ap (λ (n : ℕ). number_of (standing (standings all) n)) (sym same) ∙ none))
      (cases_lt m i)

  number_same : (name : Name) → number_of (sight all (front all i) limit path name) ≡ number_of (sight all (standings all) limit path name)
  number_same name = by (meaning as_is all limit path name) (meaning_less as_is all limit path name)
    where
      by : (o : Option ℕ) → ((m : ℕ) → o ≡ Some m → m < limit) → number_of (given o Nothing (λ n. standing (front all i) n)) ≡ number_of (given o Nothing (λ n. standing (standings all) n))
      by None h = refl
      by (Some m) h = number_at m (h m refl)

  -- the sizes that are told in front are those of the whole text
  pub size_same : (e : Expression) → size_by (sight all (front all i) limit path) e ≡ size_by (sight all (standings all) limit path) e
  size_same e =
      let same : (λ (name : Name). number_of (sight all (front all i) limit path name)) ≡ (λ (name : Name). number_of (sight all (standings all) limit path name)) = fun_ext number_same in
      ap (λ (f : Name → Option ℤ). option_and_then natural (assessed f (Some 64) e).value) same
