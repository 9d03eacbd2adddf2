-- What declarations spell, declaration by declaration.
use Rattle.std.proofs.Common.{◌≡◌, ℕ, zero, suc, ◌+◌, ◌-◌, ◌<◌, ◌≤◌, List, length, map, Bool, true, false, nat_lt, ltb-true, ltb-false, Option, None, slice_index_or, refl, sym, ap, ◌∙◌, arith}
use Rattle.std.specs.Prelude.{option_map}
use Rattle.std.proofs.lemmas.List.{get_or_past}
use Rattle.psdl_tree.specs.Trees.{Expression, TypeSpec}
use Rattle.type_layout.specs.Schemas.{given}
use Rattle.type_layout.specs.Types.{PlainType, Char}
use Rattle.psdl_directory.specs.Declarations.{Path, What, IsAlias, Declaration}
use Rattle.psdl_directory.specs.Lookup.{at}
use Rattle.psdl_standings.specs.declared.numbered_standing.NumberedStanding.{NumberedStanding}
use Rattle.psdl_standings.specs.declared.numbered_standing.NumberedStanding.TheVariants as tellings
use Rattle.psdl_standings.specs.Depths.{is_deep}
use Rattle.psdl_standings.specs.Nesting.{nesting, spec_nesting, nesting_of}
use Rattle.psdl_standings.specs.Standings.{Standing}
use Rattle.psdl_standings.specs.Turns.{before_of, spec_of, Follows, AreInTurn}
use Rattle.psdl_standings.specs.inner.Levels.{depth, name_depth, raised, alias_depth}
use Rattle.psdl_standings.specs.inner.Measured.{cut, IsLevelled}
use Rattle.psdl_standings.specs.inner.Tellings.{stand, type_told}
use Rattle.psdl_standings.specs.inner.TypeNodes.{type_at}
use Rattle.psdl_standings.proofs.Cutting.{alias_spelled, deep_cut}
use Rattle.psdl_standings.proofs.InTurn.{behind}

-- ---- from each declarator to the next

abbrev of_spec : List Declaration → List ℕ → ℕ → Path → Option TypeSpec → Option ℕ
of_spec all kept limit path s = option_map cut (given s None (spec_nesting (name_depth all kept None limit path)))

pub depth_behind : (all : List Declaration) (kept : List ℕ) (n before : ℕ) (last : Option ℕ) → AreInTurn all → n < length all → before_of (at all n).what ≡ suc before → ((m : ℕ) → n ≡ m + 1 → last ≡ alias_depth all kept m) → last ≡ alias_depth all kept n
depth_behind all kept n before last turn lt e h =
    let found = behind all n before turn lt e in
    let some : 1 ≤ n = found.0 in
    let f : Follows (at all (n - 1)) (at all n) before = found.1 in
    let d : Declaration = at all (n - 1) in
    let limit : (n - 1) - before_of d.what ≡ n - before_of (at all n).what = omega (arith, some, e, f.before) in
    h (n - 1) (omega (arith, some))
    ∙ ap (λ (s : Option TypeSpec). of_spec all kept ((n - 1) - before_of d.what) d.path s) (sym f.spec)
    ∙ ap (λ (p : Path). of_spec all kept ((n - 1) - before_of d.what) p (spec_of (at all n).what)) (sym f.path)
    ∙ ap (λ (l : ℕ). of_spec all kept l (at all n).path (spec_of (at all n).what)) limit

pub depth_next : (all : List Declaration) (kept : List ℕ) (n k : ℕ) (spec : TypeSpec) (dimensions : List Expression) (last : Option ℕ) → AreInTurn all → n < length all → (at all n).what ≡ IsAlias k spec dimensions → 0 < k
    → ((m : ℕ) → n ≡ m + 1 → last ≡ alias_depth all kept m) → last ≡ alias_depth all kept n
depth_next all kept n zero spec dimensions last turn lt is some h = absurd (omega (arith, some))
depth_next all kept n (suc before) spec dimensions last turn lt is some h = depth_behind all kept n before last turn lt (ap before_of is) h

pub last_depth : (all : List Declaration) (kept : List ℕ) (i : ℕ) (spec : Option ℕ) → spec ≡ alias_depth all kept i → (n : ℕ) → i + 1 ≡ n + 1 → spec ≡ alias_depth all kept n
last_depth all kept i spec is n e = let same : i ≡ n = omega (arith, e) in is ∙ ap (λ (m : ℕ). alias_depth all kept m) same

-- ---- what is too deep

pub deep_alias : (all : List Declaration) (done : List Standing) (kept : List ℕ) (n before count : ℕ) (spec : TypeSpec) (dimensions : List Expression) (k r : Option ℕ) (b : Bool) → (at all n).what ≡ IsAlias before spec dimensions → kept ≡ map depth done → count ≡ length dimensions
    → k ≡ alias_depth all kept n → r ≡ raised k count → b ≡ given r false (λ l. nat_lt 32 l) → b ≡ is_deep all done n
deep_alias all done kept n before count spec dimensions k r b is e many is_k is_r h =
    let path : Path = (at all n).path in
    let of_k : k ≡ option_map cut (spec_nesting (name_depth all kept None (n - before) path) spec) = is_k ∙ ap (λ (w : What). option_map cut (given (spec_of w) None (spec_nesting (name_depth all kept None (n - before_of w) path)))) is in
    h
    ∙ ap (λ (o : Option ℕ). given o false (λ l. nat_lt 32 l)) (alias_spelled all done kept n before spec dimensions path k r count e many of_k is_r)
    ∙ deep_cut (nesting_of all done n path (IsAlias before spec dimensions))
    ∙ sym (ap (λ (w : What). given (nesting_of all done n path w) false (λ l. nat_lt 32 l)) is)

-- ---- what is told

abbrev level_of : List ℕ → Option ℕ → ℕ
level_of levels number = given number 1 (λ n. slice_index_or levels n 1)

level_there : (types : List PlainType) (levels : List ℕ) (n : ℕ) → IsLevelled types levels → slice_index_or levels n 1 ≡ cut (nesting (type_at types n))
level_there types levels n x = by (nat_lt n (length levels)) refl
  where
    by : (b : Bool) → nat_lt n (length levels) ≡ b → slice_index_or levels n 1 ≡ cut (nesting (type_at types n))
    by true lt = x.are n 1 (ltb-true n (length levels) lt)
    by false lt =
        let past : length levels ≤ n = ltb-false n (length levels) lt in
        get_or_past levels n 1 past ∙ sym (ap (λ (t : PlainType). cut (nesting t)) (get_or_past types n Char (omega (arith, past, x.many))))

pub level_told : (types : List PlainType) (levels : List ℕ) (told : NumberedStanding) → IsLevelled types levels → level_of levels (type_told told) ≡ depth (stand types told)
level_told types levels tellings.Nothing x = refl
level_told types levels (tellings.OfNumber type value) x = refl
level_told types levels (tellings.OfType type) x = level_there types levels type.index x
