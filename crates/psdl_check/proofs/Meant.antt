-- What names mean is declared.
use Rattle.std.proofs.Common.{◌≡◌, ℕ, zero, suc, ◌+◌, ◌<◌, ◌≤◌, map, List, [], ◌∷◌, Bool, true, false, cond, length, Option, Some, None, refl, sym, arith}
use Rattle.std.specs.List.{find, position_from}
use Rattle.std.specs.Option.{option_to_list, option_and_then, IfSome}
use Rattle.psdl_tree.specs.Trees.{Name, Provision}
use Rattle.psdl_directory.specs.Declarations.{Declaration}
use Rattle.psdl_directory.specs.Lookup.{at, named, definition, defines, defined}
use Rattle.psdl_directory.specs.Parts.{managed, provided, is_storage_type}
use Rattle.psdl_lineage.specs.Descent.{type_of_home}

position_below : (test : Declaration → Bool) (i : ℕ) (all : List Declaration) (p : ℕ) → position_from test i all ≡ Some p → p < i + length all
position_below test i [] p h = absurd (cc)
position_below test i (d ∷ all) p h = by (test d) h (λ e. position_below test (i + 1) all p e)
  where
    by : (b : Bool) → cond b (Some i) (position_from test (i + 1) all) ≡ Some p → (position_from test (i + 1) all ≡ Some p → p < i + 1 + length all) → p < i + length (d ∷ all)
    by true e rest = let same : i ≡ p = cc in omega (arith, same)
    by false e rest = omega (arith, rest e)

definition_below : (all : List Declaration) (q p : ℕ) → definition all q ≡ Some p → p < length all
definition_below all q p e = omega (arith, position_below (defines (at all q)) 0 all p e)

then_below : (all : List Declaration) (o : Option ℕ) (p : ℕ) → option_and_then (definition all) o ≡ Some p → p < length all
then_below all None p e = absurd (cc)
then_below all (Some q) p e = definition_below all q p e

pub defined_below : (all : List Declaration) (n : ℕ) (name : Name) (p : ℕ) → defined all n name ≡ Some p → p < length all
defined_below all n name p e = then_below all (named all n name) p e

named_below : (all : List Declaration) (n : ℕ) (o : Option Name) (p : ℕ) → option_and_then (defined all n) o ≡ Some p → p < length all
named_below all n None p e = absurd (cc)
named_below all n (Some name) p e = defined_below all n name p e

found_in : (test : ℕ → Bool) (o : Option ℕ) (t : ℕ) → find test (option_to_list o) ≡ Some t → o ≡ Some t
found_in test None t e = absurd (cc)
found_in test (Some n) t e = by (test n) e
  where
    by : (b : Bool) → cond b (Some n) None ≡ Some t → Some n ≡ Some t
    by true h = h
    by false h = absurd (cc)

-- the type of a home is declared
pub type_below : (all : List Declaration) (home t : ℕ) → type_of_home all home ≡ Some t → t < length all
type_below all home t e = named_below all home (managed (at all home).what) t (found_in (λ u. is_storage_type (at all u).what) (option_and_then (defined all home) (managed (at all home).what)) t e)

pub given_below : (all : List Declaration) (n : ℕ) (name : Name) (o : Option ℕ) → o ≡ defined all n name → IfSome o (λ p. p < length all)
given_below all n name None e = tt
given_below all n name (Some p) e = defined_below all n name p (sym e)

pub some_below : (o : Option ℕ) (p limit : ℕ) → IfSome o (λ q. q < limit) → o ≡ Some p → p < limit
some_below None p limit h e = absurd (cc)
some_below (Some q) p limit h e = let same : q ≡ p = cc in omega (arith, h, same)

-- what is no declaration provides nothing
pub none_provided : {A : Type 0} (f : Provision → A) (all : List Declaration) (n : ℕ) → length all ≤ n → [] ≡ map f (provided (at all n).what)
none_provided f [] n le = refl
none_provided f (d ∷ all) zero le = absurd (omega (arith, le))
none_provided f (d ∷ all) (suc n) le = none_provided f all n (omega (arith, le))
