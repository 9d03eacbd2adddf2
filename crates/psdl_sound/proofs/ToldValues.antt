-- Expressions of a text without a fault, whose names have numbers, come to numbers.
use Rattle.std.proofs.Common.{◌≡◌, ℕ, ◌^◌, List, [], ◌∷◌, ℤ, pos, map, get_or, Bool, true, false, cond, not, nat_lt, Option, Some, None, is_some, inl, refl, ap, subst, ◌∙◌}
use Rattle.std.specs.List.{flat_map, list_all}
use Rattle.std.proofs.lemmas.Bool.{or_parts, not-false}
use Rattle.psdl_tree.specs.declared.expressions.TextLiteral.{TextLiteral}
use Rattle.psdl_tree.specs.Trees.{Name, Primary, NameOperand, IntegerOperand, TextOperand, Group, Signed, OneUnary, OneProduct, OneSum, OneShift, OneAnd, OneXor, Expression}
use Rattle.type_layout.specs.Schemas.{given}
use Rattle.psdl_directory.specs.declared.fault.CheckFault.{CheckFault}
use Rattle.psdl_directory.specs.declared.fault.CheckKind.TheVariants.{Unknown, WrongCase, WrongKind, ConstRange, ConstZero}
use Rattle.psdl_directory.specs.Declarations.{Path, IsModule, Declaration}
use Rattle.psdl_standings.specs.Expressions.{operands, named_by, text_of, expression_place}
use Rattle.psdl_directory.specs.Fault.{fault, fault_if}
use Rattle.psdl_directory.specs.Lookup.{as_is, lower, at, meaning, place_of}
use Rattle.psdl_standings.specs.Naming.{of_use, of_texts}
use Rattle.psdl_standings.specs.Ranges.{is_out, of_expression}
use Rattle.psdl_standings.specs.Standings.{Nothing, number_of, standing, standings, sight, Range, assessed_by}
use Rattle.psdl_standings.specs.Uses.{Use, use_of, base_need, meets, is_number, in_expression}
use Rattle.psdl_standings.specs.Values.{Assessed, ranged, is_within}
use Rattle.psdl_sound.specs.SmallLiterals.{is_small}
use Rattle.psdl_sound.proofs.Among.{Among, among_flat, among_image, each_of_all}
use Rattle.psdl_check.proofs.FaultlessTexts.{both_empty, does_not_hold}
use Rattle.psdl_sound.proofs.Values.{IsOperand, AreOperands, comes_to}

-- the expression that is a name, and the place of that
abbrev single : Name → Expression
single name = OneXor (OneAnd (OneShift (OneSum (OneProduct (OneUnary (Signed None (NameOperand name)))))))

abbrev number_use : ℕ → Name → Use
number_use limit name = get_or (in_expression limit (single name)) 0 (use_of limit (base_need IsModule) name)

-- a use without a fault means a declaration that is met
pub use_told : (all : List Declaration) (path : Path) (u : Use) → of_use all (standings all) path u ≡ [] → (m : ℕ) × (meaning as_is all u.limit path u.name ≡ Some m) × (meets u.need (at all m).what (standing (standings all) m) ≡ true)
use_told all path u off = by (meaning as_is all u.limit path u.name) refl off
  where
    by : (o : Option ℕ) → meaning as_is all u.limit path u.name ≡ o
        → given o (fault (given (meaning lower all u.limit path u.name) Unknown (λ _. WrongCase)) (place_of u.name) ∷ []) (λ j. fault_if (not (meets u.need (at all j).what (standing (standings all) j))) WrongKind (place_of u.name)) ≡ []
        → (m : ℕ) × (meaning as_is all u.limit path u.name ≡ Some m) × (meets u.need (at all m).what (standing (standings all) m) ≡ true)
    by None e off = absurd (cc)
    by (Some j) e off = (j, e, not-false _ (does_not_hold (not (meets u.need (at all j).what (standing (standings all) j))) WrongKind (place_of u.name) off))

none_mapped : {A B : Type 0} (f : A → B) (xs : List A) → map f xs ≡ [] → xs ≡ []
none_mapped f [] e = refl
none_mapped f (x ∷ xs) e = absurd (cc)

-- an expression of a text that has no fault
pub record IsFaultless (all : List Declaration) (path : Path) (limit : ℕ) (e : Expression) : Type 0 where
  pub no_use : (u : Use) → Among u (in_expression limit e) → of_use all (standings all) path u ≡ []
  pub no_text : of_texts e ≡ []
  pub is_small : list_all is_small (operands e) ≡ true
  -- its names mean numbers that are there
  pub have_numbers : (name : Name) (m : ℕ) → meaning as_is all limit path name ≡ Some m → is_number (standing (standings all) m) ≡ true → is_some (number_of (standing (standings all) m)) ≡ true

-- its operands have numbers
has_operands : (all : List Declaration) (path : Path) (limit : ℕ) (e : Expression) → IsFaultless all path limit e → AreOperands (λ name. number_of (sight all (standings all) limit path name)) (operands e)
has_operands all path limit e fine p a = by p a
  where
    wide : (v : ℕ) → nat_lt v (2 ^ 127) ≡ true → is_some (ranged (pos v)) ≡ true
    wide v on = ap (λ (b : Bool). is_some (cond b (Some (pos v)) None)) on

    by : (p : Primary) → Among p (operands e) → IsOperand (λ name. number_of (sight all (standings all) limit path name)) p
    by (NameOperand name) a =
        let there : Among name (flat_map named_by (operands e)) = among_flat named_by (operands e) (NameOperand name) name a (inl refl) in
        let used : Among (number_use limit name) (in_expression limit e) = among_image (number_use limit) (flat_map named_by (operands e)) name there in
        let told = use_told all path (number_use limit name) (fine.no_use (number_use limit name) used) in
        ap (λ (o : Option ℕ). is_some (number_of (given o Nothing (λ n. standing (standings all) n)))) told.1 ∙ fine.have_numbers name told.0 told.1 told.2
    by (IntegerOperand literal) a = wide literal.value (each_of_all is_small (operands e) fine.is_small (IntegerOperand literal) a)
    by (TextOperand literal) a =
        let there : Among literal (flat_map text_of (operands e)) = among_flat text_of (operands e) (TextOperand literal) literal a (inl refl) in
        let some : Among (fault WrongKind literal.place) (of_texts e) = among_image (λ (t : TextLiteral). fault WrongKind t.place) (flat_map text_of (operands e)) literal there in
        absurd (subst (λ (l : List CheckFault). Among (fault WrongKind literal.place) l) fine.no_text some)
    by (Group place inner) a = tt

-- it comes to a number in its range
pub value_told : (all : List Declaration) (path : Path) (limit : ℕ) (e : Expression) (r : Range) → IsFaultless all path limit e → of_expression (sight all (standings all) limit path) r e ≡ []
    → (z : ℤ) × ((assessed_by (sight all (standings all) limit path) r.width e).value ≡ Some z) × (is_within r.least r.most z ≡ true)
value_told all path limit e r fine off =
    let a : Assessed = assessed_by (sight all (standings all) limit path) r.width e in
    let both = both_empty (fault_if (is_out r a) ConstRange (expression_place e)) (map (fault ConstZero) a.zeros) off in
    let out = or_parts a.leaves (given a.value false (λ z. not (is_within r.least r.most z))) (does_not_hold (is_out r a) ConstRange (expression_place e) both.0) in
    let there : is_some a.value ≡ true = comes_to (λ name. number_of (sight all (standings all) limit path name)) r.width e (has_operands all path limit e fine) out.0 (none_mapped (fault ConstZero) a.zeros both.1) in
    by a.value refl there out.1
  where
    by : (o : Option ℤ) → (assessed_by (sight all (standings all) limit path) r.width e).value ≡ o → is_some o ≡ true → given o false (λ z. not (is_within r.least r.most z)) ≡ false
        → (z : ℤ) × ((assessed_by (sight all (standings all) limit path) r.width e).value ≡ Some z) × (is_within r.least r.most z ≡ true)
    by None e on off = absurd (cc)
    by (Some z) e on off = (z, e, not-false (is_within r.least r.most z) off)
