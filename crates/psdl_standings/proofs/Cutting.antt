-- What nests alike as far as the limit nests alike in all.
use Rattle.std.proofs.Common.{◌≡◌, ℕ, zero, suc, ◌+◌, ◌-◌, ◌==◌, List, [], ◌∷◌, length, map, Bool, true, false, cond, nat_lt, Option, Some, None, slice_index_or, refl, sym, ap, ◌∙◌, arith}
use Rattle.std.specs.Prelude.{option_map}
use Rattle.psdl_tree.specs.Trees.{Name, Expression, PlainType as PlainTree, IntegerPlain, CharPlain, BooleanPlain, OctetPlain, StringPlain, NamePlain, TypeSpec, PlainSpec, Sequence, Field as FieldTree, Struct as StructTree}
use Rattle.type_layout.specs.Schemas.{given}
use Rattle.psdl_directory.specs.Declarations.{Path, IsAlias, IsStruct, Declaration}
use Rattle.psdl_directory.specs.Lookup.{as_is, meaning, origin}
use Rattle.psdl_directory.specs.Parts.{all_fields}
use Rattle.psdl_standings.specs.Standings.{Standing}
use Rattle.psdl_standings.specs.Nesting.{nesting_of, nesting_at, spec_nesting, struct_nesting, name_nesting, is_origin, part_nesting}
use Rattle.psdl_standings.specs.inner.Measured.{cut}
use Rattle.psdl_standings.specs.inner.Levels.{depth, part_depth, name_depth, raised, deeper, all_deep, declarators_depth, field_depth}
use Rattle.psdl_standings.proofs.Deepening.{raised_cut, next_cut, struct_depth}

abbrev pub AreCutAlike : (Name → Option ℕ) → (Name → Option ℕ) → Type 0
AreCutAlike f g = (name : Name) → option_map cut (f name) ≡ option_map cut (g name)

plain_alike : (f g : Name → Option ℕ) → AreCutAlike f g → (p : PlainTree) → option_map cut (spec_nesting f (PlainSpec p)) ≡ option_map cut (spec_nesting g (PlainSpec p))
plain_alike f g h (NamePlain name) = h name
plain_alike f g h (IntegerPlain i) = refl
plain_alike f g h CharPlain = refl
plain_alike f g h BooleanPlain = refl
plain_alike f g h OctetPlain = refl
plain_alike f g h (StringPlain bound) = refl

pub spec_alike : (f g : Name → Option ℕ) → AreCutAlike f g → (s : TypeSpec) → option_map cut (spec_nesting f s) ≡ option_map cut (spec_nesting g s)
spec_alike f g h (PlainSpec p) = plain_alike f g h p
spec_alike f g h (Sequence item bound) =
    sym (next_cut (spec_nesting f item)) ∙ ap (λ (o : Option ℕ). raised o 1) (spec_alike f g h item) ∙ next_cut (spec_nesting g item)

fields_alike : (f g : Name → Option ℕ) → AreCutAlike f g → (fs : List FieldTree) → all_deep (field_depth f) fs ≡ all_deep (field_depth g) fs
fields_alike f g h [] = refl
fields_alike f g h (x ∷ xs) =
    ap (λ (o : Option ℕ). deeper (declarators_depth o x.declarators) (all_deep (field_depth f) xs)) (spec_alike f g h x.spec)
    ∙ ap (λ (o : Option ℕ). deeper (field_depth g x) o) (fields_alike f g h xs)

pub struct_alike : (f g : Name → Option ℕ) → AreCutAlike f g → (s : StructTree) → option_map cut (struct_nesting f s) ≡ option_map cut (struct_nesting g s)
struct_alike f g h s =
    let deep : (Name → Option ℕ) → Option ℕ = λ k. raised (all_deep (field_depth k) (all_fields s)) 1 in
    sym (struct_depth f s (field_depth f s.first) (all_deep (field_depth f) s.others) (all_deep (field_depth f) (all_fields s)) (deep f) refl refl refl refl)
    ∙ ap (λ (o : Option ℕ). raised o 1) (fields_alike f g h (all_fields s))
    ∙ struct_depth g s (field_depth g s.first) (all_deep (field_depth g) s.others) (all_deep (field_depth g) (all_fields s)) (deep g) refl refl refl refl

depth_at : (done : List Standing) (j : ℕ) → slice_index_or (map depth done) j 1 ≡ cut (nesting_at done j)
depth_at [] j = refl
depth_at (s ∷ ss) zero = refl
depth_at (s ∷ ss) (suc j) = depth_at ss j

cut_twice : (k : ℕ) → cut (cut k) ≡ cut k
cut_twice k = omega arith

pub name_alike : (all : List Declaration) (done : List Standing) (limit : ℕ) (path : Path) → AreCutAlike (name_depth all (map depth done) None limit path) (name_nesting all done limit path)
name_alike all done limit path name = by (meaning as_is all limit path name)
  where
    by : (o : Option ℕ) → option_map cut (option_map (part_depth (map depth done) None) o) ≡ option_map cut (option_map (nesting_at done) o)
    by None = refl
    by (Some j) = ap Some (ap cut (depth_at done j) ∙ cut_twice (nesting_at done j))

pub part_alike : (all : List Declaration) (done : List Standing) (n : ℕ) (own : Option ℕ) (path : Path) → ((j : ℕ) → given own false (λ k. j == k) ≡ is_origin all n j)
    → AreCutAlike (name_depth all (map depth done) own (n + 1) path) (part_nesting all done n path)
part_alike all done n own path h name = by (meaning as_is all (n + 1) path name)
  where
    at_one : (j : ℕ) (b : Bool) → cut (cond b 0 (slice_index_or (map depth done) j 1)) ≡ cut (cond b 0 (nesting_at done j))
    at_one j true = refl
    at_one j false = ap cut (depth_at done j) ∙ cut_twice (nesting_at done j)

    by : (o : Option ℕ) → option_map cut (option_map (part_depth (map depth done) own) o) ≡ option_map cut (option_map (λ j. cond (is_origin all n j) 0 (nesting_at done j)) o)
    by None = refl
    by (Some j) = ap Some (ap (λ (b : Bool). cut (cond b 0 (slice_index_or (map depth done) j 1))) (h j) ∙ at_one j (is_origin all n j))

pub deep_cut : (o : Option ℕ) → given (option_map cut o) false (λ k. nat_lt 32 k) ≡ given o false (λ k. nat_lt 32 k)
deep_cut None = refl
deep_cut (Some k) = grind arith

pub alias_spelled : (all : List Declaration) (done : List Standing) (kept : List ℕ) (n before : ℕ) (spec : TypeSpec) (dimensions : List Expression) (path : Path) (k r : Option ℕ) (count : ℕ) → kept ≡ map depth done → count ≡ length dimensions
    → k ≡ option_map cut (spec_nesting (name_depth all kept None (n - before) path) spec) → r ≡ raised k count → r ≡ option_map cut (nesting_of all done n path (IsAlias before spec dimensions))
alias_spelled all done kept n before spec dimensions path k r count e many is_k is =
    let exact : Name → Option ℕ = name_nesting all done (n - before) path in
    is ∙ ap (λ (m : ℕ). raised k m) many ∙ ap (λ (o : Option ℕ). raised o (length dimensions)) (is_k ∙ rw e (spec_alike (name_depth all (map depth done) None (n - before) path) exact (name_alike all done (n - before) path) spec))
    ∙ raised_cut (spec_nesting exact spec) (length dimensions)

own_is : (all : List Declaration) (n : ℕ) (own : Option ℕ) → own ≡ origin all n → (j : ℕ) → given own false (λ k. j == k) ≡ is_origin all n j
own_is all n own e j = rw e refl

pub struct_spelled : (all : List Declaration) (done : List Standing) (kept : List ℕ) (own : Option ℕ) (n m : ℕ) (struct : StructTree) (path : Path) → kept ≡ map depth done → own ≡ origin all n → m ≡ n
    → option_map cut (struct_nesting (name_depth all kept own (m + 1) path) struct) ≡ option_map cut (nesting_of all done n path (IsStruct struct))
struct_spelled all done kept own n m struct path e is_own same =
    ap (λ (ks : List ℕ). option_map cut (struct_nesting (name_depth all ks own (m + 1) path) struct)) e
    ∙ ap (λ (k : ℕ). option_map cut (struct_nesting (name_depth all (map depth done) own (k + 1) path) struct)) same
    ∙ struct_alike (name_depth all (map depth done) own (n + 1) path) (part_nesting all done n path) (part_alike all done n own path (own_is all n own is_own)) struct
