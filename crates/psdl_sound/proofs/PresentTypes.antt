-- Types whose names and sizes are there are there.
use Rattle.std.proofs.Common.{◌≡◌, ℕ, List, [], ◌∷◌, ◌++◌, true, false, Option, Some, None, is_some, inl, inr, refl, sym, ap, ◌∙◌}
use Rattle.std.specs.List.{flat_map}
use Rattle.std.specs.Option.{option_map, option_and_then}
use Rattle.psdl_tree.specs.Trees.{Name, Expression, PlainType as PlainTree, IntegerPlain, CharPlain, BooleanPlain, OctetPlain, StringPlain, NamePlain, TypeSpec, PlainSpec, Sequence, Declarator, Field as FieldTree, Struct as StructTree}
use Rattle.type_layout.specs.Schemas.{given}
use Rattle.type_layout.specs.Types.{PlainType, Str, Seq, Arr, Struct, fields_of}
use Rattle.psdl_directory.specs.Declarations.{all_declarators}
use Rattle.psdl_directory.specs.Parts.{all_fields}
use Rattle.psdl_standings.specs.Standings.{Standing, type_of, size_by, all_there, plain_by, spec_by, arrays_by, field_by, fields_by, struct_by}
use Rattle.psdl_standings.specs.Uses.{Use, Bound, in_expression, in_expressions, in_plain, in_spec, in_declarator, in_field, bounds_of, most_items, most_elements, plain_bounds, spec_bounds, declarator_bounds, field_bounds}
use Rattle.psdl_sound.proofs.Among.{Among, among_front, among_behind, among_flat, among_from, among_map}

-- ---- lists

-- where each is there all are
pub all_some : {A : Type 0} (os : List (Option A)) → ((o : Option A) → Among o os → is_some o ≡ true) → is_some (all_there os) ≡ true
all_some [] each = refl
all_some (None ∷ os) each = let e : false ≡ true = each None (inl refl) in absurd (cc)
all_some {A} (Some x ∷ os) each = by (all_there os) (all_some os (λ o a. each o (inr a)))
  where
    by : (o : Option (List A)) → is_some o ≡ true → is_some (option_map (λ others. x ∷ others) o) ≡ true
    by None e = absurd (cc)
    by (Some ys) e = refl

some_mapped : {A B : Type 0} (f : A → B) (o : Option A) → is_some o ≡ true → is_some (option_map f o) ≡ true
some_mapped f None e = absurd (cc)
some_mapped f (Some x) e = refl

both_some : {A B : Type 0} (o : Option A) (p : Option ℕ) (f : A → ℕ → B) → is_some o ≡ true → is_some p ≡ true → is_some (given o None (λ t. option_map (f t) p)) ≡ true
both_some None p f e d = absurd (cc)
both_some (Some x) None f e d = absurd (cc)
both_some (Some x) (Some n) f e d = refl

-- what follows from a thing that is there is there
pub then_some : {A B : Type 0} (f : A → Option B) (o : Option A) → is_some o ≡ true → ((x : A) → is_some (f x) ≡ true) → is_some (option_and_then f o) ≡ true
then_some f None e each = absurd (cc)
then_some f (Some x) e each = each x

-- ---- types

module _ (limit : ℕ) (names : Name → Standing) (OkUse : Use → Type 0) (OkBound : Bound → Type 0)
    (size_there : (most : ℕ) (e : Expression) → ((u : Use) → Among u (in_expression limit e) → OkUse u) → OkBound (record { limit = limit; most = most; value = e }) → is_some (size_by names e) ≡ true) where
  abbrev AreUses : List Use → Type 0
  AreUses us = (u : Use) → Among u us → OkUse u

  abbrev AreBounds : List Bound → Type 0
  AreBounds bs = (b : Bound) → Among b bs → OkBound b

  front_uses : (xs ys : List Use) → AreUses (xs ++ ys) → AreUses xs
  front_uses xs ys h u a = h u (among_front u xs ys a)

  behind_uses : (xs ys : List Use) → AreUses (xs ++ ys) → AreUses ys
  behind_uses xs ys h u a = h u (among_behind u xs ys a)

  front_bounds : (xs ys : List Bound) → AreBounds (xs ++ ys) → AreBounds xs
  front_bounds xs ys h u a = h u (among_front u xs ys a)

  behind_bounds : (xs ys : List Bound) → AreBounds (xs ++ ys) → AreBounds ys
  behind_bounds xs ys h u a = h u (among_behind u xs ys a)

  one_size : (most : ℕ) (e : Expression) → AreUses (in_expressions limit (e ∷ [])) → AreBounds (bounds_of limit most (e ∷ [])) → is_some (size_by names e) ≡ true
  one_size most e us bs = size_there most e (front_uses (in_expression limit e) [] us) (bs (record { limit = limit; most = most; value = e }) (inl refl))

  pub arrays_there : (es : List Expression) (t : PlainType) → AreUses (in_expressions limit es) → AreBounds (bounds_of limit most_elements es) → is_some (arrays_by names es t) ≡ true
  arrays_there [] t us bs = refl
  arrays_there (e ∷ es) t us bs =
      both_some (arrays_by names es t) (size_by names e) (λ item n. Arr item n)
      (arrays_there es t (behind_uses (in_expression limit e) (in_expressions limit es) us) (λ b a. bs b (inr a)))
      (size_there most_elements e (front_uses (in_expression limit e) (in_expressions limit es) us) (bs (record { limit = limit; most = most_elements; value = e }) (inl refl)))

  module _ (type_there : (name : Name) → ((u : Use) → Among u (in_plain limit (NamePlain name)) → OkUse u) → is_some (type_of (names name)) ≡ true) where
    -- a plain type
    pub plain_there : (plain : PlainTree) → AreUses (in_plain limit plain) → AreBounds (plain_bounds limit plain) → is_some (plain_by names plain) ≡ true
    plain_there (IntegerPlain i) us bs = refl
    plain_there CharPlain us bs = refl
    plain_there BooleanPlain us bs = refl
    plain_there OctetPlain us bs = refl
    plain_there (StringPlain None) us bs = refl
    plain_there (StringPlain (Some bound)) us bs = some_mapped Str (size_by names bound) (one_size most_items bound us bs)
    plain_there (NamePlain name) us bs = type_there name us

    -- a type of a field
    pub spec_there : (spec : TypeSpec) → AreUses (in_spec limit spec) → AreBounds (spec_bounds limit spec) → is_some (spec_by names spec) ≡ true
    spec_there (PlainSpec plain) us bs = plain_there plain us bs
    spec_there (Sequence item None) us bs =
        some_mapped (λ t. Seq t 0) (spec_by names item)
        (spec_there item (front_uses (in_spec limit item) [] us) (front_bounds (spec_bounds limit item) [] bs))
    spec_there (Sequence item (Some bound)) us bs =
        both_some (spec_by names item) (size_by names bound) (λ t n. Seq t n)
        (spec_there item (front_uses (in_spec limit item) (in_expressions limit (bound ∷ [])) us) (front_bounds (spec_bounds limit item) (bounds_of limit most_items (bound ∷ [])) bs))
        (one_size most_items bound (behind_uses (in_spec limit item) (in_expressions limit (bound ∷ [])) us) (behind_bounds (spec_bounds limit item) (bounds_of limit most_items (bound ∷ [])) bs))

    field_there : (spec : TypeSpec) (d : Declarator) → is_some (spec_by names spec) ≡ true → AreUses (in_declarator limit d) → AreBounds (declarator_bounds limit d) → is_some (field_by names spec d) ≡ true
    field_there spec d there us bs =
        some_mapped (λ t. record { name = d.name.name; type = t }) (option_and_then (arrays_by names d.dimensions) (spec_by names spec))
        (then_some (arrays_by names d.dimensions) (spec_by names spec) there (λ t. arrays_there d.dimensions t us bs))

    -- a struct
    pub struct_there : (struct : StructTree) → AreUses (flat_map (in_field limit) (all_fields struct)) → AreBounds (flat_map (field_bounds limit) (all_fields struct)) → is_some (struct_by names struct) ≡ true
    struct_there struct us bs =
        let fs : List FieldTree = all_fields struct in
        some_mapped (λ fields. Struct (fields_of fields)) (all_there (flat_map (fields_by names) fs))
        (all_some (flat_map (fields_by names) fs)
        (λ o a.
        let r = among_from (fields_by names) fs o a in
        let f : FieldTree = r.0 in
        let s = among_map (field_by names f.spec) (all_declarators f.declarators) o r.2 in
        let d : Declarator = s.0 in
        let own : AreUses (in_field limit f) = λ u b. us u (among_flat (in_field limit) fs f u r.1 b) in
        let size : AreBounds (field_bounds limit f) = λ u b. bs u (among_flat (field_bounds limit) fs f u r.1 b) in
        let rest : List Use = flat_map (in_declarator limit) (all_declarators f.declarators) in
        let sizes : List Bound = flat_map (declarator_bounds limit) (all_declarators f.declarators) in
        let there : is_some (field_by names f.spec d) ≡ true =
        field_there f.spec d (spec_there f.spec (front_uses (in_spec limit f.spec) rest own) (front_bounds (spec_bounds limit f.spec) sizes size))
        (λ u b. behind_uses (in_spec limit f.spec) rest own u (among_flat (in_declarator limit) (all_declarators f.declarators) d u s.1 b))
        (λ u b. behind_bounds (spec_bounds limit f.spec) sizes size u (among_flat (declarator_bounds limit) (all_declarators f.declarators) d u s.1 b)) in
        ap is_some (sym s.2) ∙ there))
