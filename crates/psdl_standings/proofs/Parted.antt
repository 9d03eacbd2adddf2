-- The fields of structs as they are walked.
use Rattle.std.proofs.Common.{◌≡◌, ℕ, zero, suc, ◌+◌, ◌<◌, List, [], ◌∷◌, ◌++◌, length, get_or, take, map, Bool, true, false, ◌&&◌, nat_lt, Option, Some, None, refl, sym, ap, ◌∙◌, arith, append_assoc, add-one}
use Rattle.std.specs.Prelude.{IfSome, option_map}
use Rattle.std.specs.List.{list_all}
use Rattle.std.specs.Option.{option_and_then}
use Rattle.std.proofs.lemmas.Bool.{lt-ltb, ltb-true}
use Rattle.std.proofs.lemmas.List.{map-append}
use Rattle.std.proofs.Math.Seq.{take-suc}
use Rattle.std.proofs.lemmas.List.Folds.{list_all-append}
use Rattle.psdl_tree.specs.Trees.{Name, Declarator}
use Rattle.type_layout.specs.Schemas.{given}
use Rattle.type_layout.specs.Types.{PlainType, PlainField}
use Rattle.psdl_standings.specs.declared.spot.Spot.{Spot}
use Rattle.psdl_standings.specs.declared.structs.Part.{Part}
use Rattle.psdl_standings.specs.declared.types.FieldNode.{FieldNode}
use Rattle.psdl_standings.specs.declared.walk.Walk.{Walk}
use Rattle.psdl_standings.specs.Standings.{Standing, all_there, arrays_by}
use Rattle.psdl_standings.specs.Uses.{Use, Bound}
use Rattle.psdl_standings.specs.inner.Fields.{node_of, part_node, all_parts, part_type, is_below, ArePartsBelow, AddsParts}
use Rattle.psdl_standings.specs.inner.TypeNodes.{field_type, Extends}
use Rattle.psdl_standings.specs.inner.TypeNumbers.{declared_field}
use Rattle.psdl_standings.specs.inner.TypeTables.{entry_type}
use Rattle.psdl_standings.specs.inner.Walked.{noted_in, Goes, Adds}
use Rattle.psdl_standings.proofs.Goings.{goes_on, noted_on}

pub none_there : (parts : List Part) (i : ℕ) (d : Part) → i < length parts → (get_or parts i d).item ≡ None → None ≡ all_parts parts
none_there [] i d lt none = absurd (omega (arith, lt))
none_there (x ∷ xs) zero d lt none = rw none refl
none_there (x ∷ xs) (suc i) d lt none = by (part_node x) (none_there xs i d (omega (arith, lt)) none)
  where
    by : (o : Option FieldNode) → None ≡ all_parts xs → None ≡ given o None (λ a. option_map (λ others. a ∷ others) (all_parts xs))
    by None h = refl
    by (Some a) h = ap (λ (t : Option (List FieldNode)). option_map (λ others. a ∷ others) t) h

there_more : (xs : List (Option FieldNode)) (fs : List FieldNode) (x : FieldNode) → Some fs ≡ all_there xs → Some (fs ++ x ∷ []) ≡ all_there (xs ++ Some x ∷ [])
there_more [] fs x e = let none : fs ≡ [] = cc in rw none refl
there_more (None ∷ xs) fs x e = cc
there_more (Some y ∷ xs) fs x e = by (all_there xs) e (λ gs h. there_more xs gs x h)
  where
    by : (o : Option (List FieldNode)) → Some fs ≡ option_map (λ others. y ∷ others) o → ((gs : List FieldNode) → Some gs ≡ o → Some (gs ++ x ∷ []) ≡ all_there (xs ++ Some x ∷ [])) → Some (fs ++ x ∷ []) ≡ option_map (λ others. y ∷ others) (all_there (xs ++ Some x ∷ []))
    by None e h = cc
    by (Some gs) e h = let front : fs ≡ y ∷ gs = cc in rw front (ap (λ (o : Option (List FieldNode)). option_map (λ others. y ∷ others) o) (h gs refl))

pub one_there : (parts : List Part) (i : ℕ) (d : Part) (n : ℕ) (fs more : List FieldNode) → i < length parts → (get_or parts i d).item ≡ Some n → Some fs ≡ all_parts (take i parts) → more ≡ fs ++ node_of (get_or parts i d) n ∷ [] → Some more ≡ all_parts (take (i + 1) parts)
one_there parts i d n fs more lt is h pushed =
    let part : Part = get_or parts i d in
    let whole : map part_node (take (i + 1) parts) ≡ map part_node (take i parts) ++ Some (node_of part n) ∷ [] =
    ap (λ (l : List Part). map part_node l) (rw add-one (take-suc parts i d lt)) ∙ map-append part_node (take i parts) (part ∷ [])
    ∙ ap (λ (o : Option ℕ). map part_node (take i parts) ++ option_map (node_of part) o ∷ []) is in
    ap (λ (l : List FieldNode). Some l) pushed ∙ there_more (map part_node (take i parts)) fs (node_of part n) h ∙ ap (λ (l : List (Option FieldNode)). all_there l) (sym whole)

-- ---- types that are added

part_on : (old new : List PlainType) → Extends old new → (p : Part) → is_below (length old) p ≡ true → part_type new p ≡ part_type old p
part_on old new x p e = by p.item e
  where
    column : PlainType → PlainField
    column t = record { name = p.name.now; type = t }

    by : (o : Option ℕ) → given o true (λ n. nat_lt n (length old)) ≡ true → option_map (field_type new) (option_map (node_of p) o) ≡ option_map (field_type old) (option_map (node_of p) o)
    by None e = refl
    by (Some n) e = ap (λ (t : PlainType). Some (column t)) (x n (ltb-true n (length old) e)).1

below_on : (old new : List PlainType) → Extends old new → (p : Part) → is_below (length old) p ≡ true → is_below (length new) p ≡ true
below_on old new x p e = by p.item e
  where
    by : (o : Option ℕ) → given o true (λ n. nat_lt n (length old)) ≡ true → given o true (λ n. nat_lt n (length new)) ≡ true
    by None e = refl
    by (Some n) e = lt-ltb n (length new) (x n (ltb-true n (length old) e)).0

both_true : (a b : Bool) → a && b ≡ true → (a ≡ true) × (b ≡ true)
both_true true true e = (refl, refl)
both_true true false e = cc
both_true false b e = cc

parts_on : (old new : List PlainType) → Extends old new → (parts : List Part) → ArePartsBelow (length old) parts → map (part_type new) parts ≡ map (part_type old) parts
parts_on old new x [] e = refl
parts_on old new x (p ∷ ps) e =
    let both = both_true (is_below (length old) p) (list_all (is_below (length old)) ps) e in
    rw (part_on old new x p both.0, parts_on old new x ps both.1) refl

all_below_on : (old new : List PlainType) → Extends old new → (parts : List Part) → ArePartsBelow (length old) parts → ArePartsBelow (length new) parts
all_below_on old new x [] e = refl
all_below_on old new x (p ∷ ps) e =
    let both = both_true (is_below (length old) p) (list_all (is_below (length old)) ps) e in
    rw (below_on old new x p both.0, all_below_on old new x ps both.1) refl

-- ---- parts behind one another

pub parts_then : (a b d : Walk) (spot : Spot) (us vs : List Use) (bs cs : List Bound) (fs gs : List (Option PlainField)) (front mid parts : List Part) → AddsParts a b spot us bs fs front mid → AddsParts b d spot vs cs gs mid parts
    → AddsParts a d spot (us ++ vs) (bs ++ cs) (fs ++ gs) front parts
parts_then a b d spot us vs bs cs fs gs front mid parts x y =
    record {
      goes = goes_on a b d x.goes y.goes;
      noted = noted_on a b spot us vs bs cs d.faults x.goes x.noted y.noted;
      below = y.below;
      are = y.are ∙ ap (λ (l : List (Option PlainField)). l ++ gs) x.are ∙ append_assoc (map (part_type a.types) front) fs gs;
    }

-- the type in front of a declarator was walked, and then its part
pub parts_behind : (a b d : Walk) (spot : Spot) (us vs : List Use) (bs cs : List Bound) (gs : List (Option PlainField)) (front parts : List Part) → Goes a b → b.faults ≡ noted_in a spot us bs → ArePartsBelow (length a.types) front
    → AddsParts b d spot vs cs gs front parts → AddsParts a d spot (us ++ vs) (bs ++ cs) gs front parts
parts_behind a b d spot us vs bs cs gs front parts g e below y =
    record {
      goes = goes_on a b d g y.goes;
      noted = noted_on a b spot us vs bs cs d.faults g e y.noted;
      below = y.below;
      are = y.are ∙ ap (λ (l : List (Option PlainField)). l ++ gs) (parts_on a.types b.types g.types front below);
    }

pub below_later : (a b : Walk) (front : List Part) → Goes a b → ArePartsBelow (length a.types) front → ArePartsBelow (length b.types) front
below_later a b front g below = all_below_on a.types b.types g.types front below

-- one declarator
pub one_part : (a b : Walk) (spot : Spot) (us : List Use) (bs : List Bound) (names : Name → Standing) (d : Declarator) (item number : Option ℕ) (p : Part) (front parts : List Part) → ArePartsBelow (length a.types) front
    → Adds a b spot us bs (option_and_then (arrays_by names d.dimensions) (entry_type a.types item)) number → p.name.now ≡ d.name.name → p.item ≡ number → parts ≡ front ++ p ∷ []
    → AddsParts a b spot us bs (declared_field names (entry_type a.types item) d ∷ []) front parts
one_part a b spot us bs names d item number p front parts below x is_name is_item pushed =
    record {
      goes = x.goes;
      noted = x.noted;
      below = ap (λ (l : List Part). list_all (is_below (length b.types)) l) pushed ∙ list_all-append (is_below (length b.types)) front (p ∷ []) ∙ rw (all_below_on a.types b.types x.goes.types front below, here) refl;
      are =
          ap (λ (l : List Part). map (part_type b.types) l) pushed
          ∙ map-append (part_type b.types) front (p ∷ [])
          ∙ ap (λ (l : List (Option PlainField)). l ++ part_type b.types p ∷ []) (parts_on a.types b.types x.goes.types front below)
          ∙ ap (λ (o : Option PlainField). map (part_type a.types) front ++ o ∷ []) field;
    }
  where
    column : List ℕ → PlainType → PlainField
    column n t = record { name = n; type = t }

    here_by : (o : Option ℕ) → IfSome o (λ n. n < length b.types) → given o true (λ n. nat_lt n (length b.types)) ≡ true
    here_by None lt = refl
    here_by (Some n) lt = lt-ltb n (length b.types) lt

    here : is_below (length b.types) p ≡ true
    here = ap (λ (o : Option ℕ). given o true (λ n. nat_lt n (length b.types))) is_item ∙ here_by number x.there

    typed : (o : Option ℕ) → option_map (field_type b.types) (option_map (node_of p) o) ≡ option_map (column p.name.now) (entry_type b.types o)
    typed None = refl
    typed (Some n) = refl

    field : part_type b.types p ≡ declared_field names (entry_type a.types item) d
    field =
        typed p.item
        ∙ ap (λ (o : Option ℕ). option_map (column p.name.now) (entry_type b.types o)) is_item
        ∙ ap (λ (n : List ℕ). option_map (column n) (entry_type b.types number)) is_name
        ∙ ap (λ (t : Option PlainType). option_map (column d.name.name) t) x.is
