-- Types by number.
use Rattle.std.proofs.Common.{◌≡◌, ℕ, zero, suc, ◌+◌, ◌<◌, ◌==◌, List, [], ◌∷◌, ◌++◌, length, map, get_or, Bool, true, false, ◌&&◌, nat_lt, IsTrue, refl, sym, ap, subst, ◌∙◌, ◌≤◌, ⊎_elim, arith, length-append}
use Rattle.std.proofs.Common.{add-zero}
use Rattle.std.specs.List.{list_all}
use Rattle.std.proofs.lemmas.Bool.{cases_lt}
use Rattle.std.proofs.lemmas.List.{map-append}
use Rattle.std.proofs.Math.ListN.{get_or-append}
use Rattle.std.proofs.Math.Seq.{get_or-append_seam}
use Rattle.type_layout.specs.Types.{PlainType, Char, Seq, Arr, Struct, PlainField, fields_of}
use Rattle.psdl_standings.specs.declared.text_length.TextLength.{TextLength}
use Rattle.psdl_standings.specs.declared.types.FieldNode.{FieldNode}
use Rattle.psdl_standings.specs.declared.types.Node.{Node}
use Rattle.psdl_standings.specs.declared.types.Node.TheVariants as nodes
use Rattle.type_layout.specs.ShapeText.{type_text}
use Rattle.psdl_standings.specs.TextLengths.{cut, text_length, octets_of}
use Rattle.psdl_standings.specs.inner.TypeLengths.{AreMade, AreTypes, fields_behind}
use Rattle.psdl_standings.specs.inner.TypeNodes.{type_at, field_type, node_type, types_after, types_of, IsMadeOf}
use Rattle.psdl_standings.proofs.Lettering.{field_cut, fields_octets, struct_length}

abbrev with_node : List PlainType → Node → List PlainType
with_node done x = done ++ node_type done x ∷ []

length-with_node : (done : List PlainType) (x : Node) → length (with_node done x) ≡ length done + 1
length-with_node done x = length-append done (node_type done x ∷ [])

length-types_after : (done : List PlainType) (xs : List Node) → length (types_after done xs) ≡ length done + length xs
length-types_after done [] = omega arith
length-types_after done (x ∷ xs) = omega (arith, length-types_after (with_node done x) xs, length-with_node done x)

pub length-types_of : (xs : List Node) → length (types_of xs) ≡ length xs
length-types_of xs = omega (arith, length-types_after [] xs)

types_after-append : (done : List PlainType) (xs : List Node) (x : Node) → types_after done (xs ++ x ∷ []) ≡ types_after done xs ++ node_type (types_after done xs) x ∷ []
types_after-append done [] x = refl
types_after-append done (y ∷ ys) x = types_after-append (with_node done y) ys x

pub types_of-append : (xs : List Node) (x : Node) → types_of (xs ++ x ∷ []) ≡ types_of xs ++ node_type (types_of xs) x ∷ []
types_of-append xs x = types_after-append [] xs x

there : (done : List PlainType) (xs : List Node) (n : ℕ) → n < length done → type_at (types_after done xs) n ≡ type_at done n
there done [] n lt = refl
there done (x ∷ xs) n lt = there (with_node done x) xs n (omega (arith, lt, length-with_node done x)) ∙ get_or-append done _ Char n lt

-- ---- what a node makes of the types in front of it

pub both_true : (a b : Bool) → IsTrue (a && b) → IsTrue a × IsTrue b
both_true true b h = (refl, h)
both_true false b h = cc

pub below : (a b : ℕ) → IsTrue (nat_lt a b) → a < b
below a b h = grind arith

fields_kept : (old new : List PlainType) (fs : List FieldNode) → IsTrue (list_all (λ f. nat_lt f.item (length old)) fs) → ((n : ℕ) → n < length old → type_at new n ≡ type_at old n)
    → map (field_type new) fs ≡ map (field_type old) fs
fields_kept old new [] h same = refl
fields_kept old new (f ∷ fs) h same =
    let both = both_true (nat_lt f.item (length old)) (list_all (λ f. nat_lt f.item (length old)) fs) h in
    let one : field_type new f ≡ field_type old f = ap (λ (t : PlainType). record { name = f.name.now; type = t }) (same f.item (below f.item (length old) both.0)) in
    ap (λ (x : PlainField). x ∷ map (field_type new) fs) one ∙ ap (λ (l : List PlainField). field_type old f ∷ l) (fields_kept old new fs both.1 same)

node_kept : (old new : List PlainType) (x : Node) → IsMadeOf (length old) x → ((n : ℕ) → n < length old → type_at new n ≡ type_at old n) → node_type new x ≡ node_type old x
node_kept old new nodes.Short made same = refl
node_kept old new nodes.Long made same = refl
node_kept old new nodes.LongLong made same = refl
node_kept old new nodes.UShort made same = refl
node_kept old new nodes.ULong made same = refl
node_kept old new nodes.ULongLong made same = refl
node_kept old new nodes.Char made same = refl
node_kept old new nodes.Boolean made same = refl
node_kept old new nodes.Octet made same = refl
node_kept old new (nodes.Text bound) made same = refl
node_kept old new (nodes.Sequence item bound) made same = ap (λ (t : PlainType). Seq t bound) (same item made)
node_kept old new (nodes.Array item count) made same = ap (λ (t : PlainType). Arr t count) (same item made)
node_kept old new (nodes.Struct fields) made same = ap (λ (fs : List PlainField). Struct (fields_of fs)) (fields_kept old new fields.items made same)
node_kept old new (nodes.Enumeration enumerators) made same = refl

made_type : (done : List PlainType) (xs : List Node) (i : ℕ) (d : Node) → i < length xs → ((k : ℕ) → k < length xs → IsMadeOf (length done + k) (get_or xs k d))
    → type_at (types_after done xs) (length done + i) ≡ node_type (types_after done xs) (get_or xs i d)
made_type done [] i d lt made = absurd (omega (arith, lt))
made_type done (x ∷ xs) zero d lt made =
    let first : IsMadeOf (length done + 0) x = made 0 (omega (arith, lt)) in
    let low : IsMadeOf (length done) x = rw add-zero at first in
    let at : type_at (types_after (with_node done x) xs) (length done + 0) ≡ node_type done x =
    there (with_node done x) xs (length done + 0) (omega (arith, length-with_node done x)) ∙ rw add-zero (get_or-append_seam done (node_type done x) [] Char) in
    at ∙ sym (node_kept done (types_after (with_node done x) xs) x low (λ n l. there done (x ∷ xs) n l))
made_type done (x ∷ xs) (suc i) d lt made =
    let e : length done + suc i ≡ length (with_node done x) + i = omega (arith, length-with_node done x) in
    rw e (made_type (with_node done x) xs i d (omega (arith, lt)) (λ k l. further k (made (suc k) (omega (arith, l)))))
  where
    further : (k : ℕ) → IsMadeOf (length done + suc k) (get_or xs k d) → IsMadeOf (length (with_node done x) + k) (get_or xs k d)
    further k h = let e : length (with_node done x) + k ≡ length done + suc k = omega (arith, length-with_node done x) in rw e h

-- the type of a node in its place
pub type_is : (xs : List Node) (i : ℕ) (d : Node) → AreMade xs → i < length xs → type_at (types_of xs) i ≡ node_type (types_of xs) (get_or xs i d)
type_is xs i d made lt =
    subst (λ (n : ℕ). type_at (types_of xs) n ≡ node_type (types_of xs) (get_or xs i d)) (none_before i)
    (made_type [] xs i d lt (λ k l. subst (λ (n : ℕ). IsMadeOf n (get_or xs k d)) (sym (none_before k)) (made k d l)))
  where
    none_before : (n : ℕ) → 0 + n ≡ n
    none_before n = omega arith

-- ---- lengths

pub length_at : (ls : List TextLength) (ts : List PlainType) (n : ℕ) (d : TextLength) → map octets_of ls ≡ map text_length ts → n < length ts → octets_of (get_or ls n d) ≡ text_length (type_at ts n)
length_at ls [] n d e lt = absurd (omega (arith, lt))
length_at [] (t ∷ ts) n d e lt = cc
length_at (l ∷ ls) (t ∷ ts) zero d e lt = cc
length_at (l ∷ ls) (t ∷ ts) (suc n) d e lt = length_at ls ts n d (cc) (omega (arith, lt))

-- ---- a type more

made_more : (xs : List Node) (x : Node) → AreMade xs → IsMadeOf (length xs) x → AreMade (xs ++ x ∷ [])
made_more xs x made last n d lt = ⊎_elim in_front at_end (cases_lt n (length xs))
  where
    in_front : n < length xs → IsMadeOf n (get_or (xs ++ x ∷ []) n d)
    in_front l = subst (λ (y : Node). IsMadeOf n y) (sym (get_or-append xs (x ∷ []) d n l)) (made n d l)

    at_end : length xs ≤ n → IsMadeOf n (get_or (xs ++ x ∷ []) n d)
    at_end l =
        let e : length xs ≡ n = omega (arith, l, lt, length-append xs (x ∷ [])) in
        subst (λ (k : ℕ). IsMadeOf k (get_or (xs ++ x ∷ []) k d)) e (subst (λ (y : Node). IsMadeOf (length xs) y) (sym (get_or-append_seam xs x [] d)) last)

pub one_more : (xs : List Node) (ls : List TextLength) (x : Node) (l : TextLength) → AreTypes xs ls → IsMadeOf (length (types_of xs)) x → l.0 ≡ text_length (node_type (types_of xs) x) → AreTypes (xs ++ x ∷ []) (ls ++ l ∷ [])
one_more xs ls x l types made is =
    record {
      made = made_more xs x types.made (subst (λ (n : ℕ). IsMadeOf n x) (length-types_of xs) made);
      measured =
          map-append octets_of ls (l ∷ []) ∙ ap (λ (ns : List ℕ). ns ++ octets_of l ∷ []) types.measured ∙ ap (λ (n : ℕ). map text_length (types_of xs) ++ n ∷ []) is
          ∙ sym (ap (λ (ts : List PlainType). map text_length ts) (types_of-append xs x) ∙ map-append text_length (types_of xs) (node_type (types_of xs) x ∷ []));
    }

-- ---- structs

fields_whole : (types : List PlainType) (front : ℕ) (fs : List FieldNode) → fields_behind types (cut front) fs ≡ cut (front + fields_octets (fields_of (map (field_type types) fs)))
fields_whole types front [] = omega arith
fields_whole types front (f ∷ fs) =
    let text : List ℕ = type_text (type_at types f.item) in
    ap (λ (n : ℕ). fields_behind types n fs) (field_cut front (length f.name.now) (length text)) ∙ fields_whole types (front + (length f.name.now + (2 + length text))) fs ∙ ap cut (omega arith)

-- of fields that are there
pub struct_text : (types : List PlainType) (fs : List FieldNode) (empty : Bool) → empty ≡ (length fs == 0) → empty ≡ false → fields_behind types 7 fs ≡ text_length (Struct (fields_of (map (field_type types) fs)))
struct_text types [] empty is filled = cc
struct_text types (f ∷ fs) empty is filled =
    fields_whole types 7 (f ∷ fs) ∙ sym (struct_length f.name.now (type_at types f.item) (fields_of (map (field_type types) fs)))
