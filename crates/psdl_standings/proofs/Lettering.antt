-- The lengths of the texts of types, by those of their parts.
use Rattle.std.proofs.Common.{◌≡◌, ℕ, ◌+◌, List, [], ◌∷◌, ◌++◌, length, map, refl, sym, ap, ◌∙◌, arith, length-append}
use Rattle.std.specs.Prelude.{codes}
use Rattle.std.specs.List.{flat_map}
use Rattle.psdl_tree.specs.declared.names.Identifier.{Identifier}
use Rattle.type_layout.specs.Types.{PlainType, Struct, Enum, PlainFields, no_fields, field_and}
use Rattle.type_layout.specs.ShapeText.{listed, type_text, field_texts}
use Rattle.psdl_standings.specs.TextLengths.{cut, text_length}
use Rattle.psdl_standings.specs.inner.TextMeasured.{names_length}

-- ---- sums that are cut

pub cut_sum : (a b : ℕ) → cut (cut a + b) ≡ cut (a + b)
cut_sum a b = omega arith

pub cut_both : (a b : ℕ) → cut (cut a + cut b) ≡ cut (a + b)
cut_both a b = omega arith

pub field_cut : (front a b : ℕ) → cut (cut front + (a + (2 + cut b))) ≡ cut (front + (a + (2 + b)))
field_cut front a b = omega arith

-- ---- lists of texts

-- each with what separates it from the next
abbrev pub separated : List (List ℕ) → ℕ
separated [] = 0
separated (t ∷ ts) = (length t + 1) + separated ts

separated_flat : (ts : List (List ℕ)) → length (flat_map (λ u. codes "," ++ u) ts) ≡ separated ts
separated_flat [] = refl
separated_flat (t ∷ ts) = omega (arith, length-append (44 ∷ t) (flat_map (λ u. codes "," ++ u) ts), separated_flat ts)

pub listed_length : (t : List ℕ) (ts : List (List ℕ)) → length (listed (t ∷ ts)) + 1 ≡ separated (t ∷ ts)
listed_length t ts = omega (arith, length-append t (flat_map (λ u. codes "," ++ u) ts), separated_flat ts)

-- ---- texts one behind the other

pub three : (a b c : List ℕ) → length (a ++ b ++ c) ≡ length a + (length b + length c)
three a b c = omega (arith, length-append (a ++ b) c, length-append a b)

pub four : (a b c d : List ℕ) → length (a ++ b ++ c ++ d) ≡ length a + (length b + (length c + length d))
four a b c d = omega (arith, length-append (a ++ b ++ c) d, three a b c)

pub five : (a b c d e : List ℕ) → length (a ++ b ++ c ++ d ++ e) ≡ length a + (length b + (length c + (length d + length e)))
five a b c d e = omega (arith, length-append (a ++ b ++ c ++ d) e, four a b c d)

pub seven : (a b c d e f g : List ℕ) → length (a ++ b ++ c ++ d ++ e ++ f ++ g) ≡ length a + (length b + (length c + (length d + (length e + (length f + length g)))))
seven a b c d e f g = omega (arith, length-append (a ++ b ++ c ++ d ++ e ++ f) g, length-append (a ++ b ++ c ++ d ++ e) f, five a b c d e)

-- ---- structs

abbrev pub fields_octets : PlainFields → ℕ
fields_octets no_fields = 0
fields_octets (field_and name type fields) = (length name + (2 + length (type_text type))) + fields_octets fields

field_texts_octets : (fields : PlainFields) → separated (field_texts fields) ≡ fields_octets fields
field_texts_octets no_fields = refl
field_texts_octets (field_and name type fields) =
    let whole : length (name ++ codes ":" ++ type_text type) ≡ length name + (1 + length (type_text type)) = three name (codes ":") (type_text type) in
    ap (λ (n : ℕ). (n + 1) + separated (field_texts fields)) whole ∙ omega (arith, field_texts_octets fields)

pub struct_length : (name : List ℕ) (type : PlainType) (fields : PlainFields) → text_length (Struct (field_and name type fields)) ≡ cut (7 + fields_octets (field_and name type fields))
struct_length name type fields =
    let texts : List (List ℕ) = field_texts (field_and name type fields) in
    ap cut (three (codes "struct(") (listed texts) (codes ")") ∙ ap (λ (n : ℕ). 7 + n) (listed_length (name ++ codes ":" ++ type_text type) (field_texts fields) ∙ field_texts_octets (field_and name type fields)))

-- ---- enumerations

names_whole : (front : ℕ) (is : List Identifier) → names_length (cut front) is ≡ cut (front + separated (map (λ i. i.name) is))
names_whole front [] = omega arith
names_whole front (i ∷ is) =
    ap (λ (n : ℕ). names_length n is) (cut_sum front (length i.name + 1)) ∙ names_whole (front + (length i.name + 1)) is ∙ ap cut (omega arith)

pub enumeration_length : (i : Identifier) (is : List Identifier) → names_length 5 (i ∷ is) ≡ text_length (Enum (map (λ i. i.name) (i ∷ is)))
enumeration_length i is =
    names_whole 5 (i ∷ is)
    ∙ ap cut (sym (three (codes "enum(") (listed (map (λ i. i.name) (i ∷ is))) (codes ")") ∙ ap (λ (n : ℕ). 5 + n) (listed_length i.name (map (λ i. i.name) is))))
