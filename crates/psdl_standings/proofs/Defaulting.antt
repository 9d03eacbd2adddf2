-- How many octets the defaults of types take.
use Rattle.std.proofs.Common.{◌≡◌, ℕ, zero, suc, ◌+◌, ◌≤◌, List, [], ◌∷◌, ◌++◌, length, refl, sym, ap, ◌∙◌, arith, inl, inr, length-append}
use mathlib.Core.Path.{fun_ext}
use Rattle.std.proofs.lemmas.Bool.{cases_lt}
use Rattle.type_layout.specs.Types.{PlainType, Arr, PlainFields, field_and, PlainField, fields_of}
use Rattle.type_layout.specs.Defaults.{copies, default, defaults}
use Rattle.type_layout.specs.Spelling.{each, spelling, spellings}
use Rattle.psdl_standings.specs.Extents.{Extent, cut, nothing, followed, repeated, extent}

-- ---- lengths that are not cut

abbrev pub short : Extent → Extent
short f at = cut (f at)

abbrev pub chained : Extent → Extent → Extent
chained f g at = f at + g (at + f at)

abbrev pub times : Extent → ℕ → Extent
times f zero = nothing
times f (suc n) = chained f (times f n)

cut_inner : (a x : ℕ) → cut (a + cut x) ≡ cut (a + x)
cut_inner a x = omega arith

cut_outer : (a x y : ℕ) → 8001 ≤ a → cut (cut a + x) ≡ cut (a + y)
cut_outer a x y le = omega (arith, le)

cut_both : (g : Extent) (at a : ℕ) → cut (cut a + cut (g (at + cut a))) ≡ cut (a + g (at + a))
cut_both g at a = elim (cases_lt a 8001) [
  | inl lt ↦ (let whole : cut a ≡ a = omega (arith, lt) in ap (λ (n : ℕ). cut (n + cut (g (at + n)))) whole ∙ cut_inner a (g (at + a)))
  | inr le ↦ cut_outer a (cut (g (at + cut a))) (g (at + a)) le
]

pub followed_short : (f g : Extent) → followed (short f) (short g) ≡ short (chained f g)
followed_short f g = fun_ext (λ at. cut_both g at (f at))

pub repeated_short : (f : Extent) (n : ℕ) → repeated (short f) n ≡ short (times f n)
repeated_short f zero = refl
repeated_short f (suc n) = ap (followed (short f)) (repeated_short f n) ∙ followed_short f (times f n)

pub chained-assoc : (f g h : Extent) → chained (chained f g) h ≡ chained f (chained g h)
chained-assoc f g h = fun_ext (λ at.
    let place : at + (f at + g (at + f at)) ≡ (at + f at) + g (at + f at) = omega arith in
    ap (λ (p : ℕ). (f at + g (at + f at)) + h p) place ∙ sum (f at) (g (at + f at)) (h ((at + f at) + g (at + f at))))
  where
    sum : (a b c : ℕ) → (a + b) + c ≡ a + (b + c)
    sum a b c = omega arith

pub nothing_chained : (f : Extent) → chained nothing f ≡ f
nothing_chained f = fun_ext (λ at. let same : at + 0 ≡ at = omega arith in ap (λ (p : ℕ). 0 + f p) same ∙ none (f at))
  where
    none : (a : ℕ) → 0 + a ≡ a
    none a = omega arith

pub chained_nothing : (f : Extent) → chained f nothing ≡ f
chained_nothing f = fun_ext (λ at. none (f at))
  where
    none : (a : ℕ) → a + 0 ≡ a
    none a = omega arith

-- ---- arrays and fields

abbrev pub octets : PlainType → Extent
octets type at = length (spelling type (default type) at)

abbrev pub fields_octets : PlainFields → Extent
fields_octets fields at = length (spellings fields (defaults fields) at)

array_octets : (item : PlainType) (n at : ℕ) → octets (Arr item n) at ≡ times (octets item) n at
array_octets item zero at = refl
array_octets item (suc n) at =
    length-append (spelling item (default item) at) (each (spelling item) (copies n (default item)) (at + octets item at))
    ∙ ap (λ (k : ℕ). octets item at + k) (array_octets item n (at + octets item at))

pub repeated_extent : (item : PlainType) (n : ℕ) → repeated (extent item) n ≡ extent (Arr item n)
repeated_extent item n = repeated_short (octets item) n ∙ fun_ext (λ at. ap cut (sym (array_octets item n at)))

pub field_octets : (name : List ℕ) (type : PlainType) (fields : PlainFields) → fields_octets (field_and name type fields) ≡ chained (octets type) (fields_octets fields)
field_octets name type fields = fun_ext (λ at. length-append (spelling type (default type) at) (spellings fields (defaults fields) (at + octets type at)))

pub fields_append : (xs ys : List PlainField) → fields_octets (fields_of (xs ++ ys)) ≡ chained (fields_octets (fields_of xs)) (fields_octets (fields_of ys))
fields_append [] ys = sym (nothing_chained (fields_octets (fields_of ys)))
fields_append (x ∷ xs) ys =
    field_octets x.name x.type (fields_of (xs ++ ys))
    ∙ ap (chained (octets x.type)) (fields_append xs ys)
    ∙ sym (chained-assoc (octets x.type) (fields_octets (fields_of xs)) (fields_octets (fields_of ys)))
    ∙ ap (λ (f : Extent). chained f (fields_octets (fields_of ys))) (sym (field_octets x.name x.type (fields_of xs)))
