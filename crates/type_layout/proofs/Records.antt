-- No record's spelling begins another.
use Rattle.std.proofs.Common.{ℕ, ◌≡◌, List, [], ◌∷◌, ◌++◌, refl, sym, ap, ◌∙◌}
use Rattle.type_layout.specs.Types.{PlainType, PlainValue, PlainValues, no_values, value_and, values_of, PlainMember}
use Rattle.type_layout.specs.Values.{Of, IsRecord, layout_fields}
use Rattle.type_layout.specs.Spelling.{spelling, spellings, record_spelling}
use Rattle.type_layout.proofs.Apart.{type_apart, fields_apart}

pub values_apart : (t : PlainType) (u v : PlainValue) → Of t u → Of t v → (at : ℕ) (xs ys : List ℕ) → spelling t u at ++ xs ≡ spelling t v at ++ ys → (u ≡ v) × (xs ≡ ys)
values_apart t u v f g at xs ys h = (let s = type_apart t u v f g at xs ys h in (s.value, s.rest))

list_of : PlainValues → List PlainValue
list_of no_values = []
list_of (value_and v vs) = v ∷ list_of vs

list_of-values_of : (vs : List PlainValue) → list_of (values_of vs) ≡ vs
unfolding list_of
list_of-values_of [] = refl
list_of-values_of (v ∷ vs) = ap (λ (l : List PlainValue). v ∷ l) (list_of-values_of vs)

pub records_apart : (members : List PlainMember) (us vs : List PlainValue) → IsRecord members us → IsRecord members vs → (xs ys : List ℕ) → record_spelling members us ++ xs ≡ record_spelling members vs ++ ys → (us ≡ vs) × (xs ≡ ys)
records_apart members us vs f g xs ys h =
    let rest : spellings (layout_fields members) (values_of us) 1 ++ xs ≡ spellings (layout_fields members) (values_of vs) 1 ++ ys = cc in
    let s = fields_apart (layout_fields members) (values_of us) (values_of vs) f g 1 xs ys rest in
    (sym (list_of-values_of us) ∙ ap list_of s.value ∙ list_of-values_of vs, s.rest)
