-- How many octets the texts of types have in the schema's shape. All that is over the limit of a shape counts as one octet over it.
use Rattle.std.specs.Prelude.{ℕ, ◌+◌, ◌==◌, List, length, min, if◌then◌else◌}
use Rattle.std.specs.Fmt.{decimal}
use Rattle.type_layout.specs.Types.{PlainType}
use Rattle.type_layout.specs.ShapeText.{type_text}
use Rattle.psdl_standings.specs.declared.text_length.TextLength.{TextLength}

abbrev pub cut : ℕ → ℕ
cut n = min n 65537

abbrev pub text_length : PlainType → ℕ
text_length type = cut (length (type_text type))

-- of a string type, by its bound
abbrev pub length_of_string : ℕ → ℕ
length_of_string bound = cut (if bound == 0 then 6 else 8 + length (decimal bound))

-- of a sequence, by the length of its items' type and by its bound
abbrev pub length_of_sequence : ℕ → ℕ → ℕ
length_of_sequence item bound = cut (item + (if bound == 0 then 5 else 6 + length (decimal bound)))

-- of an array, by the length of its items' type
abbrev pub length_of_array : ℕ → ℕ → ℕ
length_of_array item count = cut (item + (6 + length (decimal count)))

-- with a name and what separates it from the next behind what stands in front
abbrev pub with_name : ℕ → List ℕ → ℕ
with_name front name = cut (front + (length name + 1))

-- with a number and what separates it from the next behind what stands in front
abbrev pub with_number : ℕ → ℕ → ℕ
with_number front number = cut (front + (length (decimal number) + 1))

-- with a field's name, its type and what separates it from the next behind what stands in front
abbrev pub with_field : ℕ → List ℕ → ℕ → ℕ
with_field front name type = cut (front + (length name + (2 + type)))

-- ---- what is kept for each declaration

abbrev pub octets_of : TextLength → ℕ
octets_of l = l.0
