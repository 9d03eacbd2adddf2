-- How many octets the lines of the schema's shape have, cut as the texts of types are.
use Rattle.std.specs.Prelude.{ℕ, ◌+◌, List, [], ◌∷◌, length, map}
use Rattle.std.specs.Fmt.{decimal}
use Rattle.type_layout.specs.declared.home.HomeNo.{HomeNo}
use Rattle.psdl_standings.specs.TextLengths.{cut}

abbrev pub line_length : List ℕ → ℕ
line_length line = cut (length line)

-- with a number and what separates it from the next behind what stands in front
abbrev pub with_number : ℕ → ℕ → ℕ
with_number front number = cut (front + (length (decimal number) + 1))

-- with numbers behind what stands in front
abbrev pub numbers_length : ℕ → List ℕ → ℕ
numbers_length front [] = front
numbers_length front (n ∷ ns) = numbers_length (with_number front n) ns

-- with numbers and one octet more behind what stands in front
abbrev pub ended_length : ℕ → List ℕ → ℕ
ended_length front [] = cut (front + 1)
ended_length front (n ∷ ns) = numbers_length front (n ∷ ns)

-- of a type of references to these homes
abbrev pub length_of_reference : List HomeNo → ℕ
length_of_reference homes = ended_length 4 (map (λ h. h.0) homes)

-- of a member's line, by its name and the length of its type
abbrev pub length_of_member : List ℕ → ℕ → ℕ
length_of_member name type = cut (type + (9 + length name))

-- of a home's line, by its number, that of its base or 0, and its name
abbrev pub length_of_home : ℕ → ℕ → List ℕ → ℕ
length_of_home number base name = cut (with_number (with_number 5 number) base + (length name + 1))

-- of a key's line, by its name, its home's number and the numbers of its members
abbrev pub length_of_key : List ℕ → ℕ → List ℕ → ℕ
length_of_key name home members = ended_length (with_number (cut (length name + 5)) home) members
