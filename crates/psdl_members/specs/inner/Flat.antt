-- What declarations have, one behind the other, and where what each has begins.
use Rattle.std.specs.Prelude.{ℕ, ◌+◌, ◌-◌, List, [], length, map, take, drop, ◌&&◌, nat_lt, nat_le, if◌then◌else◌}
use Rattle.std.specs.List.{flat_map, range_with_len}
use Rattle.std.proofs.Common.{get_or}

-- of the first so many
abbrev pub flat : {A : Type 0} → (ℕ → List A) → ℕ → List A
flat g count = flat_map g (range_with_len 0 count)

-- where each of the first so many begins
abbrev pub begins : {A : Type 0} → (ℕ → List A) → ℕ → List ℕ
begins g count = map (λ i. length (flat g i)) (range_with_len 0 count)

-- from where one begins to where the next begins
abbrev pub piece : {A : Type 0} → List ℕ → ℕ → List A → List A
piece starts n items = take (get_or starts (n + 1) 0 - get_or starts n 0) (drop (get_or starts n 0) items)

-- where these stand in order and within the list
abbrev pub piece_of : {A : Type 0} → List ℕ → ℕ → List A → List A
piece_of starts n items =
    if nat_lt (n + 1) (length starts) && (nat_le (get_or starts n 0) (get_or starts (n + 1) 0) && nat_le (get_or starts (n + 1) 0) (length items)) then piece starts n items else []
