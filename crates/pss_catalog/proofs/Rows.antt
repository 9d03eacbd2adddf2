-- The definitions on people.
use Rattle.std.proofs.Common.{ℕ, ◌≡◌, List, [], ◌∷◌, map, ap, sum}
use Rattle.std.specs.Prelude.{filter, codes, Some}
use Rattle.std.specs.Ordering.{nat_cmp}
use Rattle.std.specs.FinMap.{from_sorted, entries-from_sorted}
use Rattle.pss_base.specs.declared.pid.Pid.{Pid}
use Rattle.type_layout.specs.Types.{PlainValue, Text, Ref}
use Rattle.type_layout.specs.People.{home_1, key_0, people, ann}
use Rattle.pss_catalog.specs.Catalog.{Object, Catalog, pid_of, holds, holders, weight, total}
use Rattle.pss_catalog.proofs.Listing.{Entries}

abbrev person_pid : ℕ → Pid
person_pid serial = record { home = 1; serial = serial }

-- Ben and Eve, whose boss is Ann
abbrev ben : List PlainValue
ben = Text (codes "22") ∷ Text (codes "Ben") ∷ Ref (Some (person_pid 1)) ∷ []

abbrev eve : List PlainValue
eve = Text (codes "333") ∷ Text (codes "Eve") ∷ Ref (Some (person_pid 1)) ∷ []

abbrev object_of : List PlainValue → Object
object_of values = record { home = home_1; values = values }

abbrev three : Entries
three = (1, object_of ann) ∷ (2, object_of ben) ∷ (7, object_of eve) ∷ []

three_people : Catalog
three_people = from_sorted three

-- the key bytes of the text "22"
holders_of_22 : holders people three_people key_0 (0 ∷ 0 ∷ 0 ∷ 2 ∷ 50 ∷ 50 ∷ []) ≡ person_pid 2 ∷ []
unfolding three_people
holders_of_22 = ap (λ (es : Entries). map pid_of (filter (λ e. holds people key_0 (0 ∷ 0 ∷ 0 ∷ 2 ∷ 50 ∷ 50 ∷ []) e.1) es)) (entries-from_sorted nat_cmp three tt)

-- of "22" without its length, no one
holders_of_none : holders people three_people key_0 (50 ∷ 50 ∷ []) ≡ []
unfolding three_people
holders_of_none = ap (λ (es : Entries). map pid_of (filter (λ e. holds people key_0 (50 ∷ 50 ∷ []) e.1) es)) (entries-from_sorted nat_cmp three tt)

-- 48, 48 and 48 octets
total_of_three : total people three_people ≡ 144
unfolding three_people
total_of_three = ap (λ (es : Entries). sum (map (λ e. weight people e.1) es)) (entries-from_sorted nat_cmp three tt)
