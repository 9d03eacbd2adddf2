-- Keys and factories by number.
use Rattle.std.specs.Prelude.{◌≡◌, ℕ, List, [], ◌∷◌, map, Option, Some, option_map}
use Rattle.std.specs.Option.{option_and_then}
use Rattle.psdl_directory.specs.declared.spellings.Spellings.{Spellings}
use Rattle.psdl_directory.specs.Lookup.{lower}
use Rattle.psdl_directory.specs.Spelled.{number_of}
use Rattle.psdl_lineage.specs.Descent.{Listed}
use Rattle.psdl_members.specs.declared.entry.Entry.{Entry}
use Rattle.psdl_members.specs.declared.entries.Numbering.{Numbering}
use Rattle.psdl_members.specs.inner.ListNumbered.{list_number}

-- the numbers are those of these names
abbrev pub AreSpelled : Spellings → List ℕ → List (List ℕ) → Type 0
AreSpelled s numbers names = map (λ k. Some k) numbers ≡ map (number_of s) names

-- each is there
abbrev pub all_there : List (Option ℕ) → Option (List ℕ)
all_there [] = Some []
all_there (o ∷ os) = option_and_then (λ n. option_map (λ ns. n ∷ ns) (all_there os)) o

-- the number of a list of names
abbrev pub number_of_list : Numbering → List (List ℕ) → Option ℕ
number_of_list n names = option_and_then (list_number n.lists) (all_there (map (number_of n.spellings) names))

abbrev pub the_entry : ℕ → ℕ → Entry
the_entry name list = record { name = name; list = list }

-- where both numbers are there
abbrev pub entry_with : Option ℕ → Option ℕ → Option Entry
entry_with name list = option_and_then (λ n. option_map (the_entry n) list) name

abbrev pub entry_of : Numbering → Listed → Option Entry
entry_of n l = entry_with (number_of n.spellings (lower l.name)) (number_of_list n l.members)

-- what was noted keeps its numbers
abbrev pub KeepsEntries : Numbering → Numbering → Type 0
KeepsEntries old new = (l : Listed) (e : Entry) → entry_of old l ≡ Some e → entry_of new l ≡ Some e

abbrev pub AreEntries : Numbering → List Entry → List Listed → Type 0
AreEntries n es ls = map (λ e. Some e) es ≡ map (entry_of n) ls
