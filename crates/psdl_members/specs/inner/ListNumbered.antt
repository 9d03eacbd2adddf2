-- The numbers of lists.
use Rattle.std.specs.Prelude.{◌≡◌, ℕ, List, Option, Some}
use Rattle.psdl_directory.specs.inner.Spelt.{number_in}
use Rattle.psdl_members.specs.declared.list_numbers.ListNumbers.{ListNumbers}

abbrev pub list_number : ListNumbers → List ℕ → Option ℕ
list_number ls list = number_in ls.numbers list

-- what was noted keeps its number
abbrev pub KeepsLists : ListNumbers → ListNumbers → Type 0
KeepsLists old new = (list : List ℕ) (n : ℕ) → list_number old list ≡ Some n → list_number new list ≡ Some n
