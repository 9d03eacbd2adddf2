-- The numbers of spellings.
use Rattle.std.specs.Prelude.{◌≡◌, ℕ, List, Option, Some}
use Rattle.psdl_directory.specs.declared.spelling.Spelling.{Spelling}
use Rattle.psdl_directory.specs.declared.spelling.Spelling.TheVariants as spellings
use Rattle.psdl_directory.specs.declared.spellings.Spellings.{Spellings}
use Rattle.psdl_directory.specs.Lookup.{as_is, lower}
use Rattle.psdl_directory.specs.inner.Spelt.{number_in}

-- the number of a spelling, where it was noted
abbrev pub number_of : Spellings → List ℕ → Option ℕ
number_of s name = number_in s.numbers name

-- what was noted keeps its number
abbrev pub Keeps : Spellings → Spellings → Type 0
Keeps old new = (name : List ℕ) (n : ℕ) → number_of old name ≡ Some n → number_of new name ≡ Some n

-- how names are compared
abbrev pub spelled_by : Spelling → List ℕ → List ℕ
spelled_by spellings.AsIs = as_is
spelled_by spellings.Lower = lower
