-- How entries are packed into pages.
use Rattle.std.specs.Prelude.{ℕ, suc, ◌≡◌, ◌≢◌, ◌+◌, ◌<◌, ◌≤◌, ◌==◌, Bool, false, List, [], ◌∷◌, ◌++◌, length, slice_index, ⊤}
use Rattle.std.specs.List.{list_any}
use Rattle.page_format.specs.Pages.{Entry}

-- the octets that an entry takes, and those that entries take
abbrev pub size_of : Entry → ℕ
size_of e = 16 + length e.octets

abbrev pub used_by : List Entry → ℕ
used_by [] = 0
used_by (e ∷ es) = size_of e + used_by es

-- the entries of pages, one page after another
abbrev pub entries_on : List (List Entry) → List Entry
entries_on [] = []
entries_on (page ∷ pages) = page ++ entries_on pages

-- a page has some entries, and room for them
pub record IsFilled (page : List Entry) : Type 0 where
  pub some : page ≢ []
  pub most : used_by page ≤ 16344

abbrev pub AreFilled : List (List Entry) → Type 0
AreFilled [] = ⊤
AreFilled (page ∷ pages) = IsFilled page × AreFilled pages

-- a page has no room for the entry that comes next
abbrev pub HasNoRoom : List Entry → List Entry → Type 0
HasNoRoom page [] = ⊤
HasNoRoom page (e ∷ es) = 16344 < used_by page + size_of e

-- each page was closed where the next entry did not fit
abbrev pub AreClosed : List (List Entry) → Type 0
AreClosed [] = ⊤
AreClosed (page ∷ pages) = HasNoRoom page (entries_on pages) × AreClosed pages

-- the serials of entries stand in a row, from this one on
abbrev pub AreInARow : ℕ → List Entry → Type 0
AreInARow serial [] = ⊤
AreInARow serial (e ∷ es) = (e.serial ≡ serial) × AreInARow (suc serial) es

-- these entries are packed into these pages, one after another
pub record IsPacking (es : List Entry) (pages : List (List Entry)) : Type 0 where
  pub all : entries_on pages ≡ es
  pub filled : AreFilled pages
  pub closed : AreClosed pages

-- each page but the last has more than little in use
abbrev pub OnlyLastIsSmall : List (List Entry) → Type 0
OnlyLastIsSmall [] = ⊤
OnlyLastIsSmall (page ∷ []) = ⊤
OnlyLastIsSmall (page ∷ next ∷ pages) = (8328 < used_by page) × OnlyLastIsSmall (next ∷ pages)

-- a slot is one of these
abbrev pub is_among : ℕ → List ℕ → Bool
is_among s slots = list_any (λ slot. slot == s) slots

-- these are the least slots that are none of some others, so many, in rising order
pub record AreLeastFree (slots : List ℕ) (count : ℕ) (free : List ℕ) : Type 0 where
  pub count_ : length free ≡ count
  pub below : (k : ℕ) → k < length free → slice_index free k < 16384
  pub none : (k : ℕ) → k < length free → is_among (slice_index free k) slots ≡ false
  pub rising : (j k : ℕ) → j < k → k < length free → slice_index free j < slice_index free k
  pub least : (s k : ℕ) → is_among s slots ≡ false → k < length free → s < slice_index free k → (j : ℕ) × (j < length free) × (slice_index free j ≡ s)
