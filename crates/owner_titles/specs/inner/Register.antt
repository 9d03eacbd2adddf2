-- How what is stored of owners belongs together.
use Rattle.std.specs.Prelude.{ℕ, ◌≡◌, ◌≤◌, ◌<◌, ◌^◌, List, filter, length, Some, IsSome, IsSomeAnd, false}
use Rattle.std.specs.Ordering.{nat_cmp}
use Rattle.std.specs.Cmp.Lexicographic.{slice_cmp}
use Rattle.std.specs.FinMap.{FinMap, get, entries}
use Rattle.pss_machine.specs.Owners.{is_basic}
use Rattle.owner_titles.specs.declared.called.Called.{Called}
use Rattle.owner_titles.specs.Meaning.{is_transaction}

-- each transaction stands behind its name, and nothing else behind any
pub record AreNamed (called : FinMap nat_cmp Called) (numbers : FinMap (slice_cmp nat_cmp) ℕ) : Type 0 where
  pub found : (n : ℕ) (c : Called) → get called n ≡ Some c → is_basic c.level ≡ false → get numbers c.name ≡ Some n
  pub only : (name : List ℕ) (n : ℕ) → get numbers name ≡ Some n → IsSomeAnd (get called n) (λ c. (c.name ≡ name) × (is_basic c.level ≡ false))

pub record IsSound (called : FinMap nat_cmp Called) (numbers : FinMap (slice_cmp nat_cmp) ℕ) (last transactions : ℕ) : Type 0 where
  pub below : (n : ℕ) → IsSome (get called n) → n ≤ last
  pub small : last < 2 ^ 32
  pub named : AreNamed called numbers
  pub counted : transactions ≡ length (filter is_transaction (entries called))
  pub fewer : transactions ≤ last
