-- How many there may be of everything that is counted, after so many commands.
use Rattle.std.specs.Prelude.{ℕ, ◌≡◌, ◌+◌, ◌≤◌, List, [], ◌∷◌, Some}
use Rattle.std.specs.FinMap.{get}
use Rattle.pss_machine.specs.declared.limits.Limits.{Limits}
use Rattle.pss_machine.specs.Limits.{standard}
use Rattle.pss_machine.specs.Copies.{Entry, Copies}
use Rattle.pss_machine.specs.Kept.{Kept, Title}

-- no limit is above the standard one
pub record AreWithin (limits : Limits) : Type 0 where
  pub total : limits.total ≤ standard.total
  pub sessions : limits.sessions ≤ standard.sessions
  pub transactions : limits.transactions ≤ standard.transactions
  pub changes : limits.changes ≤ standard.changes
  pub entries : limits.entries ≤ standard.entries

-- each entry counts so many at most
abbrev pub CountAtMost : ℕ → List Entry → Type 0
CountAtMost p [] = Unit {0}
CountAtMost p (e ∷ es) = (e.count ≤ p) × CountAtMost p es

-- neither the last number of the session's entries nor any of their counts is above so many
pub record AreFewEntries (p : ℕ) (copies : Copies) : Type 0 where
  pub last : copies.last ≤ p
  pub counts : CountAtMost p copies.entries

-- each command gives one number of each kind at most, and counts one more at most
pub record AreFew (p : ℕ) (k : Kept) : Type 0 where
  pub sessions : k.next_session ≤ p + 1
  pub owners : k.next_owner ≤ p + 1
  pub commits : k.commits ≤ p
  pub commands : (n : ℕ) (title : Title) → get k.titles n ≡ Some title → title.commands ≤ p
  pub entries : (s : ℕ) (copies : Copies) → get k.copies s ≡ Some copies → AreFewEntries p copies
