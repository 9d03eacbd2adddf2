-- How many members the homes of a text have.
use Rattle.std.specs.Prelude.{ℕ, ◌≤◌, List, length}
use Rattle.psdl_directory.specs.Declarations.{Declaration}
use Rattle.psdl_rules.specs.Faults.Limit.{most_members}
use Rattle.psdl_standings.specs.Standings.{standings}
use Rattle.psdl_check.specs.Schemas.{home_layout}

-- no home has more than a type may have
abbrev pub HasFewMembers : List Declaration → Type 0
HasFewMembers all = (n : ℕ) → length (home_layout all (standings all) n) ≤ most_members
