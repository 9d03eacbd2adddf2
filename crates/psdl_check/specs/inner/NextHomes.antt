-- The home that is made next.
use Rattle.std.specs.Prelude.{◌≡◌, ◌+◌, ◌≤◌, ◌++◌, ℕ, List, [], ◌∷◌, length, nat_lt, false}
use Rattle.std.specs.List.{flat_map}
use Rattle.psdl_directory.specs.Declarations.{Declaration}
use Rattle.psdl_lineage.specs.Descent.{concrete_homes}
use Rattle.psdl_rules.specs.Faults.Limit.{most_shape}
use Rattle.psdl_standings.specs.TextLengths.{cut}
use Rattle.psdl_check.specs.Schemas.{introduced, key_numbers}
use Rattle.psdl_check.specs.declared.homes.Making.{Making}
use Rattle.psdl_check.specs.declared.key_rows.KeyIds.{KeyIds}
use Rattle.psdl_check.specs.declared.keys.Keys.{Keys}
use Rattle.psdl_check.specs.declared.numbering.Numbered.{Numbered}
use Rattle.psdl_check.specs.inner.Keys.{AreKeys}
use Rattle.psdl_check.specs.inner.Made.{AreMade, key_lines}

-- these homes are made, and the home comes behind them
pub record ComesNext (all : List Declaration) (homes more : List ℕ) (home : ℕ) (m : Making) : Type 0 where
  pub whole : concrete_homes all ≡ (homes ++ home ∷ []) ++ more
  pub made : AreMade all homes m
  pub few : length (flat_map (introduced all) homes) ≤ most_shape

-- its keys are numbered, unless the shape gets too long with them
pub record HasNumberedKeys (all : List Declaration) (ids : KeyIds) (homes : List ℕ) (home front : ℕ) (keys : Keys) (numbered : Numbered) : Type 0 where
  pub reached : numbered.length.0 ≡ cut (front + length (key_lines all home))
  pub counted : nat_lt most_shape numbered.length.0 ≡ false → numbered.numbers ≡ key_numbers all home
  pub known : nat_lt most_shape numbered.length.0 ≡ false → AreKeys all ids (flat_map (introduced all) (homes ++ home ∷ [])) keys
