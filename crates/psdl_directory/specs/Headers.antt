-- What the names in the headers of declarations mean.
use Rattle.std.specs.Prelude.{ℕ, ◌+◌, List, length, map, Option, is_some, is_none, ◌&&◌}
use Rattle.std.specs.List.{range_with_len}
use Rattle.std.specs.Option.{option_map, option_and_then}
use Rattle.psdl_tree.specs.Trees.{Name}
use Rattle.psdl_directory.specs.declared.uses.Use.{Use}
use Rattle.psdl_directory.specs.Declarations.{What, Declaration}
use Rattle.psdl_directory.specs.Parts.{bases, implemented, managed, provided}
use Rattle.psdl_directory.specs.Lookup.{as_is, lower, at, definition, meaning, place_of}

-- a name in the scope of a declaration, of the first so many: where it stands, what it means, what defines that, and
-- whether it means something only where case is ignored
abbrev pub used : List Declaration → ℕ → ℕ → Name → Use
used all limit n name = record {
  place = place_of name;
  meant = meaning as_is all limit (at all n).path name;
  defined = option_and_then (definition all) (meaning as_is all limit (at all n).path name);
  wrong_case = is_none (meaning as_is all limit (at all n).path name) && is_some (meaning lower all limit (at all n).path name);
}

-- the names behind `:` and `implements`, the one behind `of`, and those of the homes that a catalog provides
pub record Header : Type 0 where
  pub bases : List Use
  pub implemented : List Use
  pub managed : Option Use
  pub provided : List Use

-- all of these stand before the declaration's own name or are it
abbrev pub header_of : List Declaration → ℕ → What → Header
header_of all n what = record {
  bases = map (used all (n + 1) n) (bases what);
  implemented = map (used all (n + 1) n) (implemented what);
  managed = option_map (used all (n + 1) n) (managed what);
  provided = map (λ p. used all (n + 1) n p.home) (provided what);
}

abbrev pub header : List Declaration → ℕ → Header
header all n = header_of all n (at all n).what

-- of each declaration
abbrev pub headers : List Declaration → List Header
headers all = map (header all) (range_with_len 0 (length all))
