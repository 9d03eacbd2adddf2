-- How deep declarations nest, cut where the limit is passed.
use Rattle.std.specs.Prelude.{ℕ, ◌+◌, ◌-◌, ◌==◌, List, [], ◌∷◌, length, max, Option, Some, None, false, if◌then◌else◌, option_map, slice_index_or}
use Rattle.psdl_tree.specs.Trees.{Name, Declarator, Declarators, Field}
use Rattle.type_layout.specs.Schemas.{given}
use Rattle.psdl_standings.specs.declared.nesting.Parts.{Parts}
use Rattle.psdl_directory.specs.Declarations.{Path, Declaration, all_declarators}
use Rattle.psdl_directory.specs.Directories.{all_of}
use Rattle.psdl_directory.specs.Lookup.{as_is, at, meaning}
use Rattle.psdl_standings.specs.Nesting.{nesting, spec_nesting}
use Rattle.psdl_standings.specs.Standings.{Standing, type_of}
use Rattle.psdl_standings.specs.Turns.{before_of, spec_of}
use Rattle.psdl_standings.specs.inner.Measured.{cut}

-- of what stands there
abbrev pub depth : Standing → ℕ
depth s = cut (given (type_of s) 1 nesting)

-- of the meaning of a name, 0 where it is no part
abbrev pub part_depth : List ℕ → Option ℕ → ℕ → ℕ
part_depth kept own j = if given own false (λ k. j == k) then 0 else slice_index_or kept j 1

abbrev pub name_depth : List Declaration → List ℕ → Option ℕ → ℕ → Path → Name → Option ℕ
name_depth all kept own limit path name = option_map (part_depth kept own) (meaning as_is all limit path name)

abbrev pub names_at : Parts → Name → Option ℕ
names_at p name = name_depth (all_of p.directory.now) p.levels.now p.own p.limit (at (all_of p.directory.now) p.number).path name

-- so many more levels
abbrev pub raised : Option ℕ → ℕ → Option ℕ
raised o levels = option_map (λ k. cut (k + levels)) o

-- the deeper one, where both are there
abbrev pub deeper : Option ℕ → Option ℕ → Option ℕ
deeper (Some a) (Some b) = Some (max a b)
deeper (Some a) None = None
deeper None b = None

abbrev pub all_deep : {X : Type 0} → (X → Option ℕ) → List X → Option ℕ
all_deep f [] = Some 0
all_deep f (x ∷ xs) = deeper (f x) (all_deep f xs)

abbrev pub dimensioned : Option ℕ → Declarator → Option ℕ
dimensioned spec d = raised spec (length d.dimensions)

abbrev pub declarators_depth : Option ℕ → Declarators → Option ℕ
declarators_depth spec ds = all_deep (dimensioned spec) (all_declarators ds)

abbrev pub field_depth : (Name → Option ℕ) → Field → Option ℕ
field_depth names field = declarators_depth (option_map cut (spec_nesting names field.spec)) field.declarators

-- of the type of the typedef that a declaration is of
abbrev pub alias_depth : List Declaration → List ℕ → ℕ → Option ℕ
alias_depth all kept n =
    option_map cut (given (spec_of (at all n).what) None (spec_nesting (name_depth all kept None (n - before_of (at all n).what) (at all n).path)))
