-- What is told of a commit.
use Rattle.std.specs.Prelude.{ℕ, ◌++◌, List, codes, decimal}
use Rattle.pss_machine.specs.Moving.{level_text}
use Rattle.owner_titles.specs.declared.told.Told.{Told}

-- its text: the owner's name, its level, how many data commands it had done, and how many objects it changed
abbrev pub told_text : Told → List ℕ
told_text told = told.name ++ codes ":" ++ level_text told.level ++ codes ":" ++ decimal told.commands ++ codes ":" ++ decimal told.changed
