-- Lines that a service takes.
use Rattle.std.specs.Prelude.{⊤, List, [], ◌∷◌}
use Rattle.pss_base.specs.declared.lines.LineStep.{LineStep}
use Rattle.line_service.specs.Turns.{IsLine}

-- each is a line that is served
abbrev pub AreLines : List LineStep → Type 0
AreLines [] = ⊤
AreLines (line ∷ lines) = IsLine line × AreLines lines
