use Rattle.std.proofs.Common.{ℕ, Option, slice_index_or, sym, ap, ◌∙◌}
use Rattle.type_layout.specs.Schemas.{given}
use Rattle.psdl_standings.proofs.Deeply.{level_told}
use Rattle.psdl_standings.proofs.nesting.told_level.Goals as goal

pub returns-in-Some : goal.returns-in-Some
returns-in-Some c types x =
    c.level_at.ensures
    ∙ ap (λ (o : Option ℕ). given o 1 (λ n. slice_index_or c.args.levels.now n 1)) (sym c.in-Some.is ∙ c.type_number.ensures)
    ∙ level_told types c.args.levels.now c.args.told x
