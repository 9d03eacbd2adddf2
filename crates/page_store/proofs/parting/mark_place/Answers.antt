use Rattle.std.proofs.Common.{ℕ, ◌∙◌, ◌||◌, false, get_or, ap}
use Rattle.std.specs.declared.option.Option.{Option}
use Rattle.page_store.specs.Touched.{is_in}
use Rattle.page_store.proofs.parting.mark_place.Goals as goal

pub returns-clause-marked : goal.returns-clause-marked
returns-clause-marked c s lt = c.mark_small.ensures s lt ∙ ap (λ (o : Option ℕ). is_in s o || get_or c.args.marks.now s false) c.take.ensures.found
