use Rattle.std.proofs.Common.{ap, ◌∙◌}
use Rattle.std.specs.FinMap as map
use Rattle.owner_titles.proofs.Tables.{inserted}
use Rattle.owner_titles.proofs.table.TitleTable.add.Goals as goal

pub returns-clause-ok : goal.returns-clause-ok
returns-clause-ok c = inserted _ _ c.args.owner c.args.called c.in_ok-insert.ensures.ok ∙ ap (λ m. map.insert m c.args.owner.0 c.args.called) c.self.view_is
