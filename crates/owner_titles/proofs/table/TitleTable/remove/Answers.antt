use Rattle.std.proofs.Common.{sym, ap, ◌∙◌}
use Rattle.std.specs.FinMap as map
use Rattle.owner_titles.proofs.Tables.{told, removed}
use Rattle.owner_titles.proofs.table.TitleTable.remove.Goals as goal

pub returns-clause-value : goal.returns-clause-value
returns-clause-value c = c.remove.ensures.value ∙ sym (told c.self.inside.table _ c.self.view_is c.args.owner)

pub returns-clause-removed : goal.returns-clause-removed
returns-clause-removed c = removed _ _ c.args.owner c.remove.ensures.turned ∙ ap (λ m. map.remove m c.args.owner.0) c.self.view_is
