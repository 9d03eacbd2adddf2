use Rattle.std.proofs.Common.{sym, ◌∙◌}
use Rattle.owner_titles.proofs.Tables.{told}
use Rattle.owner_titles.proofs.table.TitleTable.get.Goals as goal

pub returns : goal.returns
returns c = c.get.ensures ∙ sym (told c.self.inside.table _ c.self.view_is c.args.owner)
