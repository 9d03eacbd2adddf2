use Rattle.std.proofs.Common.{sym, ◌∙◌}
use Rattle.psdl_members.specs.Listings.{identifiers_in}
use Rattle.psdl_rules.specs.inner.Early.{list_early}
use Rattle.psdl_rules.proofs.Noted.{any_at}
use Rattle.psdl_rules.proofs.early_lists.any_list_early.Goals as goal

pub returns-then-list_early : goal.returns-then-list_early
returns-then-list_early c = any_at (list_early c.args.least.now) (identifiers_in) c.args.lists.now c.loop-listed.listed-index c.listed-item.result c.loop-listed-test.true c.listed-item.is (sym c.list_early.ensures ∙ c.if-list_early.true)
