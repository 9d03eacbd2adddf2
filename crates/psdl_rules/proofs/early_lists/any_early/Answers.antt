use Rattle.std.proofs.Common.{sym, ◌∙◌}
use Rattle.psdl_rules.specs.inner.Early.{is_early}
use Rattle.psdl_rules.proofs.Noted.{any_there}
use Rattle.psdl_rules.proofs.early_lists.any_early.Goals as goal

pub returns-then-comes_first : goal.returns-then-comes_first
returns-then-comes_first c = any_there (is_early c.args.least.now) c.args.identifiers.now c.loop-identifier.identifier-index c.identifier-item.result c.loop-identifier-test.true c.identifier-item.is (sym c.comes_first.ensures ∙ c.if-comes_first.true)
