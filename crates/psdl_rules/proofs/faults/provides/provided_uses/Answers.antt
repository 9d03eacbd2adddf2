use Rattle.std.proofs.Common.{◌<◌, length, subst, sym}
use Rattle.std.specs.Option.{IfSome}
use Rattle.psdl_directory.specs.declared.uses.Use.{Use}
use Rattle.psdl_rules.specs.Texts.{judged}
use Rattle.psdl_rules.proofs.faults.provides.provided_uses.Goals as goal

pub is_unprovided-holds-requires : goal.is_unprovided-holds-requires
is_unprovided-holds-requires c =
    subst (λ (u : Use). IfSome u.defined (λ k. k < length (judged c.args.text.now))) (sym c.used-item.is) (c.requires c.loop-used.used-index _ c.loop-used-test.true)
