use Rattle.std.proofs.Common.{rules}
use Rattle.type_layout.specs.declared.factories.DeclaredFactory.{DeclaredFactory}
use Rattle.type_layout.proofs.Named.{one_more}
use Rattle.type_layout.proofs.factories.named_places.Goals as goal

pub loop-i-preserved : goal.loop-i-preserved
loop-i-preserved c =
    one_more (λ (f : DeclaredFactory). f.name) c.loop-i.places c.enter.new.places c.args.factories.now c.loop-i.i c.index-factories-i.result c.loop-i-test.true (search rules) c.loop-i.invariant (search rules)
