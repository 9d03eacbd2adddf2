use Rattle.std.proofs.Common.{◌∙◌, List, ap}
use Rattle.std.proofs.lemmas.List.{take_all}
use Rattle.psdl_standings.specs.declared.structs.Part.{Part}
use Rattle.psdl_standings.specs.inner.Fields.{all_parts}
use Rattle.psdl_standings.proofs.Parted.{none_there, one_there}
use Rattle.psdl_standings.proofs.structs.all_fields.Goals as goal

pub loop-part-preserved : goal.loop-part-preserved
loop-part-preserved c = one_there c.args.parts.now c.loop-part.part-index _ _ c.loop-part.fields.items c.push.new.self.items c.loop-part-test.true c.in-Some.is c.loop-part.invariant c.in_ok-push-in-Some.ensures.items

pub returns-in-None : goal.returns-in-None
returns-in-None c = none_there c.args.parts.now c.loop-part.part-index _ c.loop-part-test.true c.in-None.is

pub returns : goal.returns
returns c = c.loop-part.invariant ∙ ap (λ (l : List Part). all_parts l) (take_all c.loop-part.part-index c.args.parts.now c.loop-part-test.false)
