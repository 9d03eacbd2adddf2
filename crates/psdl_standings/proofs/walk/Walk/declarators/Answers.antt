use Rattle.psdl_standings.proofs.Arrayed.{there_more}
use Rattle.psdl_standings.proofs.Columned.{parts_begin, parts_more, parts_end}
use Rattle.psdl_standings.proofs.walk.Walk.declarators.Goals as goal

pub loop-declarator-init : goal.loop-declarator-init
loop-declarator-init c = parts_begin c.args.self.now c.args.spot c.args.item c.args.declarators.now c.args.parts.now.items c.requires.parts

pub declarator-requires-clause-item : goal.declarator-requires-clause-item
declarator-requires-clause-item c = there_more c.args.self.now.types c.loop-declarator.self.types c.args.item c.loop-declarator.invariant.goes.types c.requires.item

pub declarator-requires-clause-parts : goal.declarator-requires-clause-parts
declarator-requires-clause-parts c = c.loop-declarator.invariant.below

pub loop-declarator-preserved : goal.loop-declarator-preserved
loop-declarator-preserved c =
    parts_more c.args.self.now c.args.spot c.args.item c.loop-declarator.self c.declarator.new.self c.args.declarators.now c.loop-declarator.declarator-index c.declarator-item.result c.args.parts.now.items c.loop-declarator.parts.items
    c.declarator.new.parts.items c.requires.item c.loop-declarator-test.true c.declarator-item.is c.loop-declarator.invariant c.in_ok-declarator.ensures

pub returns : goal.returns
returns c =
    parts_end c.args.self.now c.args.spot c.args.item c.loop-declarator.self c.args.declarators.now c.loop-declarator.declarator-index c.args.parts.now.items c.loop-declarator.parts.items c.loop-declarator-test.false c.loop-declarator.invariant
