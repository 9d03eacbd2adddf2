use Rattle.std.proofs.Common.{◌∙◌}
use Rattle.psdl_directory.specs.inner.Nodes.{what_view}
use Rattle.psdl_standings.proofs.Stepping.{walked_one, last_one}
use Rattle.psdl_standings.proofs.Walking.{last_follows, header_later, item_later, number_later, stepped_by}
use Rattle.psdl_standings.proofs.walk.Walk.step.Goals as goal

pub alias_type-requires-clause-last : goal.alias_type-requires-clause-last
alias_type-requires-clause-last c = last_follows c.args.self.now c.args.number c.args.last (what_view c.what-what.result) c.requires.turn c.requires.number (rw c.new.ensures at c.what-what.ensures) c.requires.last

pub tell-requires-clause-number : goal.tell-requires-clause-number
tell-requires-clause-number c = number_later c.args.self.now c.alias_type.new.self c.args.number c.in_ok-item.ensures.goes c.requires.number

pub tell-requires-clause-header : goal.tell-requires-clause-header
tell-requires-clause-header c = header_later c.args.self.now c.alias_type.new.self c.args.number (what_view c.what-what.result) c.args.header.now c.in_ok-item.ensures.goes (rw c.new.ensures at c.what-what.ensures) c.requires.header

pub tell-requires-clause-item : goal.tell-requires-clause-item
tell-requires-clause-item c = item_later c.args.self.now c.alias_type.new.self c.args.number (what_view c.what-what.result) c.in_ok-item.item c.in_ok-item.ensures.goes c.in_ok-item.ensures.is

pub keep-requires : goal.keep-requires
keep-requires c = c.in_ok-told.ensures.told.there

pub returns-clause-same : goal.returns-clause-same
returns-clause-same c = c.in_ok-keep.ensures.text ∙ c.in_ok-told.ensures.told.goes.text ∙ c.in_ok-item.ensures.goes.text

pub returns-clause-walked : goal.returns-clause-walked
returns-clause-walked c =
    walked_one c.args.self.now c.alias_type.new.self c.tell.new.self c.keep.new.self c.args.number c.args.last c.in_ok-item.item c.in_ok-told.told c.args.states.now.items c.push.new.self.items c.tell.new.kept
    (stepped_by c.args.self.now c.alias_type.new.self c.tell.new.self c.keep.new.self c.args.number c.args.last c.in_ok-item.item c.in_ok-told.told c.args.states.now.items c.push.new.self.items c.tell.new.kept (what_view c.what-what.result) (rw c.new.ensures at c.what-what.ensures)
    c.requires.number c.requires.walked c.in_ok-item.ensures c.in_ok-told.ensures.told c.in_ok-told.ensures.kept c.in_ok-keep.ensures.text c.in_ok-keep.ensures.types c.in_ok-keep.ensures.faults c.in_ok-keep.ensures.told c.in_ok-push.ensures.items)

pub returns-clause-last : goal.returns-clause-last
returns-clause-last c =
    last_one c.args.self.now c.alias_type.new.self c.tell.new.self c.keep.new.self c.args.number c.args.last c.in_ok-item.item c.in_ok-told.told c.args.states.now.items c.push.new.self.items c.tell.new.kept
    (stepped_by c.args.self.now c.alias_type.new.self c.tell.new.self c.keep.new.self c.args.number c.args.last c.in_ok-item.item c.in_ok-told.told c.args.states.now.items c.push.new.self.items c.tell.new.kept (what_view c.what-what.result) (rw c.new.ensures at c.what-what.ensures)
    c.requires.number c.requires.walked c.in_ok-item.ensures c.in_ok-told.ensures.told c.in_ok-told.ensures.kept c.in_ok-keep.ensures.text c.in_ok-keep.ensures.types c.in_ok-keep.ensures.faults c.in_ok-keep.ensures.told c.in_ok-push.ensures.items)
