use Rattle.std.proofs.Common.{◌∙◌, ap}
use Rattle.std.specs.List.{flat_map}
use Rattle.psdl_members.proofs.Numbering.{members_by}
use Rattle.psdl_standings.specs.States.{own_types}
use Rattle.psdl_standings.specs.Texts.{text_of, types_in}
use Rattle.psdl_rules.proofs.Typing.{types_by}
use Rattle.psdl_rules.proofs.faults.home_lists.members_of.Goals as goal

pub returns-clause-members : goal.returns-clause-members
returns-clause-members c =
    let s = c.args.sources.now in
    c.in_ok-members.ensures
    ∙ rw (c.directory.ensures, c.deref.ensures.value)
    (members_by (text_of c.args.standings.now) s.graph s.own c.args.number c.in_ok-bodies.bodies.items c.requires.graphed c.requires.owned c.in_ok-bodies.ensures.sources)

pub returns-clause-types : goal.returns-clause-types
returns-clause-types c =
    let all = text_of c.args.standings.now in
    types_by all (types_in c.args.standings.now) c.args.sources.now c.args.number c.in_ok-bodies.bodies.items c.in_ok-types.types.items c.requires c.in_ok-bodies.ensures.sources
    (λ homes. c.in_ok-types.ensures.types homes ∙ ap (flat_map (own_types all homes)) c.deref-2.ensures.value)
