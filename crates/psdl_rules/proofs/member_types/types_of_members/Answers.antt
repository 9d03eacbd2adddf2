use Rattle.std.proofs.Common.{◌∙◌, ap}
use Rattle.std.specs.List.{flat_map}
use Rattle.psdl_standings.specs.States.{own_types}
use Rattle.psdl_standings.specs.Texts.{text_of, types_in}
use Rattle.psdl_rules.proofs.Typing.{types_by}
use Rattle.psdl_rules.proofs.member_types.types_of_members.Goals as goal

pub returns-clause-types : goal.returns-clause-types
returns-clause-types c =
    let all = text_of c.args.standings.now in
    types_by all (types_in c.args.standings.now) c.args.sources.now c.args.number c.in_ok-declarations.declarations.items c.in_ok-types.types.items c.requires.sources c.in_ok-declarations.ensures.sources
    (λ homes. c.in_ok-types.ensures.types homes ∙ ap (flat_map (own_types all homes)) c.deref.ensures.value)
