use Rattle.std.proofs.Common.{◌<◌, ◌∙◌, Some, List, length, ap, sym, arith}
use Rattle.psdl_directory.specs.declared.fault.CheckFault.{CheckFault}
use Rattle.psdl_directory.specs.Noting.{noting}
use Rattle.psdl_members.specs.Bodies.{member_views}
use Rattle.psdl_standings.specs.Texts.{text_of, types_in}
use Rattle.psdl_rules.specs.Words.{is_called}
use Rattle.psdl_rules.proofs.Foremost.{first_there}
use Rattle.psdl_rules.proofs.Listed.{keyed_at, keyed_none}
use Rattle.psdl_rules.proofs.Typing.{as_many}
use Rattle.psdl_rules.proofs.faults.key_type.keyed_identifier.Goals as goal

pub keyed_at-requires : goal.keyed_at-requires
keyed_at-requires c =
    let ms = member_views c.args.members.now in
    let there : c.in-Some.place < length ms = first_there (is_called c.args.identifier.now) ms (Some c.in-Some.place) (sym c.in-Some.is ∙ c.place_of.ensures) in
    omega (arith, there, as_many (text_of c.args.standings.now) (types_in c.args.standings.now) ms c.args.kept.now c.requires)

pub returns-in-Some : goal.returns-in-Some
returns-in-Some c =
    c.keyed_at.ensures
    ∙ ap (λ (l : List CheckFault). noting c.args.least.now l) (keyed_at (text_of c.args.standings.now) (types_in c.args.standings.now) (member_views c.args.members.now) c.args.kept.now c.args.identifier.now c.in-Some.place c.requires
    (sym c.in-Some.is ∙ c.place_of.ensures))

pub returns-in-None : goal.returns-in-None
returns-in-None c =
    ap (λ (l : List CheckFault). noting c.args.least.now l) (keyed_none (text_of c.args.standings.now) (member_views c.args.members.now) c.args.identifier.now (sym c.in-None.is ∙ c.place_of.ensures))
