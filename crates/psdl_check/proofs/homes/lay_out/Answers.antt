use Rattle.std.proofs.Common.{◌≡◌, ◌∙◌, List, length, ap}
use Rattle.psdl_directory.specs.Declarations.{Declaration}
use Rattle.psdl_directory.specs.Lookup.{at}
use Rattle.psdl_standings.specs.Standings.{standings}
use Rattle.psdl_standings.specs.Texts.{types_in}
use Rattle.psdl_check.specs.Schemas.{home_layout, referents, scoped_name}
use Rattle.psdl_check.specs.inner.Lists.{homes_in}
use Rattle.psdl_check.specs.declared.members.TypedMember.{TypedMember}
use Rattle.psdl_check.specs.inner.Referring.{refer_to}
use Rattle.psdl_check.specs.inner.Texts.{text_in}
use Rattle.psdl_check.specs.inner.TypedMembers.{typed_views}
use Rattle.psdl_check.proofs.Homing.{names_are, views_agree}
use Rattle.psdl_check.proofs.Marking.{are_typed}
use Rattle.psdl_check.proofs.homes.lay_out.Goals as goal

pub returns-clause-laid : goal.returns-clause-laid
returns-clause-laid c =
    let all = text_in c.args.text.now in
    let types = types_in c.args.text.now.standings.now in
    let laid : typed_views types (homes_in c.in_ok-referents.referents) c.in_ok-members.members.items ≡ home_layout all (standings all) c.args.home =
    views_agree types (homes_in c.in_ok-referents.referents) (referents all) c.in_ok-members.members.items (λ n on. c.in_ok-referents.ensures.referents n (ap (λ (ms : List TypedMember). refer_to ms n) c.deref.ensures.value ∙ on)) ∙ c.in_ok-members.ensures.members (referents all) in
    record {
      name = c.in_ok-name.ensures ∙ ap (λ (d : List Declaration). scoped_name (at d c.args.home)) c.directory.ensures;
      base = c.base_no.ensures;
      typed = are_typed (length types) (length all) c.in_ok-members.members.items c.in_ok-members.ensures.there;
      members = laid;
      names = names_are all types (homes_in c.in_ok-referents.referents) c.args.home c.in_ok-members.members.items laid;
    }
