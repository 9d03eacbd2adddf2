use Rattle.std.proofs.Common.{◌∙◌, List, ap, subst, sym}
use Rattle.psdl_directory.specs.Declarations.{Declaration}
use Rattle.type_layout.specs.Types.{PlainMember, PlainType}
use Rattle.psdl_standings.specs.Texts.{types_in}
use Rattle.psdl_check.specs.inner.Lists.{homes_in}
use Rattle.psdl_check.specs.inner.Made.{AreFactories}
use Rattle.psdl_check.specs.inner.SmallTypes.{HasSmallTypes}
use Rattle.psdl_check.specs.inner.TypedMembers.{typed_names, typed_views}
use Rattle.psdl_check.specs.inner.Texts.{text_in}
use Rattle.psdl_check.proofs.Homing.{home_is}
use Rattle.psdl_check.proofs.homes.home_record.Goals as goal

pub member_list-requires-clause-small : goal.member_list-requires-clause-small
member_list-requires-clause-small c =
    let homes = homes_in c.args.laid.referents in
    subst (λ (ms : List PlainMember). HasSmallTypes ms)
    (sym (ap (λ (ts : List PlainType). typed_views ts homes c.deref-2.result.now) c.types.ensures ∙ ap (typed_views (types_in c.args.text.now.standings.now) homes) c.deref-2.ensures.value ∙ c.requires.laid.members))
    (c.args.text.now.small c.args.home)

pub returns : goal.returns
returns c numbered =
    let all = text_in c.args.text.now in
    let laid = c.args.laid in
    let made = subst (λ (d : List Declaration). AreFactories d c.args.home c.deref.result.now c.in_ok-made.made) c.requires.factories c.in_ok-made.ensures in
    home_is all c.args.home laid.name laid.base c.in_ok-members.members c.args.keys c.in_ok-made.made c.requires.laid.name c.requires.laid.base (c.in_ok-members.ensures ∙ ap (λ (ts : List PlainType). typed_views ts (homes_in laid.referents) c.deref-2.result.now) c.types.ensures ∙ ap (typed_views (types_in c.args.text.now.standings.now) (homes_in laid.referents)) c.deref-2.ensures.value ∙ c.requires.laid.members) numbered (made (ap typed_names c.deref.ensures.value ∙ c.requires.laid.names))
