use Rattle.std.proofs.Common.{◌∙◌, ◌+◌, List, ℕ, length, ap}
use Rattle.std.specs.List.{flat_map}
use Rattle.type_layout.specs.declared.home.HomeNo.{HomeNo}
use Rattle.type_layout.specs.ShapeText.{base_number, member_line}
use Rattle.type_layout.specs.Types.{PlainType}
use Rattle.psdl_standings.specs.Texts.{types_in}
use Rattle.psdl_check.specs.inner.LineLengths.{length_of_home}
use Rattle.psdl_check.specs.inner.Lists.{homes_in}
use Rattle.psdl_standings.specs.TextLengths.{cut}
use Rattle.psdl_check.specs.declared.members.TypedMember.{TypedMember}
use Rattle.psdl_check.specs.inner.Texts.{text_in}
use Rattle.psdl_check.specs.inner.TypedMembers.{typed_views}
use Rattle.psdl_check.proofs.Homing.{front_whole}
use Rattle.psdl_check.proofs.homes.with_laid.Goals as goal

pub returns : goal.returns
returns c =
    let laid = c.args.laid.now in
    let views = typed_views (types_in c.args.text.now.standings.now) (homes_in laid.referents) laid.members.items in
    front_whole (text_in c.args.text.now) c.args.home laid.name laid.base c.home_no-number.result.0 c.args.front.0 c.home_line_length-line.result.0 c.followed_by.result.0 _ views
    (ap (λ (h : HomeNo). h.0) c.home_no-number.ensures) c.requires.name c.requires.base c.requires.members
    (c.home_line_length-line.ensures ∙ ap (λ (b : ℕ). length_of_home c.home_no-number.result.0 b c.as_slice.result.now) c.base_number.ensures ∙ ap (length_of_home c.home_no-number.result.0 (base_number laid.base)) c.as_slice.ensures) c.followed_by.ensures (c.with_members.ensures ∙ ap (λ (ts : List PlainType). cut (c.followed_by.result.0 + length (flat_map member_line (typed_views ts (homes_in laid.referents) c.deref.result.now)))) c.types.ensures ∙ ap (λ (ms : List TypedMember). cut (c.followed_by.result.0 + length (flat_map member_line (typed_views (types_in c.args.text.now.standings.now) (homes_in laid.referents) ms)))) c.deref.ensures.value)
