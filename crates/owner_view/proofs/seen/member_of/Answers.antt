use Rattle.cdr_codec.proofs.Members.{if_ok}
use Rattle.std.proofs.Common.{◌≡◌, List, length, ap, sym, ◌∙◌, arith}
use Rattle.type_layout.specs.declared.home.HomeNo.{HomeNo}
use Rattle.type_layout.specs.Schemas.{members_at}
use Rattle.owner_view.specs.Seen.{home_seen}
use Rattle.std.specs.List.{slice_get}
use Rattle.type_layout.specs.Types.{PlainValue}
use Rattle.owner_view.proofs.Showing.{spells, own_values, as_many, home_shown}
use Rattle.owner_view.proofs.seen.member_of.Goals as goal

pub returns-in-Stored : goal.returns-in-Stored
returns-in-Stored c = if_ok c.read_member.result _ _ (λ value tells s. tells (spells c.args.schema.now c.args.seen c.in-Stored.home c.in-Stored.bytes c.in-Stored.is c.layout_at.result.now.members c.layout_at.ensures s)) c.read_member.ensures

pub own_member-requires : goal.own_member-requires
own_member-requires c =
    let s = c.requires.shown in
    let many = as_many c.args.schema.now s.object s.fits in
    let same : length c.in-Own.object.now.record ≡ length s.object.values = ap length (own_values c.args.schema.now c.args.seen c.in-Own.object c.in-Own.is s) in
    let home : length (members_at c.args.schema.now (home_seen c.args.seen)) ≡ length (members_at c.args.schema.now s.object.home) = ap (λ (h : HomeNo). length (members_at c.args.schema.now h)) (home_shown c.args.schema.now c.args.seen s) in
    omega (arith, many, same, home, c.requires.there)

pub returns-in-Own : goal.returns-in-Own
returns-in-Own c = if_ok c.own_member.result _ _ (λ value is s. ap (λ (vs : List PlainValue). slice_get vs c.args.member) (sym (own_values c.args.schema.now c.args.seen c.in-Own.object c.in-Own.is s)) ∙ is) c.own_member.ensures
