use Rattle.std.proofs.Common.{◌≡◌, ◌<◌, length, ap, subst, sym, ◌∙◌, arith, Ok}
use Rattle.std.proofs.lemmas.List.{length-map}
use Rattle.type_layout.specs.declared.member.Member.{Member}
use Rattle.type_layout.specs.Members.{plain_member}
use Rattle.type_layout.specs.Views.{plain_type, plain_value}
use Rattle.cdr_codec.specs.Reading.{value_at}
use Rattle.cdr_codec.specs.Places.{IsFound, end_of}
use Rattle.cdr_codec.proofs.Skips.{to_found}
use Rattle.cdr_codec.proofs.Members.{member_of, member_is, front_found, if_ok}
use Rattle.cdr_codec.proofs.member.read_member.Goals as goal

pub members_end-at-requires-clause-found : goal.members_end-at-requires-clause-found
members_end-at-requires-clause-found c =
    let lt : c.args.member < length c.as_slice-members.result.now = omega (arith, c.requires.there, ap length c.as_slice-members.ensures, length-map c.as_slice-members.result.now plain_member) in
    front_found c.args.layout.now.members c.requires.sound c.args.bytes.now c.requires.spelled c.as_slice-members.result.now c.as_slice-members.ensures c.args.member lt

pub value_at_place-requires-clause-found : goal.value_at_place-requires-clause-found
value_at_place-requires-clause-found c =
    let lt : c.args.member < length c.as_slice-members.result.now = omega (arith, c.requires.there, ap length c.as_slice-members.ensures, length-map c.as_slice-members.result.now plain_member) in
    let m = c.index-members-member.result in
    let found = member_of c.args.layout.now.members c.requires.sound c.args.bytes.now c.requires.spelled c.as_slice-members.result.now c.as_slice-members.ensures c.args.member m lt c.index-members-member.is in
    let read : value_at (plain_type m.ty) c.args.bytes.now c.members_end-at.result ≡ Ok (found.value, found.after) = ap (value_at (plain_type m.ty) c.args.bytes.now) c.members_end-at.ensures.end ∙ found.read in
    subst (λ (x : Member). IsFound (value_at (plain_type x.ty) c.args.bytes.now c.members_end-at.result)) c.index-members-member.is (to_found (value_at (plain_type m.ty) c.args.bytes.now c.members_end-at.result) (found.value, found.after) read).0

pub returns : goal.returns
returns c =
    let lt : c.args.member < length c.as_slice-members.result.now = omega (arith, c.requires.there, ap length c.as_slice-members.ensures, length-map c.as_slice-members.result.now plain_member) in
    let m = c.index-members-member.result in
    if_ok c.value_at_place.result _ _ (λ value read s.
    let found = member_of c.args.layout.now.members c.requires.sound c.args.bytes.now s c.as_slice-members.result.now c.as_slice-members.ensures c.args.member m lt c.index-members-member.is in
    member_is c.as_slice-members.result.now c.args.bytes.now s.values c.args.member m found c.members_end-at.result c.members_end-at.ensures.end (plain_value value) _ (subst (λ (x : Member). value_at (plain_type x.ty) c.args.bytes.now c.members_end-at.result ≡ Ok (plain_value value, end_of (value_at (plain_type x.ty) c.args.bytes.now c.members_end-at.result))) (sym c.index-members-member.is) read)) c.value_at_place.ensures
