use Rattle.std.proofs.Common.{map, ◌∙◌}
use Rattle.type_layout.specs.Members.{plain_member}
use Rattle.cdr_codec.proofs.Members.{read_there, key_there, if_ok}
use Rattle.cdr_codec.proofs.member_places.MemberPlaces.key_bytes.Goals as goal

pub parts_of-requires : goal.parts_of-requires
parts_of-requires c =
    let p = c.args.self.now in
    read_there p.schema.now c.requires.sound c.args.key p.home p.bytes.now p.octets c.requires.spelled (map plain_member c.members_at-members.result.now) c.deref.result.now c.members_at-members.ensures (c.deref.ensures.value ∙ p.placed)

pub returns : goal.returns
returns c =
    let p = c.args.self.now in
    if_ok c.parts_of.result _ _ (λ made so s. key_there p.schema.now c.requires.sound c.args.key p.home p.bytes.now p.octets s (map plain_member c.members_at-members.result.now) c.deref.result.now c.members_at-members.ensures (c.deref.ensures.value ∙ p.placed) c.indexes_of.result.now made c.indexes_of.ensures so) c.parts_of.ensures
