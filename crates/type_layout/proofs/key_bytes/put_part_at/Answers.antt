use Rattle.std.proofs.Common.{◌≡◌, map, Some}
use Rattle.std.specs.List.{slice_get}
use Rattle.type_layout.specs.Views.{plain_value}
use Rattle.type_layout.specs.Members.{plain_member}
use Rattle.type_layout.proofs.Lookups.{got_mapped}
use Rattle.type_layout.proofs.key_bytes.put_part_at.Goals as goal

pub put_part-requires : goal.put_part-requires
put_part-requires c =
    let m = c.in-Some.ensures.lookup in
    let v = c.in-Some-get.ensures.lookup in
    c.requires (plain_member c.in-Some.member.now) (plain_value c.in-Some-get.value.now)
    (got_mapped plain_member c.args.members.now c.args.index c.in-Some.member.now m.3.0 m.1)
    (got_mapped plain_value c.args.values.now c.args.index c.in-Some-get.value.now v.3.0 v.1)

pub returns : goal.returns
returns c =
    let m = c.in-Some.ensures.lookup in
    let v = c.in-Some-get.ensures.lookup in
    let at_m : slice_get (map plain_member c.args.members.now) c.args.index ≡ Some (plain_member c.in-Some.member.now) = got_mapped plain_member c.args.members.now c.args.index c.in-Some.member.now m.3.0 m.1 in
    let at_v : slice_get (map plain_value c.args.values.now) c.args.index ≡ Some (plain_value c.in-Some-get.value.now) = got_mapped plain_value c.args.values.now c.args.index c.in-Some-get.value.now v.3.0 v.1 in
    rw (at_m, at_v) c.put_part.ensures
