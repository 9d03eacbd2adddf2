use Rattle.std.proofs.Common.{◌≡◌, map, Some}
use Rattle.std.specs.List.{slice_get}
use Rattle.type_layout.specs.Members.{plain_member}
use Rattle.type_layout.proofs.Lookups.{got, got_mapped}
use Rattle.cdr_codec.proofs.key.put_part_at.Goals as goal

pub put_part-requires : goal.put_part-requires
put_part-requires c =
    let m = c.in-Some.ensures.lookup in
    let p = c.in-Some-get.ensures.lookup in
    let read = c.requires c.args.index (plain_member c.in-Some.member.now) c.in-Some-get.place.now
    (got_mapped plain_member c.args.members.now c.args.index c.in-Some.member.now m.3.0 m.1)
    (got c.args.places.now c.args.index c.in-Some-get.place.now p.3.0 p.1) in
    record { sound = read.0; place = read.1; found = read.2 }

pub returns : goal.returns
returns c =
    let m = c.in-Some.ensures.lookup in
    let p = c.in-Some-get.ensures.lookup in
    let at_m : slice_get (map plain_member c.args.members.now) c.args.index ≡ Some (plain_member c.in-Some.member.now) = got_mapped plain_member c.args.members.now c.args.index c.in-Some.member.now m.3.0 m.1 in
    let at_p : slice_get c.args.places.now c.args.index ≡ Some c.in-Some-get.place.now = got c.args.places.now c.args.index c.in-Some-get.place.now p.3.0 p.1 in
    rw (at_m, at_p) c.put_part.ensures
