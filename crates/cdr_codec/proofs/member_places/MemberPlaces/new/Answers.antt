use Rattle.std.proofs.Common.{map}
use Rattle.type_layout.specs.Members.{plain_member}
use Rattle.cdr_codec.proofs.Members.{found_there}
use Rattle.cdr_codec.proofs.member_places.MemberPlaces.new.Goals as goal

pub places_of-requires-clause-found : goal.places_of-requires-clause-found
places_of-requires-clause-found c = found_there c.args.schema.now c.requires.sound c.args.home c.args.bytes.now c.requires.spelled (map plain_member c.members_at.result.now) c.members_at.ensures
