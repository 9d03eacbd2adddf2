use Rattle.std.proofs.Common.{◌≡◌, ◌≤◌, length, take, None}
use Rattle.type_layout.specs.NamePlaces.{place_among}
use Rattle.psdl_check.specs.inner.TypedMembers.{typed_names}
use Rattle.psdl_check.proofs.key_records.place_of.Given as goal

abbrev pub invariant-loop-place : goal.invariant-loop-place
invariant-loop-place l =
    record {
      within : l.place ≤ length l.members;
      none : place_among (typed_names (take l.place l.members)) l.name ≡ None;
    }
