use Rattle.std.proofs.Common.{refl}
use Rattle.psdl_tree.specs.Views.{declarator_view}
use Rattle.psdl_standings.specs.Uses.{in_declarator, declarator_bounds}
use Rattle.psdl_standings.specs.declared.structs.Part.{Part}
use Rattle.psdl_standings.specs.inner.Walked.{names_in}
use Rattle.psdl_standings.proofs.Parted.{one_part}
use Rattle.psdl_standings.proofs.walk.Walk.declarator.Goals as goal

pub returns : goal.returns
returns c =
    let d = declarator_view c.args.declarator.now in
    let p : Part = record { name = c.as_slice.result; item = c.in_ok-number.number } in
    one_part c.args.self.now c.arrays.new.self c.args.spot (in_declarator c.args.spot.limit d) (declarator_bounds c.args.spot.limit d) (names_in c.args.self.now c.args.spot) d c.args.item c.in_ok-number.number p c.args.parts.now.items c.push.new.self.items
    c.requires.parts (rw c.deref.ensures.value at c.in_ok-number.ensures) c.as_slice.ensures refl c.in_ok-push.ensures.items
