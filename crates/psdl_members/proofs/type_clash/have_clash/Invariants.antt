use Rattle.std.proofs.Common.{◌≡◌, length, take}
use Rattle.std.specs.List.{flat_map}
use Rattle.psdl_members.specs.inner.Flat.{piece_of}
use Rattle.psdl_members.specs.inner.Noted.{IsNoted}
use Rattle.psdl_members.proofs.type_clash.have_clash.Given as goal

abbrev pub invariant-loop-declaration : goal.invariant-loop-declaration
invariant-loop-declaration l =
    record {
      sized : length l.marks ≡ length l.fn.marks;
      noted : IsNoted l.marks (flat_map (λ n. piece_of l.names.starts.items n l.names.numbers.items) (take l.declaration-index l.declarations));
    }
