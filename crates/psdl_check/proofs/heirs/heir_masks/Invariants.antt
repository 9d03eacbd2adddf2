use Rattle.std.proofs.Common.{◌≡◌, length}
use Rattle.psdl_check.proofs.Masks.{AreTold}
use Rattle.psdl_check.proofs.heirs.heir_masks.Given as goal

abbrev pub invariant-loop-number : goal.invariant-loop-number
invariant-loop-number l =
    record {
      sized : length l.masks.items ≡ length l.graph;
      told : AreTold l.graph l.group l.number l.masks.items;
    }
