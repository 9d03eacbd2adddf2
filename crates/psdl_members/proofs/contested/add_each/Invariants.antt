use Rattle.std.proofs.Common.{◌≡◌, length, take, true}
use Rattle.std.specs.List.{list_all}
use Rattle.psdl_members.specs.inner.Contested.{is_covered}
use Rattle.psdl_members.proofs.contested.add_each.Given as goal

abbrev pub invariant-loop-entry : goal.invariant-loop-entry
invariant-loop-entry l =
    record {
      sized : length l.lists.items ≡ length l.fn.lists.items;
      covered : list_all (is_covered l.lists.items) (take l.entry-index l.entries) ≡ true;
    }
