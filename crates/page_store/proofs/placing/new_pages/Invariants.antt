use Rattle.std.proofs.Common.{◌≡◌, ◌++◌, length, map, take}
use Rattle.std.specs.Vec.Iter.{into_iter_items}
use Rattle.page_store.specs.Switch.{slots_of}
use Rattle.page_store.proofs.placing.new_pages.Given as goal

abbrev pub invariant-loop-entries : goal.invariant-loop-entries
invariant-loop-entries l = record {
  can : (goal.iterator-loop-entries).can_next l.entries-iterator;
  finite : (goal.iterator-loop-entries).is_finite l.entries-iterator;
  all : l.yielded ++ into_iter_items l.entries-iterator ≡ l.fn.pages.items;
  k : l.k ≡ length l.yielded;
  slots : slots_of l.new.items ≡ take l.k l.slots;
  pages : map (λ page. page.entries) l.new.items ≡ l.yielded;
}
