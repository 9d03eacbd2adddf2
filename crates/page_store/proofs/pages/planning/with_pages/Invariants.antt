use Rattle.std.proofs.Common.{◌≡◌, ◌++◌, take}
use Rattle.page_store.specs.Switch.{slots_of}
use Rattle.page_store.proofs.pages.planning.with_pages.Given as goal

abbrev pub invariant-loop-page : goal.invariant-loop-page
invariant-loop-page l = l.slots ≡ l.fn.slots ++ slots_of (take l.page-index l.pages)
