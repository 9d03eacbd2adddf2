use Rattle.std.proofs.Common.{ℕ, ◌≡◌, ◌-◌, ◌≤◌, List, length, take}
use Rattle.std.specs.declared.option.Option.{Option}
use Rattle.std.specs.Option.{option_map}
use Rattle.pss_disk.specs.Images.{Stretch}
use Rattle.pss_disk.specs.Moments.{Moment}
use Rattle.page_format.specs.Written.{with_pages}
use Rattle.page_store.specs.inner.Laying.{IsLeft}
use Rattle.page_store.proofs.laying.write_pages.Given as goal

abbrev pub invariant-runs : goal.invariant-runs
invariant-runs g l = record {
  within : l.k ≤ length l.pages;
  size : l.buffer.size ≡ l.fn.buffer.size;
  content : g.W.Station.content l.w ≡ option_map (with_pages l.epoch (take l.k l.pages)) (g.W.Station.content l.fn.w);
  stretch : (area : ℕ) (content : Option (List ℕ)) (first : Moment) (before : List Moment) → Stretch (IsLeft area l.pages) content first before (g.W.Station.history l.fn.w) (g.W.Station.now l.fn.w) → Stretch (IsLeft area l.pages) content first before (g.W.Station.history l.w) (g.W.Station.now l.w);
  cause : g.W.Station.disk_faults l.w ≡ g.W.Station.disk_faults l.fn.w;
  other : g.W.Station.speak_faults l.w ≡ g.W.Station.speak_faults l.fn.w;
}

abbrev pub decreases-runs : goal.decreases-runs
decreases-runs g l = length l.pages - l.k
