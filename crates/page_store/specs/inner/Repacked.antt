-- Pages with objects that were packed anew.
use Rattle.std.specs.Prelude.{ℕ, ◌≡◌, ◌+◌, ◌/◌, ◌≤◌, cond, List, [], length, map, None}
use Rattle.std.specs.FinMap.{empty, entries, get}
use Rattle.std.specs.List.Sorted.{IsStrictlySortedBy}
use Rattle.std.specs.Ordering.{nat_cmp}
use Rattle.pss_base.specs.declared.put.Put.{Put}
use Rattle.page_format.specs.Objects.{Objects, entries_left, entries_of, over, stored_of}
use Rattle.page_format.specs.Packing.{AreFilled, IsPacking, OnlyLastIsSmall, entries_on, used_by}
use Rattle.page_format.specs.Pages.{serials_of}
use Rattle.page_format.specs.Pages.{Entry}
use Rattle.page_format.specs.Written.{AreStorable}
use Rattle.page_store.specs.Checkpoints.{kept_slots, repacked_slots}
use Rattle.page_store.specs.Kept.{Kept, rows_in}
use Rattle.page_store.specs.Placed.{is_noted}
use Rattle.page_store.specs.inner.Located.{Apart, at}

-- pages that may be written, but for their slots
pub record MayBeWritten (pages : List (List Entry)) : Type 0 where
  pub storable : AreStorable (entries_on pages)
  pub filled : AreFilled pages
  pub large : OnlyLastIsSmall pages

-- the pages have these objects, each once, packed by rising serial, and are few
pub record AreRepacked (m : Objects) (pages : List (List Entry)) : Type 0 where
  pub written : MayBeWritten pages
  pub same : (q : ℕ) → at q (map stored_of (entries_on pages)) ≡ get m q
  pub apart : Apart (map stored_of (entries_on pages))
  pub packing : IsPacking (entries_on pages) pages
  pub rising : IsStrictlySortedBy nat_cmp (serials_of (entries_on pages))
  pub few : length pages ≤ used_by (entries_on pages) / 8328 + 1

-- these changes leave the objects of the pages that are packed anew, with the changes noted over them
pub record AreLeft (kept : Kept) (puts : List Put) (content : List ℕ) : Type 0 where
  pub left : entries_left puts ≡ entries_of (entries (over (over empty (rows_in content (repacked_slots kept))) kept.noted))

-- the changes that were noted are taken, and the objects of which they are
pub record AreTaken (kept now : Kept) : Type 0 where
  pub places_ : (q : ℕ) → get now.places q ≡ cond (is_noted q kept.noted) None (get kept.places q)
  pub pages : now ≡ record kept { places = now.places; noted = []; room = 0 }

-- what is packed anew, of what was kept
pub record IsRepacked (kept now : Kept) (stay : List ℕ) (puts : List Put) (content : List ℕ) : Type 0 where
  pub taken : AreTaken kept now
  pub stay_ : stay ≡ kept_slots kept
  pub left : AreLeft kept puts content
