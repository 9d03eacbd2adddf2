-- What images of a store stand for that keep its root and its pages.
use Rattle.std.proofs.Common.{ℕ, ◌≡◌, inl, ◌+◌, ◌<◌, ◌≤◌, List, [], ◌∷◌, ◌++◌, length, map, get_or, Option, None, Some, slice_get, unwrap_or, refl, sym, ap, ◌∙◌, subst, arith}
use Rattle.std.proofs.lemmas.Option.{unwrap_or-slice_get}
use Rattle.std.specs.FinMap.{empty}
use Rattle.pss_disk.specs.Images.{Agrees}
use Rattle.std.specs.Int.{to_be_bytes, w32, w64}
use Rattle.pss_disk.specs.Parts.{Stands as StandsIn, octet_at}
use Rattle.pss_disk.proofs.Parts.{agrees_at, stands_first, stands_second}
use Rattle.type_layout.specs.declared.schema.Schema.{Schema}
use Rattle.pss_catalog.specs.Catalog.{Catalog}
use Rattle.redo_journal.specs.Journal.{HasEpoch, Holds, IsClosed, IsReady, Position, header, journal_end, journal_start, spelled}
use Rattle.page_format.specs.declared.root.Root.{Root}
use Rattle.std.specs.FinMap as finite
use Rattle.page_store.specs.Kept.{IsKept, Kept}
use Rattle.page_format.specs.Laws.{AreSame}
use Rattle.page_format.specs.Pages.{Entry}
use Rattle.page_format.specs.Pages.{ArePages, IsSmallOne, entries_in, octets_in_use, put_of}
use Rattle.page_format.specs.Places.{slot_start}
use Rattle.page_format.specs.Roots.{HasRoot}
use Rattle.page_store.specs.Stores.{HasStore}
use Rattle.page_format.proofs.Staying.{all_places, slot_inside, store_kept, used_same}
use Rattle.pss_recovery.specs.Area.{IsOutsideJournal}
use Rattle.pss_recovery.specs.Loading.{AreLoaded}
use Rattle.pss_recovery.specs.Mounted.{IsMounted}
use Rattle.pss_recovery.specs.Replaying.{AreReplayed}
use Rattle.pss_recovery.specs.Stands.{IsLoaded, Stands}
use Rattle.pss_recovery.specs.declared.parts.Parts.{Parts}

-- places outside of the journal
in_front : (i : ℕ) → i < journal_start → IsOutsideJournal i
in_front i lt = grind (arith, lt)

behind_it : (i : ℕ) → journal_end ≤ i → IsOutsideJournal i
behind_it i le = grind (arith, le)

module _ (S : Schema) (root : Root) (base : Catalog) (c : List ℕ) (loaded : IsLoaded S root base c) where
  -- the objects in the pages
  abbrev pub objects : List Entry
  objects = entries_in c root.slots

  pub store_there : HasStore root objects c
  store_there = record { root_ = loaded.paged.rooted.root_; pages = loaded.paged.pages; objects_ = refl }

  -- an image with the same root and objects
  pub loaded_there : (image : List ℕ) → HasStore root objects image → IsLoaded S root base image
  loaded_there image has = record {
    paged = record { rooted = record { root_ = has.root_; shape = loaded.paged.rooted.shape }; pages = has.pages };
    loaded = subst (λ (es : List Entry). AreLoaded S root.next empty (map put_of es) base) (sym has.objects_) loaded.loaded;
    bounded = loaded.bounded;
  }

  -- an image that is as it was but for the journal
  pub store_outside : (image : List ℕ) → Agrees IsOutsideJournal c image → length c ≤ length image → HasStore root objects image
  store_outside image agrees long =
      let there = store_kept root c image loaded.paged.rooted.root_ (λ i low high. agrees_at IsOutsideJournal c image i agrees (in_front i high) (omega (arith, high, loaded.paged.rooted.root_.long)))
      (λ i low high. agrees_at IsOutsideJournal c image i agrees (behind_it i low) high) long in
      record { root_ = there.root_; pages = there.pages.pages loaded.paged.pages; objects_ = there.pages.entries loaded.paged.pages }

-- with a journal of its epoch it stands for what the bodies make
pub stands_with : (S : Schema) (root : Root) (base : Catalog) (image : List ℕ) (position : Position) (bodies : List (List ℕ)) (M : Catalog) (next : ℕ) → IsLoaded S root base image → position.epoch ≡ root.epoch → Holds position bodies image → AreReplayed S base root.next bodies M next → Stands S M next image
stands_with S root base image position bodies M next loaded epoch holds replayed = record {
  root = root;
  base = base;
  end = position.end;
  bodies = bodies;
  read = record { loaded = loaded; journal = subst (λ (n : ℕ). Holds (record { end = position.end; epoch = n }) bodies image) epoch holds };
  replayed = replayed;
}

octet_is : (l : List ℕ) (i x : ℕ) → slice_get l i ≡ Some x → octet_at l i ≡ x
octet_is l i x e = sym (unwrap_or-slice_get l i 0) ∙ ap (λ o. unwrap_or o 0) e

pub ready_closed : (position : Position) (bodies : List (List ℕ)) (image : List ℕ) → IsReady position bodies image → IsClosed image position.end
ready_closed position bodies image ready open_ = ready.closed (sym (octet_is image position.end ready.gate ready.there) ∙ open_)

-- a gate that is there and closed ends the journal
pub ready_holds : (position : Position) (bodies : List (List ℕ)) (image : List ℕ) → IsReady position bodies image → Holds position bodies image
ready_holds position bodies image ready = record { chain = ready.chain; ends = inl (ready_closed position bodies image ready) }

-- a record has its epoch behind its gate
pub epoch_of : (epoch : ℕ) (image body : List ℕ) → StandsIn image journal_start (spelled epoch body) → HasEpoch epoch image journal_start
unfolding header
epoch_of epoch image body s =
    let e = to_be_bytes w64 epoch in
    let n = to_be_bytes w32 (length body) in
    stands_first image e n (journal_start + 1) (stands_first image (e ++ n) body (journal_start + 1) (stands_second image (165 ∷ []) ((e ++ n) ++ body) journal_start (journal_start + 1) refl s))

-- the content of a store that is mounted stands for its catalog
pub mounted_stands : (S : Schema) (M : Catalog) (next : ℕ) (store : Parts) (content : List ℕ) → IsMounted S M next store content → Stands S M next content
mounted_stands S M next store content mounted =
    stands_with S mounted.root mounted.base content store.journal mounted.bodies M next mounted.loaded mounted.of_epoch (ready_holds store.journal mounted.bodies content mounted.ready) mounted.replayed

-- what is known of pages in an image that is as it was but for the journal
module _ (root : Root) (c other : List ℕ) (has : HasRoot root c) (pages : ArePages root.next root.slots c) (agrees : Agrees IsOutsideJournal c other) (long : length c ≤ length other) where
  slot_same : (slot j : ℕ) → j < length root.slots → get_or root.slots j 0 ≡ slot → AreSame (slot_start slot) (slot_start slot + 16384) c other
  slot_same slot j lt is i low high = agrees_at IsOutsideJournal c other i agrees (behind_it i (omega (arith, low))) (omega (arith, high, slot_inside root c has j lt, ap slot_start is))

  uses_same : (slot j : ℕ) → j < length root.slots → get_or root.slots j 0 ≡ slot → octets_in_use other (slot_start slot) ≡ octets_in_use c (slot_start slot)
  uses_same slot j lt is = used_same (slot_start slot) slot c other (slot_same slot j lt is)

  small_outside : (small : Option ℕ) → IsSmallOne c root.slots small → IsSmallOne other root.slots small
  small_outside None none = λ j lt small. none j lt (omega (arith, small, uses_same (get_or root.slots j 0) j lt refl))
  small_outside (Some slot) one = (one.0, one.1, one.2, omega (arith, one.3, uses_same slot one.0 one.1 one.2))

  pub kept_outside : (kept : Kept) → IsKept root kept c → IsKept root kept other
  kept_outside kept is = record {
    area_ = is.area_;
    epoch_ = is.epoch_;
    shape_ = is.shape_;
    slots_ = is.slots_;
    places_ = is.places_ ∙ ap finite.from_entries (sym (all_places c other root.slots (λ k lt. slot_same (get_or root.slots k 0) k lt refl) pages.whole));
    small_ = small_outside kept.small is.small_;
  }
