-- A store gets its next root.
use Rattle.std.proofs.Common.{ℕ, ◌≡◌, ◌⊎◌, inl, inr, ◌+◌, ◌%◌, ◌^◌, ◌<◌, ◌≤◌, List, [], ◌∷◌, length, map, slice_get, Option, None, Some, IfSome, refl, sym, ap, ◌∙◌, subst, arith}
use Rattle.std.proofs.lemmas.Option.{slice_get-get_or}
use Rattle.std.specs.FinMap.{empty, get}
use Rattle.std.specs.Option.{option_map}
use Rattle.pss_disk.specs.Moments.{Moment, Disk, IsImage, Through}
use Rattle.pss_disk.specs.Parts.{octet_at}
use Rattle.pss_disk.proofs.Passing.{weaker}
use Rattle.type_layout.specs.declared.schema.Schema.{Schema}
use Rattle.pss_catalog.specs.Catalog.{Catalog, IsGood, Object}
use Rattle.redo_journal.specs.Journal.{HasEpoch, IsClosed, IsReady, Position, journal_end, journal_start}
use Rattle.page_format.specs.declared.root.Root.{Root}
use Rattle.page_store.specs.Checkpoints.{HasMade, IsEitherStore, IsMade, MayCheckpoint}
use Rattle.page_format.specs.Objects.{by_serial, over}
use Rattle.page_format.specs.Pages.{Entry}
use Rattle.page_format.specs.Pages.{AreGiven, entries_in, put_of, serials_of}
use Rattle.page_store.specs.Stores.{AllHave}
use Rattle.page_store.specs.Switch.{Old}
use Rattle.page_format.specs.declared.objects.Stored.{Stored}
use Rattle.page_store.proofs.Givens.{apart_from}
use Rattle.pss_recovery.specs.Loading.{AreLoaded}
use Rattle.pss_recovery.specs.Mounted.{IsMounted, IsWhole}
use Rattle.pss_recovery.specs.Stands.{IsLoaded, Stands}
use Rattle.pss_recovery.specs.declared.parts.Parts.{Parts}
use Rattle.pss_recovery.proofs.Goodness.{mounted_good}
use Rattle.pss_recovery.proofs.Mirrors.{Mirrors, in_pages, mirrors_loaded, mirrors_replayed, reloaded}
use Rattle.pss_recovery.proofs.PageSums.{sum_of}
use Rattle.pss_recovery.proofs.Standing.{epoch_of, loaded_there, ready_closed, ready_holds, stands_with, store_there}

module _ (S : Schema) (M : Catalog) (next : ℕ) (store : Parts) (c : List ℕ) (mounted : IsMounted S M next store c) where
  abbrev root : Root
  root = mounted.root

  abbrev objects : List Entry
  objects = entries_in c root.slots

  -- what the store has
  abbrev pub old : Old
  old = record { root = root; objects = objects; position = store.journal; bodies = mounted.bodies }

  good : IsGood S M next
  good = mounted_good S M next store c mounted

  -- the pages with the changes noted have the objects of the catalog
  mirrors : Mirrors S M (over (by_serial objects) store.pages.noted)
  mirrors =
      mirrors_replayed S mounted.base root.next mounted.bodies M next store.pages.noted (by_serial objects) mounted.replayed mounted.noted
      (mirrors_loaded S root.next objects mounted.base mounted.loaded.loaded (apart_from root.next [] objects mounted.loaded.paged.pages.given))

  long : journal_end ≤ length c
  long = mounted.loaded.paged.rooted.root_.long

  -- the first gate is closed, or has a record of the root's epoch behind it
  first_gate : IsClosed c journal_start ⊎ HasEpoch root.epoch c journal_start
  first_gate = by mounted.bodies mounted.ready
    where
      by : (bodies : List (List ℕ)) → IsReady store.journal bodies c → IsClosed c journal_start ⊎ HasEpoch root.epoch c journal_start
      by [] ready = inl (subst (IsClosed c) ready.chain (ready_closed store.journal [] c ready))
      by (body ∷ bodies) ready = inr (subst (λ (n : ℕ). HasEpoch n c journal_start) mounted.of_epoch (epoch_of store.journal.epoch c body ready.chain.1))

  pub may_checkpoint : store.journal.end < journal_end → MayCheckpoint old store.pages next c
  may_checkpoint within = record {
    store = store_there S root mounted.base c mounted.loaded;
    journal = record { long = long; within = within; holds = ready_holds store.journal mounted.bodies c mounted.ready };
    kept_ = mounted.pages_;
    first = first_gate;
    given = λ q. given_of q (get (over (by_serial objects) store.pages.noted) q) (mirrors q);
    sum = omega (arith, sum_of S M (over (by_serial objects) store.pages.noted) mirrors, good.bounded);
  }
    where
      given_of : (q : ℕ) (o : Option Stored) → o ≡ option_map (in_pages S) (get M q) → IfSome o (λ _. (1 ≤ q) × (q < next))
      given_of q None e = tt
      given_of q (Some x) e = by (get M q) refl
        where
          by : (p : Option Object) → get M q ≡ p → (1 ≤ q) × (q < next)
          by None none = let no : Some x ≡ None = e ∙ ap (option_map (in_pages S)) none in absurd (cc)
          by (Some object) is = let given = good.serials q object is in (omega (arith, given.0), given.1)

  -- the root that a checkpoint gave, with the objects of the catalog in its pages
  made_loaded : (image : List ℕ) (made : HasMade old store.pages next image) → IsLoaded S made.root M image
  made_loaded image made =
      let has = made.store.store in
      let es = made.objects in
      let next_is = made.made.next_ in
      let mirror : Mirrors S M (by_serial es) = subst (Mirrors S M) (sym made.made.objects_) mirrors in
      let apart = apart_from made.root.next [] es (subst (λ (l : List Entry). AreGiven made.root.next [] (serials_of l)) has.objects_ has.pages.given) in
      let rows : AreLoaded S next empty (map put_of es) M = reloaded S next M good es apart mirror in
      record {
        paged = record { rooted = record { root_ = has.root_; shape = made.made.shape_ ∙ mounted.loaded.paged.rooted.shape }; pages = has.pages };
        loaded = subst (λ (l : List Entry). AreLoaded S made.root.next empty (map put_of l) M) (sym has.objects_) (subst (λ (n : ℕ). AreLoaded S n empty (map put_of es) M) (sym next_is) rows);
        bounded = good.bounded;
      }

  -- each image of a checkpoint stands for the same
  pub either_stands : (image : List ℕ) → IsEitherStore old store.pages next image → Stands S M next image
  either_stands image (inl has) =
      stands_with S root mounted.base image store.journal mounted.bodies M next (loaded_there S root mounted.base c mounted.loaded image has.store) mounted.of_epoch has.journal mounted.replayed
  either_stands image (inr made) =
      stands_with S made.root M image (record { end = journal_start; epoch = made.root.epoch }) [] M next (made_loaded image made) refl (record { chain = refl; ends = made.store.none }) (refl, sym made.made.next_)

  pub moments_stand : (before after : List Moment) → Through before after (AllHave (IsEitherStore old store.pages next)) → Through before after (AllHave (Stands S M next))
  moments_stand before after images = weaker before after (AllHave (IsEitherStore old store.pages next)) (AllHave (Stands S M next)) (λ m h. each m.disk h) images
    where
      each : (disk : Option Disk) → IfSome disk (λ d. (image : List ℕ) → IsImage d image → IsEitherStore old store.pages next image) → IfSome disk (λ d. (image : List ℕ) → IsImage d image → Stands S M next image)
      each None h = tt
      each (Some d) h = λ image at. either_stands image (h image at)

  -- and so does the content afterwards
  pub then_mounted : (new : Parts) (image : List ℕ) → IsMade old store.pages next new.pages image → IsClosed image journal_start → new.journal ≡ record { end = journal_start; epoch = new.epoch } → new.epoch ≡ (store.epoch + 1) % 2 ^ 64 → new.next ≡ store.next → new.pages.noted ≡ []
      → IsMounted S M next new image
  then_mounted new image is closed journal epoch next_is noted =
      let made = is.new in
      let of_root : new.epoch ≡ made.root.epoch = epoch ∙ ap (λ n. (n + 1) % 2 ^ 64) mounted.epoch_ ∙ sym made.made.epoch_ in
      record {
        root = made.root;
        base = M;
        bodies = [];
        loaded = made_loaded image made;
        replayed = (refl, sym made.made.next_);
        ready = subst (λ (p : Position). IsReady p [] image) (sym journal) (record { chain = refl; gate = octet_at image journal_start; there = there image made.store.store.root_.long; closed = closed });
        of_epoch = ap (λ (p : Position). p.epoch) journal ∙ of_root;
        epoch_ = of_root;
        next_ = next_is ∙ mounted.next_;
        pages_ = is.kept_;
        noted = noted;
      }
    where
      there : (l : List ℕ) → journal_end ≤ length l → slice_get l journal_start ≡ Some (octet_at l journal_start)
      there l long = slice_get-get_or l journal_start 0 (omega (arith, long))

-- ---- for each content that is told

module _ (store : Parts) (whole : IsWhole store) (S : Schema) (M : Catalog) (next : ℕ) where
  own_next : (c : List ℕ) → IsMounted S M next store c → IsMounted S M store.next store c
  own_next c mounted = subst (λ (n : ℕ). IsMounted S M n store c) (sym mounted.next_) mounted

  pub all_stand : (content : Option (List ℕ)) (before after : List Moment) → ((o : Old) → IfSome content (λ c. MayCheckpoint o store.pages store.next c → Through before after (AllHave (IsEitherStore o store.pages store.next))))
      → IfSome content (λ c. IsMounted S M next store c → Through before after (AllHave (Stands S M next)))
  all_stand None before after stores = tt
  all_stand (Some c) before after stores = λ mounted.
      let own = own_next c mounted in
      subst (λ (n : ℕ). Through before after (AllHave (Stands S M n))) mounted.next_ (moments_stand S M store.next store c own before after (stores (old S M store.next store c own) (may_checkpoint S M store.next store c own whole.within)))

  pub all_mounted : (content later : Option (List ℕ)) (new : Parts) → ((o : Old) → IfSome content (λ c. MayCheckpoint o store.pages store.next c → IfSome later (IsMade o store.pages store.next new.pages))) → IfSome later (λ c. IsClosed c journal_start)
      → new.journal ≡ record { end = journal_start; epoch = new.epoch } → new.epoch ≡ (store.epoch + 1) % 2 ^ 64 → new.next ≡ store.next → new.pages.noted ≡ [] → IfSome content (λ c. IsMounted S M next store c → IfSome later (IsMounted S M next new))
  all_mounted None later new made closed journal epoch next_is noted = tt
  all_mounted (Some c) later new made closed journal epoch next_is noted = λ mounted.
      let own = own_next c mounted in
      let o = old S M store.next store c own in
      by later own (made o (may_checkpoint S M store.next store c own whole.within)) closed mounted.next_
    where
      by : (l : Option (List ℕ)) → (mounted : IsMounted S M store.next store c) → IfSome l (IsMade (old S M store.next store c mounted) store.pages store.next new.pages) → IfSome l (λ c. IsClosed c journal_start) → store.next ≡ next → IfSome l (IsMounted S M next new)
      by None mounted made closed same = tt
      by (Some image) mounted made closed same = subst (λ (n : ℕ). IsMounted S M n new image) same (then_mounted S M store.next store c mounted new image made closed journal epoch next_is noted)
