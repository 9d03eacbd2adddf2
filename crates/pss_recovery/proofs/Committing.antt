-- A body is appended to the journal of a store.
use Rattle.std.proofs.Common.{ℕ, ◌≡◌, ◌⊎◌, inl, inr, ◌+◌, ◌≤◌, List, [], ◌∷◌, ◌++◌, length, Option, None, Some, IfSome, refl, sym, ap, ◌∙◌, subst, arith}
use Rattle.std.specs.Option.{option_map}
use Rattle.pss_disk.specs.Images.{Agrees, AllAgree, IsOutside, Keeps}
use Rattle.pss_disk.specs.Moments.{Disk, IsImage, Moment, Range, Through}
use Rattle.pss_disk.specs.Octets.{SameOutside, StaysOutside, range_of, write}
use Rattle.pss_disk.proofs.Images.{stays_wider, stays_written}
use Rattle.pss_disk.proofs.Passing.{both_have, weaker}
use Rattle.type_layout.specs.declared.schema.Schema.{Schema}
use Rattle.pss_catalog.specs.Catalog.{Catalog}
use Rattle.redo_journal.specs.Journal.{Fits, Holds, HoldsEither, IsReady, NoShorter, Position, advanced, framed, journal_start}
use Rattle.redo_journal.proofs.Keeping.{keeps_fewer}
use Rattle.redo_journal.proofs.Spelling.{length-framed}
use Rattle.page_store.specs.Kept.{IsKept}
use Rattle.page_store.specs.Stores.{AllHave}
use Rattle.pss_recovery.specs.Area.{IsOutsideJournal, journal_area}
use Rattle.pss_recovery.specs.Mounted.{HasRoom, IsMounted, IsPrepared, IsWhole, StandsEither}
use Rattle.pss_recovery.specs.Noted.{AreNoted}
use Rattle.pss_recovery.specs.Replaying.{AreReplayed, IsRight}
use Rattle.pss_recovery.specs.declared.body.Body.{Body}
use Rattle.pss_recovery.specs.declared.parts.Parts.{Parts}
use Rattle.pss_recovery.specs.declared.prepared.Prepared.{Prepared}
use Rattle.pss_recovery.proofs.Notes.{noted_more}
use Rattle.pss_recovery.proofs.Replays.{replayed_more}
use Rattle.pss_recovery.proofs.Standing.{kept_outside, loaded_there, stands_with, store_outside}

-- the record of a body that fits lies in the journal
module _ (end epoch : ℕ) (body : List ℕ) (start : journal_start ≤ end) (fits : Fits end (length body)) where
  abbrev frame : Range
  frame = range_of end (framed epoch body)

  stands_inside : end + length (framed epoch body) ≤ 4456448
  stands_inside = omega (arith, fits, length-framed epoch body)

  pub stays_outside : (old new : Option (List ℕ)) → StaysOutside frame old new → StaysOutside journal_area old new
  stays_outside old new stays = stays_wider journal_area frame old new start stands_inside stays

  outside_it : (i : ℕ) → IsOutsideJournal i → IsOutside frame i
  outside_it i out = grind (arith, out, start, stands_inside)

  pub keeps_outside : (content : Option (List ℕ)) (before after : List Moment) → Through before after (Keeps (IsOutside frame) content) → Through before after (Keeps IsOutsideJournal content)
  keeps_outside content before after keeps = weaker before after (Keeps (IsOutside frame) content) (Keeps IsOutsideJournal content) (λ m h. keeps_fewer (IsOutside frame) IsOutsideJournal content m outside_it h) keeps

agrees_outside : (c other : List ℕ) → SameOutside journal_area c other → Agrees IsOutsideJournal c other
agrees_outside c other same i out lt = same.others i lt out

module _ (S : Schema) (M : Catalog) (next : ℕ) (store : Parts) (prepared : Prepared) (N : Catalog) (c : List ℕ) (spells : HasRoom store prepared) (is : IsPrepared S M next store prepared.body N c) where
  abbrev mounted : IsMounted S M next store c
  mounted = is.mounted

  abbrev body : Body
  body = prepared.body

  right : IsRight S M next prepared.octets N body.next
  right = record { body = body; spells = spells.spells; last_ = refl; changed = is.changed }

  more : AreReplayed S mounted.base mounted.root.next (mounted.bodies ++ prepared.octets ∷ []) N body.next
  more = replayed_more S mounted.base mounted.root.next mounted.bodies M next prepared.octets N body.next mounted.replayed right

  -- each image stands for one of the two
  image_stands : (image : List ℕ) → Agrees IsOutsideJournal c image → length c ≤ length image → Holds store.journal mounted.bodies image ⊎ Holds (advanced (length prepared.octets) store.journal) (mounted.bodies ++ prepared.octets ∷ []) image
      → StandsEither S M next N body.next image
  image_stands image agrees long (inl holds) =
      let there = loaded_there S mounted.root mounted.base c mounted.loaded image (store_outside S mounted.root mounted.base c mounted.loaded image agrees long) in
      inl (stands_with S mounted.root mounted.base image store.journal mounted.bodies M next there mounted.of_epoch holds mounted.replayed)
  image_stands image agrees long (inr holds) =
      let there = loaded_there S mounted.root mounted.base c mounted.loaded image (store_outside S mounted.root mounted.base c mounted.loaded image agrees long) in
      inr (stands_with S mounted.root mounted.base image (advanced (length prepared.octets) store.journal) (mounted.bodies ++ prepared.octets ∷ []) N body.next there mounted.of_epoch holds more)

  disk_stands : (disk : Option Disk) → IfSome disk (λ d. (image : List ℕ) → IsImage d image → Holds store.journal mounted.bodies image ⊎ Holds (advanced (length prepared.octets) store.journal) (mounted.bodies ++ prepared.octets ∷ []) image)
      → AllAgree IsOutsideJournal (Some c) disk → IfSome disk (λ d. (image : List ℕ) → IsImage d image → length c ≤ length image) → IfSome disk (λ d. (image : List ℕ) → IsImage d image → StandsEither S M next N body.next image)
  disk_stands None holds agrees long = tt
  disk_stands (Some d) holds agrees long = λ image at. image_stands image (agrees image at) (long image at) (holds image at)

  pub moments_stand : (before after : List Moment) → Through before after (HoldsEither store.journal mounted.bodies prepared.octets) → Through before after (Keeps IsOutsideJournal (Some c)) → Through before after (NoShorter (Some c))
      → Through before after (AllHave (StandsEither S M next N body.next))
  moments_stand before after holds keeps long =
      let two = both_have before after (Keeps IsOutsideJournal (Some c)) (NoShorter (Some c)) keeps long in
      let all = both_have before after (HoldsEither store.journal mounted.bodies prepared.octets) (λ m. Keeps IsOutsideJournal (Some c) m × NoShorter (Some c) m) holds two in
      weaker before after (λ m. HoldsEither store.journal mounted.bodies prepared.octets m × (Keeps IsOutsideJournal (Some c) m × NoShorter (Some c) m)) (AllHave (StandsEither S M next N body.next)) (λ m h. disk_stands m.disk h.0 h.1.0 h.1.1) all

  -- then the content stands for the other catalog
  pub then_mounted : (new : Parts) (room : ℕ) (other : List ℕ) → new.pages ≡ record store.pages { noted = store.pages.noted ++ body.puts; room = room } → new.epoch ≡ store.epoch → new.next ≡ body.next → new.journal.epoch ≡ store.journal.epoch
      → IsReady new.journal (mounted.bodies ++ prepared.octets ∷ []) other → SameOutside journal_area c other → IsMounted S N body.next new other
  then_mounted new room other pages epoch next_is of_epoch ready same =
      let agrees = agrees_outside c other same in
      let root = mounted.root in
      let kept = kept_outside root c other mounted.loaded.paged.rooted.root_ mounted.loaded.paged.pages agrees same.no_shorter store.pages mounted.pages_ in
      record {
        root = root;
        base = mounted.base;
        bodies = mounted.bodies ++ prepared.octets ∷ [];
        loaded = loaded_there S root mounted.base c mounted.loaded other (store_outside S root mounted.base c mounted.loaded other agrees same.no_shorter);
        replayed = more;
        ready = ready;
        of_epoch = of_epoch ∙ mounted.of_epoch;
        epoch_ = epoch ∙ mounted.epoch_;
        next_ = next_is;
        pages_ = subst (λ (k : _). IsKept root k other) (sym pages) (record { area_ = kept.area_; epoch_ = kept.epoch_; shape_ = kept.shape_; slots_ = kept.slots_; places_ = kept.places_; small_ = kept.small_ });
        noted = subst (λ (k : _). AreNoted (mounted.bodies ++ prepared.octets ∷ []) k.noted) (sym pages) (noted_more mounted.bodies store.pages.noted prepared.octets body mounted.noted spells.spells);
      }

-- ---- for each content that is told

module _ (inside store : Parts) (view : inside ≡ store) (whole : IsWhole inside) (prepared : Prepared) (room : HasRoom store prepared) (octets : List ℕ) (is : octets ≡ prepared.octets) where
  has_room : HasRoom inside prepared
  has_room = subst (λ (p : Parts). HasRoom p prepared) (sym view) room

  fits_here : Fits inside.journal.end (length octets)
  fits_here = subst (λ (l : List ℕ). Fits inside.journal.end (length l)) (sym is) has_room.fits

  abbrev here : Range
  here = range_of inside.journal.end (framed inside.journal.epoch octets)

  pub all_outside : (old : Option (List ℕ)) (before after : List Moment) → Through before after (Keeps (IsOutside here) old) → Through before after (Keeps IsOutsideJournal old)
  all_outside old before after keeps = keeps_outside inside.journal.end inside.journal.epoch octets whole.behind fits_here old before after keeps

  pub all_stay : (old new : Option (List ℕ)) → StaysOutside here old new → StaysOutside journal_area old new
  all_stay old new stays = stays_outside inside.journal.end inside.journal.epoch octets whole.behind fits_here old new stays

  pub all_written : (old new : Option (List ℕ)) → new ≡ option_map (write inside.journal.end (framed inside.journal.epoch octets)) old → StaysOutside journal_area old new
  all_written old new e = all_stay old new (stays_written inside.journal.end (framed inside.journal.epoch octets) old new e)

  pub all_images : (old : Option (List ℕ)) (before after : List Moment) → ((bodies : List (List ℕ)) → IfSome old (IsReady inside.journal bodies) → Through before after (HoldsEither inside.journal bodies octets)) → Through before after (Keeps (IsOutside here) old)
      → Through before after (NoShorter old) → (S : Schema) (M N : Catalog) (next : ℕ) → IfSome old (λ c. IsPrepared S M next store prepared.body N c → Through before after (AllHave (StandsEither S M next N prepared.body.next)))
  all_images None before after holds keeps long S M N next = tt
  all_images (Some c) before after holds keeps long S M N next = λ p.
      let q : IsPrepared S M next inside prepared.body N c = subst (λ (x : Parts). IsPrepared S M next x prepared.body N c) (sym view) p in
      moments_stand S M next inside prepared N c has_room q before after (subst (λ (l : List ℕ). Through before after (HoldsEither inside.journal q.mounted.bodies l)) is (holds q.mounted.bodies q.mounted.ready)) (all_outside (Some c) before after keeps) long

  pub all_made : (after : Parts) (number : ℕ) (old new : Option (List ℕ)) → new ≡ option_map (write inside.journal.end (framed inside.journal.epoch octets)) old → after.pages ≡ record inside.pages { noted = inside.pages.noted ++ prepared.body.puts; room = number } → after.epoch ≡ inside.epoch
      → after.next ≡ prepared.body.next → after.journal ≡ advanced (length octets) inside.journal → ((bodies : List (List ℕ)) → IfSome old (IsReady inside.journal bodies) → IfSome new (IsReady after.journal (bodies ++ octets ∷ [])))
      → (S : Schema) (M N : Catalog) (next : ℕ) → IfSome old (λ c. IsPrepared S M next store prepared.body N c → IfSome new (IsMounted S N prepared.body.next after))
  all_made after number None new written pages epoch next_is journal added S M N next = tt
  all_made after number (Some c) new written pages epoch next_is journal added S M N next = λ p.
      let q : IsPrepared S M next inside prepared.body N c = subst (λ (x : Parts). IsPrepared S M next x prepared.body N c) (sym view) p in
      by new (all_written (Some c) new written) q (subst (λ (l : List ℕ). IfSome new (IsReady after.journal (q.mounted.bodies ++ l ∷ []))) is (added q.mounted.bodies q.mounted.ready))
    where
      by : (o : Option (List ℕ)) → StaysOutside journal_area (Some c) o → (q : IsPrepared S M next inside prepared.body N c) → IfSome o (IsReady after.journal (q.mounted.bodies ++ prepared.octets ∷ [])) → IfSome o (IsMounted S N prepared.body.next after)
      by None stays q ready = absurd stays
      by (Some other) stays q ready = then_mounted S M next inside prepared N c has_room q after number other pages epoch next_is (ap (λ (x : Position). x.epoch) journal) ready stays
