-- The gate that ends a journal is closed.
use Rattle.std.proofs.Common.{ℕ, ◌≡◌, ◌≢◌, ◌⊎◌, inl, inr, ⊎_elim, ◌+◌, ◌-◌, ◌<◌, ◌≤◌, true, false, List, [], ◌∷◌, length, Option, None, Some, IfSome, refl, sym, ◌∙◌, subst, arith}
use Rattle.std.proofs.lemmas.Bool.{cases_eq, true≢false}
use Rattle.std.proofs.lemmas.Option.{slice_get-get_or}
use Rattle.std.specs.Int.{to_be_bytes, w64}
use Rattle.std.specs.Option.{option_map}
use Rattle.pss_disk.specs.Images.{Agrees, AllAgree, Keeps}
use Rattle.pss_disk.specs.Moments.{Disk, IsImage, Moment, Through, is_within}
use Rattle.pss_disk.specs.Octets.{SameOutside, StaysOutside, range_of}
use Rattle.pss_disk.specs.Parts.{octet_at}
use Rattle.pss_disk.proofs.Images.{misses_but}
use Rattle.pss_disk.proofs.Parts.{agrees_at}
use Rattle.pss_disk.proofs.Passing.{weaker}
use Rattle.type_layout.specs.declared.schema.Schema.{Schema}
use Rattle.pss_catalog.specs.Catalog.{Catalog}
use Rattle.redo_journal.specs.Journal.{Chain, Ends, HasEpoch, Holds, IsClosed, IsOpen, Position, behind, journal_end, journal_start}
use Rattle.redo_journal.proofs.Chains.{chain_same}
use Rattle.page_format.specs.declared.root.Root.{Root}
use Rattle.page_format.specs.Laws.{AreSameRoots}
use Rattle.page_format.specs.Roots.{HasRoot}
use Rattle.page_store.specs.Stores.{AllHave, HasStore}
use Rattle.page_store.specs.Gates.{IsAnywhere}
use Rattle.page_store.proofs.Closing.{last_of, long_of, store_anywhere}
use Rattle.page_format.proofs.ExactRoots.{roots_one_thing}
use Rattle.page_store.proofs.JournalThere.{holds_there}
use Rattle.page_format.proofs.Staying.{stands_same}
use Rattle.pss_recovery.specs.Area.{IsOutsideJournal}
use Rattle.pss_recovery.specs.Mounted.{IsMounted, IsWhole}
use Rattle.pss_recovery.specs.Mounts.{HasMounted, IsSameButGate}
use Rattle.pss_recovery.specs.Stands.{IsLoaded, Stands}
use Rattle.pss_recovery.specs.declared.mounting.Mounted.{Mounted}
use Rattle.pss_recovery.specs.declared.parts.Parts.{Parts}
use Rattle.pss_recovery.specs.inner.Mounting.{HasRead, IsRead}
use Rattle.pss_recovery.proofs.Blank.{octet_from}
use Rattle.pss_recovery.proofs.Standing.{epoch_of, kept_outside, loaded_there, objects, stands_with, store_outside, store_there}

-- a journal ends before its area does
pub chain_inside : (epoch : ℕ) (image : List ℕ) (gate : ℕ) (bodies : List (List ℕ)) (last : ℕ) → gate < journal_end → Chain epoch image gate bodies last → last < journal_end
chain_inside epoch image gate [] last lt chain = omega (arith, lt, chain)
chain_inside epoch image gate (body ∷ bodies) last lt chain = chain_inside epoch image (behind gate (length body)) bodies last chain.0 chain.2

module _ (S : Schema) (M : Catalog) (next : ℕ) (c image : List ℕ) (stands : Stands S M next c) where
  abbrev root : Root
  root = stands.root

  abbrev loaded : IsLoaded S root stands.base c
  loaded = stands.read.loaded

  -- an image that agrees everywhere
  pub stands_anywhere : Agrees IsAnywhere c image → length c ≤ length image → Stands S M next image
  stands_anywhere agrees long =
      let has = store_anywhere root (objects S root stands.base c loaded) c image (store_there S root stands.base c loaded) agrees long in
      let position : Position = record { end = stands.end; epoch = root.epoch } in
      let within = chain_inside root.epoch c journal_start stands.bodies stands.end (omega arith) stands.read.journal.chain in
      let holds = holds_there position stands.bodies c image stands.read.journal within (λ i low high. agrees_at IsAnywhere c image i agrees tt (omega (arith, high, loaded.paged.rooted.root_.long))) in
      stands_with S root stands.base image position stands.bodies M next (loaded_there S root stands.base c loaded image has) refl holds stands.replayed

  -- an image that agrees but for the first gate of a journal that has no record of the epoch
  pub stands_but_gate : (HasEpoch root.epoch c journal_start → ⊥) → Agrees (λ i. i ≢ journal_start) c image → length c ≤ length image → Stands S M next image
  stands_but_gate none agrees long =
      let position : Position = record { end = stands.end; epoch = root.epoch } in
      stands_with S root stands.base image position stands.bodies M next (loaded_there S root stands.base c loaded image has) refl (holds stands.bodies stands.read.journal) stands.replayed
    where
      outside : Agrees IsOutsideJournal c image
      outside i out lt = agrees i (λ e. true≢false (subst IsOutsideJournal e out)) lt

      has : HasStore root (objects S root stands.base c loaded) image
      has = store_outside S root stands.base c loaded image outside long

      epoch_back : HasEpoch root.epoch image journal_start → HasEpoch root.epoch c journal_start
      epoch_back h =
          stands_same (journal_start + 1) (journal_start + 9) image c (λ i low high. sym (agrees_at (λ k. k ≢ journal_start) c image i agrees (λ e. omega (arith, e, low)) (omega (arith, high, loaded.paged.rooted.root_.long)))) (journal_start + 1) (to_be_bytes w64 root.epoch) (omega arith)
          (omega arith) h

      ends : Ends root.epoch image journal_start
      ends = ⊎_elim (λ open_. inr (refl, λ h. none (epoch_back h))) (λ closed. inl closed) (cases_eq (octet_at image journal_start) 165)

      holds : (bodies : List (List ℕ)) → Holds (record { end = stands.end; epoch = root.epoch }) bodies c → Holds (record { end = stands.end; epoch = root.epoch }) bodies image
      holds [] h = record { chain = h.chain; ends = subst (Ends root.epoch image) (sym h.chain) ends }
      holds (body ∷ bodies) h = absurd (none (epoch_of root.epoch c body h.chain.1))

-- ---- while the gate is closed

-- images of a disk that agree with a content, where its last octet is one of those that stay
agreeing : (P : ℕ → Type 0) (c : List ℕ) (disk : Option Disk) (Q : List ℕ → Type 0) → 1 ≤ length c → P (length c - 1) → AllAgree P (Some c) disk → ((image : List ℕ) → Agrees P c image → length c ≤ length image → Q image)
    → IfSome disk (λ d. (image : List ℕ) → IsImage d image → Q image)
agreeing P c None Q some last h f = tt
agreeing P c (Some d) Q some last h f = λ image is. f image (h image is) (long_of P c image (length c - 1) (h image is) last (last_of c some))

module _ (S : Schema) (M : Catalog) (next : ℕ) (c : List ℕ) (stands : Stands S M next c) (read : Root) (has : HasRoot read c) (end : ℕ) (ends : Ends read.epoch c end) where
  some : 1 ≤ length c
  some = omega (arith, has.long)

  while_still : (before after : List Moment) → Through before after (Keeps IsAnywhere (Some c)) → Through before after (AllHave (Stands S M next))
  while_still before after still =
      weaker before after (Keeps IsAnywhere (Some c)) (AllHave (Stands S M next)) (λ m h. agreeing IsAnywhere c m.disk (Stands S M next) some tt h (λ image agrees long. stands_anywhere S M next c image stands agrees long)) still

  while_open : (HasEpoch read.epoch c journal_start → ⊥) → (before after : List Moment) → Through before after (Keeps (λ i. i ≢ journal_start) (Some c)) → Through before after (AllHave (Stands S M next))
  while_open none before after images =
      let same : AreSameRoots stands.root read = roots_one_thing.one_root stands.root read c stands.read.loaded.paged.rooted.root_ has in
      let none_here : HasEpoch stands.root.epoch c journal_start → ⊥ = λ h. none (subst (λ (n : ℕ). HasEpoch n c journal_start) same.epoch_ h) in
      weaker before after (Keeps (λ i. i ≢ journal_start) (Some c)) (AllHave (Stands S M next))
      (λ m h. agreeing (λ i. i ≢ journal_start) c m.disk (Stands S M next) some (λ e. omega (arith, e, has.long)) h (λ image agrees long. stands_but_gate S M next c image stands none_here agrees long)) images

  -- at each moment each image stands for the same
  pub while_ending : (before after : List Moment) → Through before after (Keeps (λ i. i ≢ end) (Some c)) → (IsClosed c end → Through before after (Keeps IsAnywhere (Some c))) → Through before after (AllHave (Stands S M next))
  while_ending before after images still = by ends
    where
      by : Ends read.epoch c end → Through before after (AllHave (Stands S M next))
      by (inl closed) = while_still before after (still closed)
      by (inr first) = while_open (subst (λ (n : ℕ). HasEpoch read.epoch c n → ⊥) first.0 first.1) before after (subst (λ (n : ℕ). Through before after (Keeps (λ i. i ≢ n) (Some c))) first.0 images)

-- ---- then it is closed

module _ (S : Schema) (M : Catalog) (next : ℕ) (store : Parts) (c other : List ℕ) (read : IsRead S M next store c) (whole : IsWhole store) (same : SameOutside (range_of store.journal.end (0 ∷ [])) c other) where
  abbrev end : ℕ
  end = store.journal.end

  long : journal_end ≤ length c
  long = read.loaded.paged.rooted.root_.long

  outside_gate : (i : ℕ) → i ≢ end → is_within (range_of end (0 ∷ [])) i ≡ false
  outside_gate i ne = misses_but end i ne

  octet_same : (i : ℕ) → i < length c → i ≢ end → octet_at other i ≡ octet_at c i
  octet_same i lt ne = octet_from other c i i (same.others i lt (outside_gate i ne))

  gate_outside : (i : ℕ) → IsOutsideJournal i → is_within (range_of end (0 ∷ [])) i ≡ false
  gate_outside i out = grind (arith, out, whole.behind, whole.within)

  agrees : Agrees IsOutsideJournal c other
  agrees i out lt = same.others i lt (gate_outside i out)

  pub then_ended : IsClosed other end → IsMounted S M next store other
  then_ended closed = record {
    root = read.root;
    base = read.base;
    bodies = read.bodies;
    loaded = loaded_there S read.root read.base c read.loaded other (store_outside S read.root read.base c read.loaded other agrees same.no_shorter);
    replayed = read.replayed;
    ready = record {
      chain = chain_same store.journal.epoch c other journal_start read.bodies end read.holds.chain (λ i lt. sym (octet_same i (omega (arith, lt, whole.within, long)) (λ e. omega (arith, e, lt))));
      gate = octet_at other end;
      there = slice_get-get_or other end 0 (omega (arith, whole.within, long, same.no_shorter));
      closed = closed;
    };
    of_epoch = read.of_epoch;
    epoch_ = read.epoch_;
    next_ = read.next_;
    pages_ = kept_outside read.root c other read.loaded.paged.rooted.root_ read.loaded.paged.pages agrees same.no_shorter store.pages read.pages_;
    noted = read.noted;
  }

-- what was read stands
pub read_stands : (S : Schema) (M : Catalog) (next : ℕ) (store : Parts) (c : List ℕ) → IsRead S M next store c → Stands S M next c
read_stands S M next store c read = stands_with S read.root read.base c store.journal read.bodies M next read.loaded read.of_epoch read.holds read.replayed

-- ---- for each content that is told

module _ (S : Schema) (mounted : Mounted) (end : ℕ) (is : end ≡ mounted.store.journal.end) (old new : Option (List ℕ)) (has : HasRead S mounted old) (stays : StaysOutside (range_of end (0 ∷ [])) old new) where
  own : StaysOutside (range_of mounted.store.journal.end (0 ∷ [])) old new
  own = subst (λ (n : ℕ). StaysOutside (range_of n (0 ∷ [])) old new) is stays

  pub all_ended : (f : List ℕ → List ℕ) → (new ≡ old) ⊎ (new ≡ option_map f old) → IfSome new (λ c. IsClosed c end) → HasMounted S mounted old new
  all_ended f content closed = record {
    catalog = has.catalog;
    good = has.good;
    kept = has.kept;
    next_ = has.next_;
    stands = stood old has.told;
    mounted_ = by old new has.told own content (subst (λ (n : ℕ). IfSome new (λ c. IsClosed c n)) is closed);
  }
    where
      stood : (o : Option (List ℕ)) → IfSome o (IsRead S has.catalog mounted.next mounted.store) → IfSome o (Stands S has.catalog mounted.next)
      stood None told = tt
      stood (Some c) told = read_stands S has.catalog mounted.next mounted.store c told

      nothing : (n : Option (List ℕ)) → n ≡ None → IfSome n (IsMounted S has.catalog mounted.next mounted.store)
      nothing n e = subst (λ o. IfSome o (IsMounted S has.catalog mounted.next mounted.store)) (sym e) tt

      by : (o n : Option (List ℕ)) → IfSome o (IsRead S has.catalog mounted.next mounted.store) → StaysOutside (range_of mounted.store.journal.end (0 ∷ [])) o n → (n ≡ o) ⊎ (n ≡ option_map f o) → IfSome n (λ c. IsClosed c mounted.store.journal.end)
          → IfSome n (IsMounted S has.catalog mounted.next mounted.store)
      by None n told stays (inl e) closed = nothing n e
      by None n told stays (inr e) closed = nothing n e
      by (Some c) None told stays content closed = tt
      by (Some c) (Some other) told stays content closed = then_ended S has.catalog mounted.next mounted.store c other told has.whole stays closed

  pub same_but : IfSome old (λ c. IsClosed c end → new ≡ old) → IsSameButGate old new
  same_but same = by old has.told own same
    where
      by : (o : Option (List ℕ)) → IfSome o (IsRead S has.catalog mounted.next mounted.store) → StaysOutside (range_of mounted.store.journal.end (0 ∷ [])) o new → IfSome o (λ c. IsClosed c end → new ≡ o) → IsSameButGate o new
      by None told stays same = inr (tt, tt)
      by (Some c) told stays same = ⊎_elim (λ open_. first open_ told.holds.ends) (λ closed. inl (same closed)) (cases_eq (octet_at c end) 165)
        where
          first : IsOpen c end → Ends mounted.store.journal.epoch c mounted.store.journal.end → IsSameButGate (Some c) new
          first open_ (inl closed) = absurd (closed (subst (IsOpen c) is open_))
          first open_ (inr start) = inr (subst (IsOpen c) (is ∙ start.0) open_, subst (λ (n : ℕ). StaysOutside (range_of n (0 ∷ [])) (Some c) new) start.0 stays)

pub all_stand : (S : Schema) (mounted : Mounted) (end : ℕ) → end ≡ mounted.store.journal.end → (M : Catalog) (next : ℕ) (old : Option (List ℕ)) (before after : List Moment) → HasRead S mounted old → Through before after (Keeps (λ i. i ≢ end) old)
    → (IfSome old (λ c. IsClosed c end) → Through before after (Keeps IsAnywhere old)) → IfSome old (λ c. Stands S M next c → Through before after (AllHave (Stands S M next)))
all_stand S mounted end is M next None before after has images still = tt
all_stand S mounted end is M next (Some c) before after has images still = λ stands.
    let read = has.told in
    let ends : Ends read.root.epoch c end = subst (Ends read.root.epoch c) (sym is) (subst (λ (n : ℕ). Ends n c mounted.store.journal.end) read.of_epoch read.holds.ends) in
    while_ending S M next c stands read.root read.loaded.paged.rooted.root_ end ends before after images still
