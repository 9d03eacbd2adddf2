-- A store whose journal was read.
use Rattle.std.proofs.Common.{ℕ, ◌≡◌, inl, inr, ◌<◌, ◌≤◌, List, ◌++◌, false, Option, None, Some, IfSome, Result, Err, refl, sym, ap, ◌∙◌, subst, arith}
use Rattle.pss_base.specs.declared.put.Put.{Put}
use Rattle.type_layout.specs.declared.schema.Schema.{Schema}
use Rattle.pss_catalog.specs.Catalog.{Catalog, IsGood}
use Rattle.storage_home.specs.Kept.{IsKept}
use Rattle.storage_home.specs.declared.homes.Homes.{Homes}
use Rattle.redo_journal.specs.Faults.{is_disk_fault}
use Rattle.redo_journal.specs.Journal.{Holds, IsDamaged, Position, journal_end, journal_start}
use Rattle.redo_journal.specs.declared.fault.ReplayFault.{ReplayFault}
use Rattle.redo_journal.specs.declared.fault.ReplayFault.TheVariants as replay
use Rattle.redo_journal.specs.declared.replayed.Replay.{Replay}
use Rattle.page_store.specs.Kept.{IsKept as ArePagesKept, Kept}
use Rattle.page_format.specs.declared.root.Root.{Root}
use Rattle.page_format.proofs.Buffers.{some_all}
use Rattle.pss_recovery.specs.Faults.{is_mount_disk_fault}
use Rattle.pss_recovery.specs.Noted.{AreNoted}
use Rattle.pss_recovery.specs.Replaying.{AreReplayed, IsChangeDamage, gate_behind}
use Rattle.pss_recovery.specs.Stands.{IsRefusal}
use Rattle.pss_recovery.specs.declared.mounting.Mounted.{Mounted}
use Rattle.pss_recovery.specs.declared.paging.Loaded.{Loaded}
use Rattle.pss_recovery.specs.declared.replaying.BodyStop.{BodyStop}
use Rattle.pss_recovery.specs.declared.replaying.BodyStop.TheVariants as stop
use Rattle.pss_recovery.specs.declared.replaying.Replayed.{Replayed}
use Rattle.pss_recovery.specs.inner.Mounting.{HasLoaded, HasRead, IsBuilt, IsJournalOf, IsLoadedFrom, IsRead, body_fault, journal_fault}
use Rattle.pss_recovery.proofs.Goods.{replayed_good}
use Rattle.pss_recovery.proofs.Replays.{gate_is}

pub some_last : (S : Schema) (M : Catalog) (next : ℕ) (bodies : List (List ℕ)) (N : Catalog) (last : ℕ) → IsGood S M next → AreReplayed S M next bodies N last → 1 ≤ last
some_last S M next bodies N last good replayed = let more = replayed_good S M next bodies N last replayed good in omega (arith, more.positive)

module _ (S : Schema) (root : Root) (loaded : Loaded) (content : Option (List ℕ)) (has : HasLoaded S root loaded content) (journal : Replay) where
  pub built_read : (homes : Homes) (replayed : Replayed) (mounted : Mounted) → journal_start ≤ journal.end → journal.end < journal_end → IfSome content (IsJournalOf root journal) → (N : Catalog) × AreReplayed S has.base root.next journal.bodies N replayed.next × IsKept S N homes → AreNoted journal.bodies replayed.puts
      → IsBuilt root (record { pages = loaded.pages; homes = homes }) journal.end replayed mounted → HasRead S mounted content
  built_read homes replayed mounted behind within held made noted built = record {
    catalog = made.0;
    good = subst (IsGood S made.0) (sym built.answer) (replayed_good S has.base root.next journal.bodies made.0 replayed.next made.1 has.good);
    kept = subst (IsKept S made.0) (sym built.homes_) made.2;
    next_ = built.next_ ∙ sym built.answer;
    whole = record {
      some = omega (arith, built.next_, some_last S has.base root.next journal.bodies made.0 replayed.next has.good made.1);
      behind = omega (arith, behind, ap (λ (p : Position). p.end) built.journal_);
      within = omega (arith, within, ap (λ (p : Position). p.end) built.journal_);
    };
    told = by content has.told held;
  }
    where
      by : (o : Option (List ℕ)) → IfSome o (IsLoadedFrom S root has.base loaded) → IfSome o (IsJournalOf root journal) → IfSome o (IsRead S made.0 mounted.next mounted.store)
      by None told held = tt
      by (Some c) told held = record {
        root = root;
        base = has.base;
        bodies = journal.bodies;
        loaded = told.loaded_;
        replayed = subst (AreReplayed S has.base root.next journal.bodies made.0) (sym built.answer) made.1;
        holds = subst (λ (p : Position). Holds p journal.bodies c) (sym built.journal_) held;
        of_epoch = ap (λ (p : Position). p.epoch) built.journal_;
        epoch_ = built.epoch_;
        next_ = built.next_ ∙ sym built.answer;
        pages_ = subst (λ (k : Kept). ArePagesKept root k c) (sym built.pages_)
            (record { area_ = told.pages_.area_; epoch_ = told.pages_.epoch_; shape_ = told.pages_.shape_; slots_ = told.pages_.slots_; places_ = told.pages_.places_; small_ = told.pages_.small_ });
        noted = subst (λ (k : Kept). AreNoted journal.bodies k.noted) (sym built.pages_) (subst (λ (l : List Put). AreNoted journal.bodies (l ++ replayed.puts)) (sym has.noted) noted);
      }

  pub bodies_refused : {T : Type 0} (r : Result T BodyStop) (why : BodyStop) → r ≡ Err why → journal.end < journal_end → IfSome content (IsJournalOf root journal)
      → ((at : ℕ) → r ≡ Err (stop.Wrong at) → gate_behind journal_start journal.bodies < journal_end → (M : Catalog) → IsKept S M loaded.homes → IsChangeDamage S M root.next journal.bodies at) → IfSome content (IsRefusal S (body_fault why))
  bodies_refused r why e within held damaged = by why e content has.told held
    where
      by : (w : BodyStop) → r ≡ Err w → (o : Option (List ℕ)) → IfSome o (IsLoadedFrom S root has.base loaded) → IfSome o (IsJournalOf root journal) → IfSome o (IsRefusal S (body_fault w))
      by w e None told held = tt
      by stop.NoMemory e (Some c) told held = tt
      by (stop.Wrong gate) e (Some c) told held =
          let inside : gate_behind journal_start journal.bodies < journal_end = omega (arith, gate_is root.epoch c journal_start journal.bodies journal.end held.chain, within) in
          inr (inr (inr (inr (record {
            kind_ = refl;
            root = root;
            base = has.base;
            end = journal.end;
            bodies = journal.bodies;
            read = record { loaded = told.loaded_; journal = held };
            wrong = damaged gate e inside has.base has.kept;
          }))))

pub journal_refused : (S : Schema) (root : Root) (loaded : Loaded) (content : Option (List ℕ)) → HasLoaded S root loaded content → {T : Type 0} (r : Result T ReplayFault) (why : ReplayFault) → r ≡ Err why
    → ((at : ℕ) → r ≡ Err (replay.Damaged at) → IfSome content (IsDamaged root.epoch at)) → IfSome content (IsRefusal S (journal_fault why))
journal_refused S root loaded content has r (replay.Damaged at) e damaged = by content has.told (damaged at e)
  where
    by : (o : Option (List ℕ)) → IfSome o (IsLoadedFrom S root has.base loaded) → IfSome o (IsDamaged root.epoch at) → IfSome o (IsRefusal S (journal_fault (replay.Damaged at)))
    by None told wrong = tt
    by (Some c) told wrong = inr (inr (inr (inl (record { kind_ = refl; root = root; base = has.base; loaded = told.loaded_; wrong = wrong }))))
journal_refused S root loaded content has r replay.DiskFault e damaged = some_all content _ (λ c. tt)
journal_refused S root loaded content has r replay.NoMemory e damaged = some_all content _ (λ c. tt)

pub journal_disk : (why : ReplayFault) → is_mount_disk_fault {T = Unit {0}} (Err (journal_fault why)) ≡ is_disk_fault {T = Unit {0}} (Err why)
journal_disk (replay.Damaged at) = refl
journal_disk replay.DiskFault = refl
journal_disk replay.NoMemory = refl

pub bodies_disk : (why : BodyStop) → is_mount_disk_fault {T = Unit {0}} (Err (body_fault why)) ≡ false
bodies_disk (stop.Wrong gate) = refl
bodies_disk stop.NoMemory = refl
