-- A content between the steps of a switch.
use Rattle.std.specs.Prelude.{ℕ, ◌≡◌, ◌+◌, List, [], None, Some, IfSome}
use Rattle.std.specs.declared.option.Option.{Option}
use Rattle.pss_disk.specs.Parts.{octet_at}
use Rattle.page_format.specs.Places.{area_start}
use Rattle.page_store.specs.Stores.{IsEmptied, IsJournal, IsPrepared}
use Rattle.page_store.specs.Switch.{HasPages, MayFollow, Next, Old}
use Rattle.redo_journal.specs.Journal.{IsClosed, journal_start}

-- the next root may follow, and the gate of its area is closed
pub record MayBeLaid (old : Old) (next : Next) (content : List ℕ) : Type 0 where
  pub follow : MayFollow old next content
  pub closed : IsClosed content (area_start next.root.area)

-- the content has the old store and its journal, and the next store as soon as its gate is opened
pub record IsReady (old : Old) (next : Next) (before content : List ℕ) : Type 0 where
  pub area_ : old.root.area + next.root.area ≡ 1
  pub prepared : IsPrepared old.root old.objects next.root next.objects (area_start next.root.area) content
  pub journal : IsJournal old.position old.bodies content
  pub none : IsJournal (record { end = journal_start; epoch = next.root.epoch }) [] content
  pub pages : HasPages next before content

-- a content is ready where the next root could be laid in the one before; it is told where that one is
abbrev pub LaysReady : Old → Next → Option (List ℕ) → Option (List ℕ) → Type 0
LaysReady old next None after = after ≡ None
LaysReady old next (Some before) after = MayBeLaid old next before → IfSome after (IsReady old next before)

-- a content is ready where the next root could follow the one before; it is told where that one is
abbrev pub MakesReady : Old → Next → Option (List ℕ) → Option (List ℕ) → Type 0
MakesReady old next None after = after ≡ None
MakesReady old next (Some before) after = MayFollow old next before → IfSome after (IsReady old next before)

-- the content has the next store, no record of its epoch, and its pages
pub record IsEntered (next : Next) (before content : List ℕ) : Type 0 where
  pub emptied : IsEmptied next.root next.objects content
  pub pages : HasPages next before content

-- at these places a content has what f makes of the one before; it is told where that one is
abbrev pub Becomes : (ℕ → Type 0) → (List ℕ → List ℕ) → Option (List ℕ) → Option (List ℕ) → Type 0
Becomes S f None after = after ≡ None
Becomes S f (Some before) after = (d : List ℕ) × (after ≡ Some d) × ((i : ℕ) → S i → octet_at d i ≡ octet_at (f before) i)
