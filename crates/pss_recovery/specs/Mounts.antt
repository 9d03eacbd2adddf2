-- What mounting a store gives, and what it leaves.
use Rattle.std.specs.Prelude.{ℕ, ◌≡◌, ◌⊎◌, List, [], ◌∷◌, ◌++◌, IfSome}
use Rattle.std.specs.declared.option.Option.{Option}
use Rattle.pss_disk.specs.Moments.{Each, Moment}
use Rattle.pss_disk.specs.Octets.{StaysOutside, range_of}
use Rattle.type_layout.specs.declared.schema.Schema.{Schema}
use Rattle.pss_catalog.specs.Catalog.{Catalog, IsGood}
use Rattle.storage_home.specs.Kept.{IsKept}
use Rattle.redo_journal.specs.Journal.{IsOpen, journal_start}
use Rattle.pss_recovery.specs.declared.mounting.Mounted.{Mounted}
use Rattle.pss_recovery.specs.Mounted.{IsMounted}
use Rattle.pss_recovery.specs.Stands.{Stands}

-- These objects are a good catalog with this next serial. The content before stood for them, and the content after does, with what is
-- known of it in memory.
pub record HasMounted (S : Schema) (mounted : Mounted) (before after : Option (List ℕ)) : Type 0 where
  pub catalog : Catalog
  pub good : IsGood S catalog mounted.next
  pub kept : IsKept S catalog mounted.homes
  pub next_ : mounted.store.next ≡ mounted.next
  pub stands : IfSome before (Stands S catalog mounted.next)
  pub mounted_ : IfSome after (IsMounted S catalog mounted.next mounted.store)

-- the content is as it was, or it is so but for the first gate of the journal, which was open
abbrev pub IsSameButGate : Option (List ℕ) → Option (List ℕ) → Type 0
IsSameButGate old new = (new ≡ old) ⊎ (IfSome old (λ c. IsOpen c journal_start) × StaysOutside (range_of journal_start (0 ∷ [])) old new)

-- Some moments came first, each of which is as the one before them or has P; and each moment behind them has P.
pub record FromSync (before after : List Moment) (now : Moment) (P : Moment → Type 0) : Type 0 where
  pub first : List Moment
  pub rest : List Moment
  pub grown : after ≡ before ++ first ++ rest
  pub until : Each (λ m. (m ≡ now) ⊎ P m) first
  pub from_ : Each P rest
