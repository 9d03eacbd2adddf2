-- What the bodies of a journal made, by the list that they are.
use Rattle.std.proofs.Common.{ℕ, ◌≡◌, ◌<◌, List, Result, Err, subst}
use Rattle.pss_base.specs.declared.put.Put.{Put}
use Rattle.type_layout.specs.declared.schema.Schema.{Schema}
use Rattle.pss_catalog.specs.Catalog.{Catalog}
use Rattle.storage_home.specs.Kept.{IsKept}
use Rattle.storage_home.specs.declared.homes.Homes.{Homes}
use Rattle.redo_journal.specs.Journal.{journal_end, journal_start}
use Rattle.pss_recovery.specs.Noted.{AreNoted}
use Rattle.pss_recovery.specs.Replaying.{AreReplayed, IsChangeDamage, gate_behind}
use Rattle.pss_recovery.specs.declared.replaying.BodyStop.{BodyStop}
use Rattle.pss_recovery.specs.declared.replaying.BodyStop.TheVariants as stop

pub bodies_at : (S : Schema) (M : Catalog) (next : ℕ) (slice bodies : List (List ℕ)) (last : ℕ) (homes : Homes) → slice ≡ bodies → (N : Catalog) × AreReplayed S M next slice N last × IsKept S N homes → (N : Catalog) × AreReplayed S M next bodies N last × IsKept S N homes
bodies_at S M next slice bodies last homes same made = subst (λ (l : List (List ℕ)). (N : Catalog) × AreReplayed S M next l N last × IsKept S N homes) same made

pub noted_at : (slice bodies : List (List ℕ)) (puts : List Put) → slice ≡ bodies → AreNoted slice puts → AreNoted bodies puts
noted_at slice bodies puts same noted = subst (λ (l : List (List ℕ)). AreNoted l puts) same noted

pub damaged_at : {T : Type 0} (S : Schema) (next : ℕ) (slice bodies : List (List ℕ)) (homes : Homes) (r : Result T BodyStop) → slice ≡ bodies
    → ((at : ℕ) → r ≡ Err (stop.Wrong at) → gate_behind journal_start slice < journal_end → (M : Catalog) → IsKept S M homes → IsChangeDamage S M next slice at)
    → (at : ℕ) → r ≡ Err (stop.Wrong at) → gate_behind journal_start bodies < journal_end → (M : Catalog) → IsKept S M homes → IsChangeDamage S M next bodies at
damaged_at S next slice bodies homes r same damaged =
    subst (λ (l : List (List ℕ)). (at : ℕ) → r ≡ Err (stop.Wrong at) → gate_behind journal_start l < journal_end → (M : Catalog) → IsKept S M homes → IsChangeDamage S M next l at) same damaged
