-- What holds of the next serial that is stored, at any time in a run.
use Rattle.std.specs.Prelude.{ℕ, ◌<◌, ◌≤◌, List, length, true, None, Some, IfSome, IsSomeAnd}
use Rattle.std.specs.declared.option.Option.{Option}
use Rattle.std.specs.List.{AllByRecursion}
use Rattle.pss_base.specs.declared.lines.LineStep.{LineStep}
use Rattle.type_layout.specs.declared.schema.Schema.{Schema}
use Rattle.type_layout.specs.Sound.{IsSoundSchema}
use Rattle.pss_catalog.specs.Catalog.{Catalog, IsGood}
use Rattle.pss_machine.specs.declared.limits.Limits.{Limits}
use Rattle.pss_machine.specs.Beside.{Answered, Member}
use Rattle.pss_machine.specs.Operations.{PlainOp, Create, PlainAnswer, Found}
use Rattle.line_service.specs.Turns.{after}
use Rattle.script_service.specs.Turns.{Running, run_over, start, turn_from}

-- the serial of the object that was made, if one was
abbrev pub made_by : PlainOp → PlainAnswer → Option ℕ
made_by (Create serial object) (Found p) = Some serial
made_by _ _ = None

-- a commit that changed an object made none with this serial or a later one
abbrev pub MadeBelow : ℕ → Member → Type 0
MadeBelow saved x = 0 < length x.changes → AllByRecursion (λ (a : Answered). IfSome (made_by a.op a.answer) (λ serial. serial < saved)) x.done

-- the next serial that is stored was given by none that is stored, and is not above the machine's; the objects are good under it
pub record IsBetween (S : Schema) (r : Running) (history : List Member) (saved : ℕ) : Type 0 where
  pub given : saved ≤ r.kept.next
  pub above : AllByRecursion (MadeBelow saved) history
  pub good : IsGood S r.kept.catalog saved

-- So after any lines, where the station tells of its disk: some next serial is stored, and it is between. Under each sound schema and limits
-- that are not above the store's, from each good catalog on.
abbrev pub StoredIsBetween : Type 0
StoredIsBetween =
    (S : Schema) (limits : Limits) (M : Catalog) (next : ℕ) (lines : List LineStep) → IsSoundSchema S → limits.total ≤ 67108864 → IsGood S M next
    → IsSomeAnd (after turn_from (start S limits M next true) lines).saved (IsBetween S (after turn_from (start S limits M next true) lines) (run_over S limits M next lines).lists.history)
