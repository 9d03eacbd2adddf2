-- What the machine keeps, where it has come there by a run.
use Rattle.std.specs.Prelude.{ℕ, ◌≡◌, ◌≤◌, ◌<◌, ◌-◌, ◌^◌, List}
use Rattle.type_layout.specs.declared.schema.Schema.{Schema}
use Rattle.type_layout.specs.Sound.{IsSoundSchema}
use Rattle.pss_catalog.specs.Catalog.{Catalog, IsGood}
use Rattle.pss_machine.specs.declared.limits.Limits.{Limits}
use Rattle.pss_machine.specs.Kept.{Kept}
use Rattle.pss_machine.specs.Run.{Said, first, run}

-- a run over lines has come here from a good catalog, under limits that are not above the store's
pub record IsReached (S : Schema) (limits : Limits) (k : Kept) : Type 0 where
  pub sound : IsSoundSchema S
  pub total : limits.total ≤ 67108864
  pub changes : limits.changes < 2 ^ 32 - 1
  pub catalog : Catalog
  pub next : ℕ
  pub good : IsGood S catalog next
  pub lines : List Said
  pub is : k ≡ (run S limits (first catalog next) lines).kept
