use Rattle.std.proofs.Common.{ℕ, ◌/◌, ◌%◌, false, ap, ◌∙◌, rules}
use Rattle.std.specs.BTreeMap.{BTreeMap}
use Rattle.storage_home.specs.declared.extents.Block.{Block}
use Rattle.storage_home.specs.Extents.{is_held_at, is_held_in}
use Rattle.storage_home.specs.Blocks.{is_number}
use Rattle.storage_home.proofs.Places.{pushed_nth}
use Rattle.storage_home.proofs.Nexts.{nowhere}
use Rattle.storage_home.proofs.loading.no_extents.Goals as goal

pub loop-preserved : goal.loop-preserved
loop-preserved c = (
  search rules,
  λ home serial. ap (λ l. is_held_in l home serial) c.in_ok-push.ensures.items ∙ pushed_nth (λ (e : BTreeMap ℕ Block). is_held_at serial e.entries) false c.loop.extents.items c.new.result home (c.loop.invariant.1 home serial) (ap (is_held_at serial) c.new.ensures.empty ∙ nowhere (is_number (serial / 64)) (serial % 64)),
)
