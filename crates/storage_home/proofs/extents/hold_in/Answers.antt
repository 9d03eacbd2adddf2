use Rattle.std.proofs.Common.{ℕ, true}
use Rattle.std.specs.BTreeMap.{BTreeMap}
use Rattle.storage_home.specs.declared.extents.Block.{Block}
use Rattle.storage_home.specs.Extents.{is_held_at, is_entered_at}
use Rattle.storage_home.proofs.Entering.{home_turned, home_kept, entered_some, entered_within}
use Rattle.storage_home.proofs.extents.hold_in.Goals as goal

pub returns-clause-held : goal.returns-clause-held
returns-clause-held c =
    home_turned (λ (e : BTreeMap ℕ Block) s. is_held_at s e.entries) c.args.extents.now c.args.home.0 (entered_some _ _ c.args.serial c.requires) (entered_within _ c.args.home.0 c.args.serial c.requires) c.index-extents-home.result c.hold.new.extent c.args.serial true c.hold.ensures.held

pub returns-clause-entered : goal.returns-clause-entered
returns-clause-entered c =
    home_kept (λ (e : BTreeMap ℕ Block) s. is_entered_at s e.entries) c.args.extents.now c.args.home.0 (entered_some _ _ c.args.serial c.requires) (entered_within _ c.args.home.0 c.args.serial c.requires) c.index-extents-home.result c.hold.new.extent c.hold.ensures.entered
