use Rattle.std.proofs.Common.{ap, ◌∙◌}
use Rattle.std.specs.FinMap as map
use Rattle.std.specs.FinSet as set
use Rattle.key_index.specs.Index.{Index}
use Rattle.key_index.proofs.Turning.{held_turned, reserved_turned, some_slot}
use Rattle.key_index.proofs.index.KeyIndex.put_reserved.Goals as goal

pub write-requires : goal.write-requires
write-requires c = some_slot _ _ (ap (λ (v : Index). set.contains v.reserved c.args.key.now) c.self.view_is ∙ c.requires.reserved)

pub returns-clause-held : goal.returns-clause-held
returns-clause-held c = held_turned _ _ _ _ c.write.ensures ∙ ap (λ (v : Index). map.insert v.held c.args.key.now c.args.serial) c.self.view_is

pub returns-clause-reserved : goal.returns-clause-reserved
returns-clause-reserved c = reserved_turned _ _ _ _ c.write.ensures ∙ ap (λ (v : Index). set.remove v.reserved c.args.key.now) c.self.view_is
