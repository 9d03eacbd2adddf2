use Rattle.std.proofs.Common.{sym, ap, ◌∙◌}
use Rattle.std.specs.FinMap as map
use Rattle.key_index.specs.Index.{Index}
use Rattle.key_index.specs.Slots.{slots_of, serial_at}
use Rattle.key_index.proofs.Turning.{get-held_of}
use Rattle.key_index.proofs.index.KeyIndex.find.Goals as goal

pub returns-in-Some : goal.returns-in-Some
returns-in-Some c = c.serial.ensures ∙ ap serial_at c.in-Some.ensures ∙ sym (get-held_of (slots_of c.self.inside.slots) c.args.key.now) ∙ ap (λ (v : Index). map.get v.held c.args.key.now) c.self.view_is

pub returns-in-None : goal.returns-in-None
returns-in-None c = ap serial_at c.in-None.ensures ∙ sym (get-held_of (slots_of c.self.inside.slots) c.args.key.now) ∙ ap (λ (v : Index). map.get v.held c.args.key.now) c.self.view_is
