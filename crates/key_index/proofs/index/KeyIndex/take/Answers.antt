use Rattle.std.proofs.Common.{sym, ap, ◌∙◌}
use Rattle.std.specs.FinMap as map
use Rattle.key_index.specs.Index.{Index}
use Rattle.key_index.specs.Slots.{slots_of, serial_at, is_reserved_at}
use Rattle.key_index.proofs.Turning.{get-held_of, held_turned, reserved_kept, none_turned}
use Rattle.key_index.proofs.index.KeyIndex.take.Goals as goal

pub returns-then-is_reserved-clause-value : goal.returns-then-is_reserved-clause-value
returns-then-is_reserved-clause-value c = c.serial-serial.ensures ∙ ap serial_at c.in-Some.ensures ∙ sym (get-held_of (slots_of c.self.inside.slots) c.args.key.now) ∙ ap (λ (v : Index). map.get v.held c.args.key.now) c.self.view_is

pub returns-then-is_reserved-clause-held : goal.returns-then-is_reserved-clause-held
returns-then-is_reserved-clause-held c = held_turned _ _ _ _ c.write.ensures ∙ ap (λ (v : Index). map.remove v.held c.args.key.now) c.self.view_is

pub returns-then-is_reserved-clause-reserved : goal.returns-then-is_reserved-clause-reserved
returns-then-is_reserved-clause-reserved c = reserved_kept _ _ _ _ c.write.ensures (sym c.if-is_reserved.true ∙ c.is_reserved.ensures ∙ ap is_reserved_at c.in-Some.ensures) ∙ ap (λ (v : Index). v.reserved) c.self.view_is

pub returns-in-None-clause-value : goal.returns-in-None-clause-value
returns-in-None-clause-value c = ap serial_at c.in-None.ensures ∙ sym (get-held_of (slots_of c.self.inside.slots) c.args.key.now) ∙ ap (λ (v : Index). map.get v.held c.args.key.now) c.self.view_is

pub returns-in-None-clause-held : goal.returns-in-None-clause-held
returns-in-None-clause-held c = sym (ap (λ (v : Index). v.held) c.self.view_is) ∙ held_turned _ _ _ _ (none_turned (slots_of c.self.inside.slots) c.args.key.now (sym c.in-None.ensures)) ∙ ap (λ (v : Index). map.remove v.held c.args.key.now) c.self.view_is

pub returns-else-is_reserved-clause-value : goal.returns-else-is_reserved-clause-value
returns-else-is_reserved-clause-value c = c.serial-serial.ensures ∙ ap serial_at c.in-Some.ensures ∙ sym (get-held_of (slots_of c.self.inside.slots) c.args.key.now) ∙ ap (λ (v : Index). map.get v.held c.args.key.now) c.self.view_is

pub returns-else-is_reserved-clause-held : goal.returns-else-is_reserved-clause-held
returns-else-is_reserved-clause-held c = held_turned _ _ _ _ c.remove.ensures ∙ ap (λ (v : Index). map.remove v.held c.args.key.now) c.self.view_is

pub returns-else-is_reserved-clause-reserved : goal.returns-else-is_reserved-clause-reserved
returns-else-is_reserved-clause-reserved c = reserved_kept _ _ _ _ c.remove.ensures (sym c.if-is_reserved.false ∙ c.is_reserved.ensures ∙ ap is_reserved_at c.in-Some.ensures) ∙ ap (λ (v : Index). v.reserved) c.self.view_is
