use Rattle.std.proofs.Common.{sym, ap, ◌∙◌}
use Rattle.std.specs.FinSet as set
use Rattle.key_index.specs.Index.{Index}
use Rattle.key_index.specs.Slots.{slots_of, serial_at, with_reserved, reserved_of}
use Rattle.key_index.proofs.Turning.{reserved_turned, held_kept, turned_twice}
use Rattle.key_index.proofs.index.KeyIndex.reserve.Goals as goal

pub returns-in-Some-clause-held : goal.returns-in-Some-clause-held
returns-in-Some-clause-held c =
    held_kept _ _ _ _ (turned_twice _ _ _ _ _ _ c.in_ok-slot.ensures.ok c.write.ensures) (c.and_reserved.ensures.held ∙ ap serial_at (sym c.in-Some.is ∙ c.in_ok-slot.ensures.had)) ∙ ap (λ (v : Index). v.held) c.self.view_is

pub returns-in-Some-clause-ok : goal.returns-in-Some-clause-ok
returns-in-Some-clause-ok c =
    reserved_turned _ _ _ _ (turned_twice _ _ _ _ _ _ c.in_ok-slot.ensures.ok c.write.ensures) ∙ ap (λ b. with_reserved b c.args.key.now (reserved_of (slots_of c.self.inside.slots))) c.and_reserved.ensures.reserved
    ∙ ap (λ (v : Index). set.insert v.reserved c.args.key.now) c.self.view_is

pub returns-in-None-clause-held : goal.returns-in-None-clause-held
returns-in-None-clause-held c = held_kept _ _ _ _ c.in_ok-slot.ensures.ok (ap serial_at (sym c.in-None.is ∙ c.in_ok-slot.ensures.had)) ∙ ap (λ (v : Index). v.held) c.self.view_is

pub returns-in-None-clause-ok : goal.returns-in-None-clause-ok
returns-in-None-clause-ok c = reserved_turned _ _ _ _ c.in_ok-slot.ensures.ok ∙ ap (λ (v : Index). set.insert v.reserved c.args.key.now) c.self.view_is
