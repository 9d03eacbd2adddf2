use Rattle.std.proofs.Common.{sym, ap, ◌∙◌}
use Rattle.cdr_codec.proofs.Members.{if_ok}
use Rattle.storage_home.proofs.KeyLists.{pairs_of, none_of, at_places}
use Rattle.storage_home.proofs.keys.keys_of_octets.Goals as goal

pub returns-then-is_empty : goal.returns-then-is_empty
returns-then-is_empty c s =
    let none = none_of c.keys_at-keys.result.now (sym c.is_empty.ensures ∙ c.if-is_empty.true) in
    c.new.ensures ∙ ap (pairs_of c.args.schema.now s.values) (sym none ∙ c.keys_at-keys.ensures)

pub new-requires-2-clause-spelled : goal.new-requires-2-clause-spelled
new-requires-2-clause-spelled c = (let s = c.requires.spells in record { values = s.values; is_record = s.is_sound.1; spelled = s.spelled })

pub keys_by_places-requires-clause-sound : goal.keys_by_places-requires-clause-sound
keys_by_places-requires-clause-sound c = rw c.in_ok-places.ensures.schema c.requires.sound

pub keys_by_places-requires-clause-spells : goal.keys_by_places-requires-clause-spells
keys_by_places-requires-clause-spells c = rw (c.in_ok-places.ensures.schema, c.in_ok-places.ensures.home, c.in_ok-places.ensures.bytes) c.requires.spells

pub keys_by_places-requires-clause-there : goal.keys_by_places-requires-clause-there
keys_by_places-requires-clause-there c = rw (c.in_ok-places.ensures.schema, c.in_ok-places.ensures.home) c.keys_at-keys.ensures

pub returns : goal.returns
returns c = if_ok c.keys_by_places.result _ _ (λ pairs are s.
    at_places c.keys_at-keys.result.now pairs c.args.schema.now _ c.args.home _ c.args.octets.now _ c.in_ok-places.ensures.schema c.in_ok-places.ensures.home c.in_ok-places.ensures.bytes are s
    ∙ ap (pairs_of c.args.schema.now s.values) c.keys_at-keys.ensures) c.keys_by_places.ensures
