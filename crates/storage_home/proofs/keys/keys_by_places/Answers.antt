use Rattle.std.proofs.Common.{◌≡◌, ◌==◌, ◌++◌, ◌∷◌, [], true, map, take, get_or, sym, ap, subst, ◌∙◌}
use Rattle.std.specs.List.{list_any}
use Rattle.type_layout.specs.declared.key.KeyNo.{KeyNo}
use Rattle.type_layout.specs.Keys.{key_bytes}
use Rattle.storage_home.proofs.Places.{map_more, take_end}
use Rattle.storage_home.proofs.KeyLists.{pairs_of, spells_key, any_at}
use Rattle.storage_home.proofs.keys.keys_by_places.Goals as goal

pub key_bytes-requires-clause-spelled : goal.key_bytes-requires-clause-spelled
key_bytes-requires-clause-spelled c =
    let key : KeyNo = get_or c.args.keys.now c.loop-key.key-index (record { 0 = 0 }) in
    (spells_key c.args.places.now.schema.now c.args.places.now.home c.args.places.now.bytes.now c.requires.spells key
    (subst (λ ks. list_any (λ j. j.0 == key.0) ks ≡ true) c.requires.there (any_at c.args.keys.now c.loop-key.key-index (record { 0 = 0 }) c.loop-key-test.true))).0

pub loop-key-preserved : goal.loop-key-preserved
loop-key-preserved c s =
    let S = c.args.places.now.schema.now in
    let key : KeyNo = get_or c.args.keys.now c.loop-key.key-index (record { 0 = 0 }) in
    let w = spells_key S c.args.places.now.home c.args.places.now.bytes.now s key
    (subst (λ ks. list_any (λ j. j.0 == key.0) ks ≡ true) c.requires.there (any_at c.args.keys.now c.loop-key.key-index (record { 0 = 0 }) c.loop-key-test.true)) in
    c.in_ok-push.ensures.ok ∙ ap (λ l. l ++ (key, c.in_ok-key_bytes.field-0) ∷ []) (c.loop-key.invariant s)
    ∙ ap (λ b. map (λ k. (k, key_bytes S k s.values)) (take c.loop-key.key-index c.args.keys.now) ++ (key, b) ∷ []) (c.in_ok-key_bytes.ensures w.0 ∙ ap (key_bytes S key) w.1)
    ∙ sym (map_more (λ (k : KeyNo). (k, key_bytes S k s.values)) c.args.keys.now c.loop-key.key-index (record { 0 = 0 }) c.loop-key-test.true)

pub returns : goal.returns
returns c s = c.loop-key.invariant s ∙ ap (pairs_of c.args.places.now.schema.now s.values) (take_end c.args.keys.now c.loop-key.key-index c.loop-key-test.false)
