use Rattle.std.proofs.Common.{◌++◌, length, map, drop, get_or, arith}
use Rattle.std.proofs.lemmas.List.{length-map}
use Rattle.type_layout.specs.Views.{plain_value}
use Rattle.type_layout.specs.Members.{plain_member}
use Rattle.type_layout.specs.Keys.{chosen, parts}
use Rattle.type_layout.proofs.Lookups.{got_mapped, nothing_mapped, past_end}
use Rattle.type_layout.proofs.Chosen.{skipped, first_fits, none_missing, one_put}
use Rattle.type_layout.proofs.key_bytes.put_values.Goals as goal

pub loop-index-preserved-in_default : goal.loop-index-preserved-in_default
loop-index-preserved-in_default c =
    skipped (map plain_member c.args.members.now) c.args.indexes.now c.loop-index.index-index (drop c.loop-index.place (map plain_value c.args.values.now)) c.loop-index.bytes
    (c.args.bytes.now ++ parts (chosen (map plain_member c.args.members.now) c.args.indexes.now) (map plain_value c.args.values.now)) c.loop-index-test.true
    (nothing_mapped plain_member c.args.members.now (get_or c.args.indexes.now c.loop-index.index-index 0) (past_end _ _ c.in_default.ensures.lookup.0))
    c.loop-index.invariant

pub unreachable-requires : goal.unreachable-requires
unreachable-requires c =
    let m = c.in-Some.ensures.lookup in
    let past = past_end c.loop-index.place (length c.args.values.now) c.in_default-get.ensures.lookup.0 in
    none_missing (map plain_member c.args.members.now) c.args.indexes.now c.loop-index.index-index (plain_member c.in-Some.member.now) (map plain_value c.args.values.now) c.loop-index.place c.loop-index.bytes
    (c.args.bytes.now ++ parts (chosen (map plain_member c.args.members.now) c.args.indexes.now) (map plain_value c.args.values.now)) c.loop-index-test.true
    (got_mapped plain_member c.args.members.now (get_or c.args.indexes.now c.loop-index.index-index 0) c.in-Some.member.now m.3.0 m.1)
    (omega (arith, past, length-map c.args.values.now plain_value))
    c.loop-index.invariant

pub put_part-requires : goal.put_part-requires
put_part-requires c =
    let m = c.in-Some.ensures.lookup in
    let v = c.in-Some-get.ensures.lookup in
    first_fits (map plain_member c.args.members.now) c.args.indexes.now c.loop-index.index-index (plain_member c.in-Some.member.now) (map plain_value c.args.values.now) c.loop-index.place (plain_value c.in-Some-get.value.now) c.loop-index.bytes
    (c.args.bytes.now ++ parts (chosen (map plain_member c.args.members.now) c.args.indexes.now) (map plain_value c.args.values.now)) c.loop-index-test.true
    (got_mapped plain_member c.args.members.now (get_or c.args.indexes.now c.loop-index.index-index 0) c.in-Some.member.now m.3.0 m.1)
    (got_mapped plain_value c.args.values.now c.loop-index.place c.in-Some-get.value.now v.3.0 v.1)
    c.loop-index.invariant

pub loop-index-preserved : goal.loop-index-preserved
loop-index-preserved c =
    let m = c.in-Some.ensures.lookup in
    let v = c.in-Some-get.ensures.lookup in
    one_put (map plain_member c.args.members.now) c.args.indexes.now c.loop-index.index-index (plain_member c.in-Some.member.now) (map plain_value c.args.values.now) c.loop-index.place (plain_value c.in-Some-get.value.now) c.loop-index.bytes c.put_part.new.bytes
    (c.args.bytes.now ++ parts (chosen (map plain_member c.args.members.now) c.args.indexes.now) (map plain_value c.args.values.now)) c.loop-index-test.true
    (got_mapped plain_member c.args.members.now (get_or c.args.indexes.now c.loop-index.index-index 0) c.in-Some.member.now m.3.0 m.1)
    (got_mapped plain_value c.args.values.now c.loop-index.place c.in-Some-get.value.now v.3.0 v.1)
    c.in_ok-put_part.ensures
    c.loop-index.invariant
