use Rattle.std.proofs.Common.{◌+◌, map, ap, subst, sym, ◌∙◌, drop}
use Rattle.type_layout.specs.Types.{PlainFields}
use Rattle.type_layout.specs.Members.{plain_member}
use Rattle.type_layout.specs.Values.{layout_fields}
use Rattle.cdr_codec.specs.Reading.{fields_at}
use Rattle.cdr_codec.specs.Places.{IsFound, end_of}
use Rattle.cdr_codec.proofs.Loop.{members_out}
use Rattle.cdr_codec.proofs.Skips.{first_member, fields_over}
use Rattle.cdr_codec.proofs.places.members_end.Goals as goal

pub value_end-place-requires-clause-found : goal.value_end-place-requires-clause-found
value_end-place-requires-clause-found c = (first_member c.args.members.now c.loop-member.member-index c.member-item.result c.args.bytes.now c.loop-member.place c.loop-member-test.true c.member-item.is c.loop-member.invariant.1).found

pub loop-member-preserved : goal.loop-member-preserved
loop-member-preserved c =
    let first = first_member c.args.members.now c.loop-member.member-index c.member-item.result c.args.bytes.now c.loop-member.place c.loop-member-test.true c.member-item.is c.loop-member.invariant.1 in
    let rest = layout_fields (map plain_member (drop (c.loop-member.member-index + 1) c.args.members.now)) in (
      c.value_end-place.ensures.within,
      subst (λ k. IsFound (fields_at rest c.args.bytes.now k)) (sym c.value_end-place.ensures.end) first.later,
      ap (λ k. end_of (fields_at rest c.args.bytes.now k)) c.value_end-place.ensures.end ∙ first.ends ∙ c.loop-member.invariant.2,
    )

pub returns-clause-end : goal.returns-clause-end
returns-clause-end c = sym (fields_over c.args.bytes.now c.loop-member.place) ∙ ap (λ (fields : PlainFields). end_of (fields_at fields c.args.bytes.now c.loop-member.place)) (sym (members_out c.args.members.now c.loop-member.member-index c.loop-member-test.false)) ∙ c.loop-member.invariant.2
