use Rattle.std.proofs.Common.{◌+◌, ◌++◌, ◌∷◌, [], List, ℕ, map, ap, subst, sym, ◌∙◌, drop, append_assoc}
use Rattle.type_layout.specs.Members.{plain_member}
use Rattle.type_layout.specs.Values.{layout_fields}
use Rattle.cdr_codec.specs.Reading.{fields_at}
use Rattle.cdr_codec.specs.Places.{IsFound, places_of}
use Rattle.cdr_codec.proofs.Skips.{first_member, first_place}
use Rattle.cdr_codec.proofs.places.places_of.Goals as goal

pub value_end-place-requires-clause-found : goal.value_end-place-requires-clause-found
value_end-place-requires-clause-found c = (first_member c.args.members.now c.loop-member.member-index c.member-item.result c.args.bytes.now c.loop-member.place c.loop-member-test.true c.member-item.is c.loop-member.invariant.1).found

pub loop-member-preserved : goal.loop-member-preserved
loop-member-preserved c =
    let first = first_member c.args.members.now c.loop-member.member-index c.member-item.result c.args.bytes.now c.loop-member.place c.loop-member-test.true c.member-item.is c.loop-member.invariant.1 in
    let rest = layout_fields (map plain_member (drop (c.loop-member.member-index + 1) c.args.members.now)) in
    let pushed = ap (λ (l : List ℕ). l ++ places_of rest c.args.bytes.now c.value_end-place.result) c.in_ok-push.ensures.items in
    let more = first_place c.args.members.now c.loop-member.member-index c.member-item.result c.args.bytes.now c.loop-member.place c.loop-member-test.true c.member-item.is in (
      c.value_end-place.ensures.within,
      subst (λ k. IsFound (fields_at rest c.args.bytes.now k)) (sym c.value_end-place.ensures.end) first.later,
      pushed ∙ append_assoc c.loop-member.places.items (c.loop-member.place ∷ []) (places_of rest c.args.bytes.now c.value_end-place.result)
          ∙ ap (λ k. c.loop-member.places.items ++ c.loop-member.place ∷ places_of rest c.args.bytes.now k) c.value_end-place.ensures.end
          ∙ ap (λ (l : List ℕ). c.loop-member.places.items ++ l) (sym more)
          ∙ c.loop-member.invariant.2,
    )
