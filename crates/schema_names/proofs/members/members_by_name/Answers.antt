use Rattle.std.proofs.Common.{◌≡◌, ◌∙◌, map, length, take, cond, Some, None, ap, arith, length-take-le, rules}
use Rattle.std.specs.Option.{option_or}
use Rattle.std.specs.Str.{bytes_eq}
use Rattle.type_layout.specs.declared.member.Member.{Member}
use Rattle.type_layout.specs.Members.{plain_member}
use Rattle.type_layout.specs.Types.{PlainMember}
use Rattle.schema_names.specs.Found.{member_called}
use Rattle.schema_names.proofs.Finding.{next, position-push, map-push, map-length}
use Rattle.schema_names.proofs.members.members_by_name.Goals as goal

pub loop-i-preserved : goal.loop-i-preserved
loop-i-preserved c =
    let member = c.index-members-i.result in
    let front = take c.loop-i.i c.args.members.now in
    let here : length (map plain_member front) ≡ c.loop-i.i = map-length plain_member front ∙ length-take-le c.loop-i.i c.args.members.now (omega (arith, c.loop-i-test.true)) in
    next (λ (m : Member). m.name) (λ ms. member_called (map plain_member ms)) _ _ c.args.members.now c.loop-i.i member c.as_slice.result.now c.loop-i.i c.loop-i-test.true (search rules) (search rules)
    (λ q. ap (λ ms. member_called ms q) (map-push plain_member front member) ∙ position-push (λ (m : PlainMember). bytes_eq q m.name) (map plain_member front) (plain_member member)
    ∙ ap (λ n. option_or (member_called (map plain_member front) q) (cond (bytes_eq q member.name) (Some n) None)) here)
    c.loop-i.invariant c.in_ok-enter.ensures
