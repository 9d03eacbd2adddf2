use Rattle.std.proofs.Common.{◌≡◌, ◌<◌, length, map, sym, ap, ◌∙◌, arith, Some}
use Rattle.std.proofs.lemmas.List.{length-map}
use Rattle.type_layout.specs.Types.{PlainValue}
use Rattle.type_layout.specs.Views.{plain_value}
use Rattle.cdr_codec.proofs.Members.{if_ok}
use Rattle.owner_view.proofs.Showing.{copied}
use Rattle.owner_view.proofs.seen.own_member.Goals as goal

pub bounds-as_slice-member : goal.bounds-as_slice-member
bounds-as_slice-member c =
    let many : length (map plain_value c.as_slice.result.now) ≡ length c.args.values.now = ap length (c.as_slice.ensures ∙ c.values.view_is) in
    omega (arith, many, length-map c.as_slice.result.now plain_value, c.requires)

pub returns : goal.returns
returns c =
    let many : length (map plain_value c.as_slice.result.now) ≡ length c.args.values.now = ap length (c.as_slice.ensures ∙ c.values.view_is) in
    let within : c.args.member < length c.as_slice.result.now = omega (arith, many, length-map c.as_slice.result.now plain_value, c.requires) in
    if_ok c.copy.result _ _ (λ value same. copied c.args.values.now c.as_slice.result.now c.args.member c.index-as_slice-member.result (c.as_slice.ensures ∙ c.values.view_is) within c.index-as_slice-member.is ∙ ap (λ (v : PlainValue). Some v) (sym same)) c.copy.ensures
