use Rattle.std.proofs.Common.{◌≡◌, ◌++◌, List, ℕ, sym, ◌∙◌, subst}
use Rattle.std.specs.Prelude.{OnOk}
use Rattle.type_layout.specs.Types.{PlainMember}
use Rattle.type_layout.specs.Values.{Of}
use Rattle.type_layout.specs.Members.{plain_member}
use Rattle.type_layout.specs.Views.{plain_value}
use Rattle.pss_machine.proofs.Logic.{none_some, same_some}
use Rattle.data_calls.proofs.Tellings.{typed_text}
use Rattle.data_calls.proofs.replies.append_typed.Goals as goal

pub append_value-requires : goal.append_value-requires
append_value-requires c =
    subst (λ (m : PlainMember). Of m.type (plain_value c.args.value.now)) (same_some (sym c.requires.there ∙ sym c.in-Some.ensures)) c.requires.of

pub returns : goal.returns
returns c =
    subst (λ (text : List ℕ). OnOk c.append_value.result (c.append_value.new.out ≡ c.args.line.now ++ text))
    (typed_text c.args.parts.now.schema c.args.pid c.args.member (plain_value c.args.value.now) (plain_member c.in-Some.found.now) (sym c.in-Some.ensures)) c.append_value.ensures

pub unreachable-requires : goal.unreachable-requires
unreachable-requires c = none_some (c.in-None.ensures ∙ c.requires.there)
