use Rattle.std.proofs.Common.{◌≡◌, ◌++◌, List, ℕ, ℤ, subst, rules}
use Rattle.std.specs.Prelude.{OnOk}
use Rattle.std.specs.Fmt.{signed_decimal}
use Rattle.std.specs.Int.{w128}
use Rattle.std.proofs.lemmas.Int.{to_z-of_z}
use mir.Val.{SFits}
use Rattle.type_layout.specs.Views.{plain_value}
use Rattle.data_calls.proofs.Tellings.{number_text}
use Rattle.data_calls.proofs.replies.append_text.Goals as goal

pub returns-in-Some : goal.returns-in-Some
returns-in-Some c =
    let z = c.in-Some.number in
    let fits : SFits w128 z = search rules in
    let appended : OnOk c.append_number.result (c.append_number.new.out ≡ c.args.line.now ++ signed_decimal z) =
    subst (λ (n : ℤ). OnOk c.append_number.result (c.append_number.new.out ≡ c.args.line.now ++ signed_decimal n)) (to_z-of_z w128 z fits) c.append_number.ensures in
    subst (λ (text : List ℕ). OnOk c.append_number.result (c.append_number.new.out ≡ c.args.line.now ++ text))
    (number_text c.args.parts.now.schema c.args.pid c.args.member (plain_value c.args.value.now) z c.in-Some.ensures c.requires) appended
