use Rattle.std.proofs.Common.{◌∙◌, ◌++◌, List, ℕ, sym, ap, subst}
use Rattle.type_layout.specs.Views.{plain_type, plain_value}
use Rattle.value_text.specs.Texts.{Writes}
use Rattle.value_text.specs.Printed.{printed}
use Rattle.value_text.proofs.PrintLaws.{printed_writes}
use Rattle.value_text.proofs.print.print_value.Goals as goal

pub returns-clause-spells : goal.returns-clause-spells
returns-clause-spells c =
    let t = plain_type c.args.ty.now in
    let v = plain_value c.args.value.now in
    let text = c.in_ok-put.ensures ∙ ap (λ (l : List ℕ). l ++ printed t v) c.new-out.ensures in
    (c.requires, subst (λ (l : List ℕ). Writes t v l) (sym text) (printed_writes t v c.requires))
