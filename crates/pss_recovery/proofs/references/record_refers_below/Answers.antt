use Rattle.std.proofs.Common.{List, ◌∙◌, ap, sym}
use Rattle.type_layout.specs.Types.{PlainValue, values_of}
use Rattle.pss_catalog.specs.Catalog.{all_references}
use Rattle.pss_recovery.specs.inner.Below.{are_given}
use Rattle.pss_recovery.proofs.Givens.{all_of_them, are_given_is}
use Rattle.pss_recovery.proofs.references.record_refers_below.Goals as goal

pub returns : goal.returns
returns c =
    let is = c.all_refer_below.ensures ∙ ap (λ (l : List PlainValue). are_given c.args.next (all_references (values_of l))) (c.as_slice.ensures ∙ c.values.view_is) ∙ ap (are_given c.args.next) (all_of_them c.args.values.now) in
    let both = are_given_is c.args.next _ in
    (λ h. both.0 (sym is ∙ h), λ h. is ∙ both.1 h)
