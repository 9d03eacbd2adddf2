use Rattle.pss_base.specs.declared.pid.Pid.{Pid}
use Rattle.type_layout.specs.Views.{plain_value}
use Rattle.std.proofs.Common.{List, map, ap, ◌∙◌, ◌++◌}
use Rattle.type_layout.specs.Types.{PlainValue, values_of}
use Rattle.pss_catalog.specs.Catalog.{all_references}
use Rattle.owner_view.proofs.Sizes.{all_of_them}
use Rattle.owner_view.proofs.references.all_references_of.Goals as goal

pub returns : goal.returns
returns c =
    c.in_ok-push_all.ensures ∙ ap (λ (l : List Pid). l ++ all_references (values_of (map plain_value c.as_slice.result.now))) c.new-pids.ensures.items ∙ ap (λ (l : List PlainValue). all_references (values_of l)) (c.as_slice.ensures ∙ c.values.view_is) ∙ all_of_them c.args.values.now
