use Rattle.std.proofs.Common.{sym, ap, ◌∙◌, List}
use Rattle.pss_catalog.specs.declared.row.Row.{Row}
use Rattle.pss_catalog.specs.inner.Rows.{row_in}
use Rattle.pss_catalog.proofs.Deriving.{root_there, root_alone}
use Rattle.pss_catalog.proofs.families.Families.root.Goals as goal

pub returns-in-Some : goal.returns-in-Some
returns-in-Some c = λ S sound is.
    root_there c.self.inside.rows.items c.self.inside.order.items c.self.invariant S sound (c.self.view_is ∙ is) c.args.home c.in-Some.row
    (sym (c.row_of.ensures ∙ ap (λ (l : List Row). row_in l c.args.home.0) c.as_slice.ensures.value) ∙ c.in-Some.is)

pub returns-in-None : goal.returns-in-None
returns-in-None c = λ S sound is.
    root_alone c.self.inside.rows.items c.self.inside.order.items c.self.invariant S sound (c.self.view_is ∙ is) c.args.home
    (sym (c.row_of.ensures ∙ ap (λ (l : List Row). row_in l c.args.home.0) c.as_slice.ensures.value) ∙ c.in-None.is)
