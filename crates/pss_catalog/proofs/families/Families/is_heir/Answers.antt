use Rattle.std.proofs.Common.{◌≡◌, sym, ap, ◌∙◌, List}
use Rattle.pss_catalog.specs.declared.row.Row.{Row}
use Rattle.pss_catalog.specs.inner.Rows.{row_in, tells}
use Rattle.pss_catalog.proofs.Deriving.{heir_told, heir_value}
use Rattle.pss_catalog.proofs.families.Families.is_heir.Goals as goal

pub returns-clause-value : goal.returns-clause-value
returns-clause-value c = λ S sound is.
    (let rows = c.self.inside.rows.items in
    let row = c.row_of-row.ensures ∙ ap (λ (l : List Row). row_in l c.args.home.0) c.as_slice.ensures.value in
    let above = c.row_of-above.ensures ∙ ap (λ (l : List Row). row_in l c.args.of.0) c.as_slice-2.ensures.value in
    let told : c.is_below.result ≡ tells (row_in rows c.args.home.0) (row_in rows c.args.of.0) c.args.home c.args.of = c.is_below.ensures ∙ (λ i. tells (row i) (above i) c.args.home c.args.of) in
    told ∙ heir_value rows c.self.inside.order.items c.self.invariant S sound (c.self.view_is ∙ is) c.args.home c.args.of)

pub returns-clause-meaning : goal.returns-clause-meaning
returns-clause-meaning c = λ S sound is.
    (let rows = c.self.inside.rows.items in
    let row = c.row_of-row.ensures ∙ ap (λ (l : List Row). row_in l c.args.home.0) c.as_slice.ensures.value in
    let above = c.row_of-above.ensures ∙ ap (λ (l : List Row). row_in l c.args.of.0) c.as_slice-2.ensures.value in
    let told : c.is_below.result ≡ tells (row_in rows c.args.home.0) (row_in rows c.args.of.0) c.args.home c.args.of = c.is_below.ensures ∙ (λ i. tells (row i) (above i) c.args.home c.args.of) in
    let means = heir_told rows c.self.inside.order.items c.self.invariant S sound (c.self.view_is ∙ is) c.args.home c.args.of in
    (λ t. means.0 (sym told ∙ t), λ d. told ∙ means.1 d))
