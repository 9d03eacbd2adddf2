use Rattle.std.proofs.Common.{◌-◌, length, take, drop, sym, ap, subst, ◌∙◌, List, arith}
use Rattle.type_layout.specs.declared.home.HomeNo.{HomeNo}
use Rattle.pss_catalog.specs.declared.row.Row.{Row}
use Rattle.pss_catalog.specs.Families.{AreHeirs}
use Rattle.pss_catalog.specs.inner.Rows.{row_in}
use Rattle.pss_catalog.proofs.Deriving.{heirs_there, heirs_none, row_fits}
use Rattle.pss_catalog.proofs.families.Families.heirs.Goals as goal

pub part_of-requires-clause-place : goal.part_of-requires-clause-place
part_of-requires-clause-place c = (row_fits c.self.inside.rows.items c.self.inside.order.items c.self.invariant c.args.of c.in-Some.row (sym (c.row_of.ensures ∙ ap (λ (l : List Row). row_in l c.args.of.0) c.as_slice.ensures.value) ∙ c.in-Some.is)).0

pub part_of-requires-clause-end : goal.part_of-requires-clause-end
part_of-requires-clause-end c = (row_fits c.self.inside.rows.items c.self.inside.order.items c.self.invariant c.args.of c.in-Some.row (sym (c.row_of.ensures ∙ ap (λ (l : List Row). row_in l c.args.of.0) c.as_slice.ensures.value) ∙ c.in-Some.is)).1

pub part_of-requires-clause-within : goal.part_of-requires-clause-within
part_of-requires-clause-within c =
    let fits = row_fits c.self.inside.rows.items c.self.inside.order.items c.self.invariant c.args.of c.in-Some.row (sym (c.row_of.ensures ∙ ap (λ (l : List Row). row_in l c.args.of.0) c.as_slice.ensures.value) ∙ c.in-Some.is) in
    omega (arith, fits.2, ap length c.as_slice-in-Some.ensures.value)

pub returns-in-Some : goal.returns-in-Some
returns-in-Some c = λ S sound is.
    (let row = sym (c.row_of.ensures ∙ ap (λ (l : List Row). row_in l c.args.of.0) c.as_slice.ensures.value) ∙ c.in-Some.is in
    let part = c.part_of.ensures ∙ ap (λ (l : List HomeNo). take (c.in-Some.row.end - 1 - (c.in-Some.row.place - 1)) (drop (c.in-Some.row.place - 1) l)) c.as_slice-in-Some.ensures.value in
    subst (AreHeirs S c.args.of) (sym part) (heirs_there c.self.inside.rows.items c.self.inside.order.items c.self.invariant S sound (c.self.view_is ∙ is) c.args.of c.in-Some.row row))

pub returns-in-None : goal.returns-in-None
returns-in-None c = λ S sound is.
    heirs_none c.self.inside.rows.items c.self.inside.order.items c.self.invariant S sound (c.self.view_is ∙ is) c.args.of
    (sym (c.row_of.ensures ∙ ap (λ (l : List Row). row_in l c.args.of.0) c.as_slice.ensures.value) ∙ c.in-None.is)
