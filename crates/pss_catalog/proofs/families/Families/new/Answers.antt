use Rattle.std.proofs.Common.{◌≡◌, ◌-◌, drop, List, length, sym, ap, subst, ◌∙◌}
use Rattle.std.proofs.Common.{ℕ}
use Rattle.std.specs.Prelude.{IfOk}
use Rattle.pss_catalog.specs.declared.row.Row.{Row}
use Rattle.pss_catalog.specs.inner.Rows.{bases_in, rows_for, IsFresh}
use Rattle.pss_catalog.proofs.Deriving.{made_fresh, view_made}
use Rattle.pss_catalog.proofs.families.Families.new.Goals as goal

pub filled-requires : goal.filled-requires
filled-requires c =
    subst (λ (l : List Row). IsFresh (length l - 1) l) (sym (c.in_ok-rows_of.ensures ∙ ap rows_for c.as_slice.ensures)) (made_fresh c.args.schema.now c.requires)

pub returns : goal.returns
returns c =
    let made = ap (λ (l : List Row). drop 1 (bases_in l)) (c.in_ok-rows_of.ensures ∙ ap rows_for c.as_slice.ensures) ∙ view_made c.args.schema.now.homes in
    subst (λ (l : List ℕ). IfOk c.with_order.result (λ families. families ≡ l)) (ap (drop 1) c.filled.ensures.bases_are ∙ made) c.with_order.ensures
