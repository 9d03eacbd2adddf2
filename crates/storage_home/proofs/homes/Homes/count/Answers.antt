use Rattle.std.proofs.Common.{◌≡◌, ◌∙◌, length, ap, sym, subst, arith}
use Rattle.type_layout.specs.declared.schema.Schema.{Schema}
use Rattle.pss_catalog.specs.Catalog.{Catalog, pids_where}
use Rattle.storage_home.specs.Counts.{number_of}
use Rattle.storage_home.specs.Kept.{IsKept, is_of}
use Rattle.storage_home.proofs.Few.{few_entries}
use Rattle.storage_home.proofs.Heirs.{heirs_counted}
use Rattle.storage_home.proofs.Keeping.{fewer_pass}
use Rattle.storage_home.proofs.homes.Homes.count.Goals as goal

module _ (c : goal.After-sum_of) where
  told : (S : Schema) (M : Catalog) → IsKept S M c.self.inside.parts → c.sum_of.result ≡ length (pids_where (is_of S c.args.home) M)
  told S M kept = c.sum_of.ensures ∙ ap (λ l. number_of l c.heirs.result.now) c.deref.ensures.value ∙ heirs_counted S M c.self.inside.parts kept c.args.home c.heirs.result.now (c.heirs.ensures S kept.sound kept.families)

pub sum_of-requires : goal.sum_of-requires
sum_of-requires c =
    let kept = c.self.invariant.2 in
    let sum = ap (λ l. number_of l c.heirs.result.now) c.deref.ensures.value ∙ heirs_counted c.self.invariant.0 c.self.invariant.1 c.self.inside.parts kept c.args.home c.heirs.result.now (c.heirs.ensures c.self.invariant.0 kept.sound kept.families) in
    let pass = fewer_pass (is_of c.self.invariant.0 c.args.home) c.self.invariant.1 in
    let few = few_entries c.self.invariant.0 c.self.invariant.1 c.self.inside.parts kept in
    omega (arith, sum, pass, few)

pub returns-clause-objects : goal.returns-clause-objects
returns-clause-objects c S M kept = told c S M (subst (IsKept S M) (sym c.self.view_is) kept)

pub returns-clause-few : goal.returns-clause-few
returns-clause-few c =
    let kept = c.self.invariant.2 in
    let sum = told c c.self.invariant.0 c.self.invariant.1 kept in
    let pass = fewer_pass (is_of c.self.invariant.0 c.args.home) c.self.invariant.1 in
    let few = few_entries c.self.invariant.0 c.self.invariant.1 c.self.inside.parts kept in
    omega (arith, sum, pass, few)
