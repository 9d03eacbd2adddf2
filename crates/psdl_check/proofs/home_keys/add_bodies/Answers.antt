use Rattle.std.proofs.Common.{◌∙◌, ◌++◌, ℕ, List, take, sym, subst, arith, rules}
use Rattle.std.specs.List.{flat_map}
use Rattle.std.proofs.lemmas.List.{append-nil, take_all}
use Rattle.psdl_lineage.specs.Descent.{Listed}
use Rattle.psdl_check.specs.inner.Gathered.{AreGathered, AreBelow}
use Rattle.psdl_check.specs.inner.KeyIds.{own_views}
use Rattle.psdl_check.specs.inner.KeyRowed.{row_in}
use Rattle.psdl_check.proofs.Gathering.{bodies_more}
use Rattle.psdl_check.proofs.home_keys.add_bodies.Goals as goal

pub add_body-requires : goal.add_body-requires
add_body-requires c = record {
  below = subst (λ (n : ℕ). AreBelow n (row_in c.args.rows.now.rows.items c.body-item.result)) (sym c.loop-body.invariant.sized) (c.requires.below c.body-item.result);
}

pub loop-body-init : goal.loop-body-init
loop-body-init c = record {
  sized = search rules;
  gathered = λ ids all have are. subst (λ (l : List Listed). AreGathered ids c.args.marks.now c.args.found.now.items l) (sym (append-nil all)) are;
}

pub loop-body-preserved : goal.loop-body-preserved
loop-body-preserved c =
    let each : ℕ → List Listed = λ n. own_views (row_in c.args.rows.now.rows.items n) in
    let n : ℕ = c.body-item.result in
    record {
      sized = c.add_body.ensures.sized ∙ c.loop-body.invariant.sized;
      gathered = λ ids all have are.
          subst (λ (l : List Listed). AreGathered ids c.add_body.new.marks c.add_body.new.found.items l) (bodies_more each all c.args.bodies.now c.loop-body.body-index n n c.loop-body-test.true c.body-item.is)
          (c.in_ok-add_body.ensures.gathered ids (all ++ flat_map each (take c.loop-body.body-index c.args.bodies.now)) (have n) (c.loop-body.invariant.gathered ids all have are));
    }

pub returns-clause-gathered : goal.returns-clause-gathered
returns-clause-gathered c ids all have are =
    let each : ℕ → List Listed = λ n. own_views (row_in c.args.rows.now.rows.items n) in
    subst (λ (l : List ℕ). AreGathered ids c.loop-body.marks c.loop-body.found.items (all ++ flat_map each l)) (take_all c.loop-body.body-index c.args.bodies.now (omega (arith, c.loop-body-test.false))) (c.loop-body.invariant.gathered ids all have are)
