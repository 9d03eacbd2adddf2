use Rattle.std.proofs.Common.{◌∙◌, ◌++◌, List, length, take, sym, subst, arith, rules}
use Rattle.std.proofs.lemmas.List.{append-nil, take_all}
use Rattle.psdl_lineage.specs.Descent.{Listed}
use Rattle.psdl_check.specs.declared.key_rows.OwnKey.{OwnKey}
use Rattle.psdl_check.specs.inner.Gathered.{AreGathered}
use Rattle.psdl_check.specs.inner.KeyIds.{own_views}
use Rattle.psdl_check.proofs.Gathering.{id_at, below_at_key, keys_more}
use Rattle.psdl_check.proofs.home_keys.add_all.Goals as goal

pub add-requires : goal.add-requires
add-requires c =
    let at = below_at_key (length c.args.marks.now) c.args.keys.now c.loop-key.key-index c.key-item.result c.requires.below c.loop-key-test.true c.key-item.is in
    record { below = omega (arith, at, c.loop-key.invariant.sized) }

pub loop-key-init : goal.loop-key-init
loop-key-init c = record {
  sized = search rules;
  gathered = λ ids all have are. subst (λ (l : List Listed). AreGathered ids c.args.marks.now c.args.found.now.items l) (sym (append-nil all)) are;
}

pub loop-key-preserved : goal.loop-key-preserved
loop-key-preserved c = record {
  sized = c.add.ensures.sized ∙ c.loop-key.invariant.sized;
  gathered = λ ids all have are.
      subst (λ (l : List Listed). AreGathered ids c.add.new.marks c.add.new.found.items l) (keys_more all c.args.keys.now c.loop-key.key-index c.key-item.result c.loop-key-test.true c.key-item.is)
      (c.in_ok-add.ensures.gathered ids (all ++ own_views (take c.loop-key.key-index c.args.keys.now)) (id_at ids c.args.keys.now c.loop-key.key-index c.key-item.result have c.loop-key-test.true c.key-item.is)
      (c.loop-key.invariant.gathered ids all have are));
}

pub returns-clause-gathered : goal.returns-clause-gathered
returns-clause-gathered c ids all have are =
    subst (λ (l : List OwnKey). AreGathered ids c.loop-key.marks c.loop-key.found.items (all ++ own_views l)) (take_all c.loop-key.key-index c.args.keys.now (omega (arith, c.loop-key-test.false))) (c.loop-key.invariant.gathered ids all have are)
