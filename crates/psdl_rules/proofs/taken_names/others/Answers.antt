use Rattle.std.proofs.Common.{◌∙◌, subst, sym, take, List, Option, ℕ, ◌+◌, arith}
use Rattle.psdl_directory.specs.Directories.{all_of}
use Rattle.psdl_rules.specs.inner.Others.{AreOthers}
use Rattle.psdl_rules.proofs.Redefining.{one_more}
use Rattle.psdl_rules.proofs.taken_names.others.Goals as goal

pub loop-number-preserved : goal.loop-number-preserved
loop-number-preserved c =
    let all = all_of c.args.directory.now in
    record {
      sized = c.keep.ensures.sized ∙ c.loop-number.invariant.sized;
      others = subst (λ (vs : List (Option ℕ)). AreOthers all (take (c.loop-number.number + 1) all) vs) (sym (rw c.new.ensures at c.keep.ensures.noted)) (one_more all c.loop-number.others.items c.loop-number.number (omega (arith, c.loop-number-test.true, c.len-number-end.ensures)) c.loop-number.invariant.sized c.loop-number.invariant.others);
    }
