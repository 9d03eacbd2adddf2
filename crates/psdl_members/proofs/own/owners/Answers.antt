use Rattle.std.proofs.Common.{◌≡◌, ◌∙◌, ℕ, length, map, ap, arith}
use Rattle.std.specs.List.{range_with_len}
use Rattle.psdl_directory.specs.Directories.{all_of}
use Rattle.psdl_directory.proofs.Ranged.{each_more}
use Rattle.psdl_members.specs.inner.Had.{has_own}
use Rattle.psdl_members.proofs.own.owners.Goals as goal

pub loop-index-preserved : goal.loop-index-preserved
loop-index-preserved c =
    record {
      within = omega (arith, c.loop-index-test.true, c.len-index-end.ensures);
      owners = each_more (has_own c.args.own.now) c.loop-index.owners.items c.push.new.self.items c.has_own-owner.result c.loop-index.index c.in_ok-push.ensures.items c.loop-index.invariant.owners c.has_own-owner.ensures;
    }

pub returns : goal.returns
returns c =
    let end : c.loop-index.index ≡ length (all_of c.args.directory.now) = omega (arith, c.loop-index-test.false, c.loop-index.invariant.within, c.len-index-end.ensures) in
    c.loop-index.invariant.owners ∙ ap (λ (n : ℕ). map (has_own c.args.own.now) (range_with_len 0 n)) end
