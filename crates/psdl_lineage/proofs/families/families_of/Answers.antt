use Rattle.std.proofs.Common.{◌≡◌, ◌<◌, ◌∙◌, ℕ, length, ap, arith}
use Rattle.psdl_directory.specs.Directories.{all_of}
use Rattle.psdl_directory.proofs.Ranged.{each_more}
use Rattle.psdl_lineage.specs.Descent.{family}
use Rattle.psdl_lineage.specs.inner.Families.{families_before}
use Rattle.psdl_lineage.proofs.Naming.{header_at, as_many, base_is}
use Rattle.psdl_lineage.proofs.families.families_of.Goals as goal

pub loop-index-preserved : goal.loop-index-preserved
loop-index-preserved c =
    let all = all_of c.args.directory.now in
    let i = c.loop-index.index in
    let there : i < length all = omega (arith, c.loop-index-test.true, as_many all c.args.headers.now c.requires) in
    let base = base_is all i c.index-headers-index.result c.first_home-base.result
    (c.index-headers-index.is ∙ header_at all c.args.headers.now i c.index-headers-index.result c.requires c.loop-index-test.true)
    (rw c.bases.ensures at c.first_home-base.ensures) in
    record {
      within = omega (arith, c.loop-index-test.true);
      families =
          each_more (family all) c.loop-index.families.items c.push.new.self.items c.family_of-family.result i c.in_ok-push.ensures.items c.loop-index.invariant.families
          ((rw c.new.ensures at c.family_of-family.ensures) all there (c.deref.ensures.value ∙ c.loop-index.invariant.families) base);
    }

pub returns : goal.returns
returns c =
    let all = all_of c.args.directory.now in
    let end : c.loop-index.index ≡ length all = omega (arith, c.loop-index-test.false, c.loop-index.invariant.within, as_many all c.args.headers.now c.requires) in
    c.loop-index.invariant.families ∙ ap (λ (n : ℕ). families_before all n) end
