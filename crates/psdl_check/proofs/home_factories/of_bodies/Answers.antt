use Rattle.std.proofs.Common.{[], map, arith, rules}
use Rattle.type_layout.specs.Schemas.{given}
use Rattle.psdl_directory.specs.Directories.{all_of}
use Rattle.psdl_members.specs.declared.list_kind.ListKind.TheVariants as kinds
use Rattle.psdl_members.specs.inner.Listing.{own_lists}
use Rattle.psdl_check.specs.inner.Declaring.{declared_as}
use Rattle.psdl_check.proofs.Declared.{one_list_more}
use Rattle.psdl_check.proofs.home_factories.of_bodies.Goals as goal

pub loop-index-preserved : goal.loop-index-preserved
loop-index-preserved c =
    let all = all_of c.args.directory.now in
    record {
      within = omega (arith, c.len-index-end.ensures, c.loop-index-test.true);
      lists = one_list_more (λ (o : _). given o [] (λ s. s.value)) (λ n. map declared_as (own_lists kinds.Factory all n)) c.loop-index.all.items c.push.new.self.items c.in_ok-of_body.field-0 c.loop-index.index c.loop-index.invariant.lists
          c.in_ok-push.ensures.items (search rules);
    }
