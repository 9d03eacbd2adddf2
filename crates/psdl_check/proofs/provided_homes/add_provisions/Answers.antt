use Rattle.std.proofs.Common.{arith, rules}
use Rattle.psdl_tree.specs.Views.{provision_view}
use Rattle.psdl_directory.specs.Lookup.{at}
use Rattle.psdl_directory.specs.Parts.{provided}
use Rattle.psdl_check.specs.inner.Modules.{provision_of}
use Rattle.psdl_check.specs.inner.Texts.{text_in}
use Rattle.psdl_check.proofs.Provisioning.{as_many, meant_at, one_more, all_more}
use Rattle.psdl_check.proofs.provided_homes.add_provisions.Goals as goal

pub bounds-meant-place : goal.bounds-meant-place
bounds-meant-place c =
    let all = text_in c.args.text.now in
    omega (arith, c.loop-place-test.true, as_many provision_view all c.args.catalog c.args.provisions.now c.provided-meant.result.now c.requires c.provided-meant.ensures)

pub add_provided-requires : goal.add_provided-requires
add_provided-requires c =
    let all = text_in c.args.text.now in
    meant_at provision_view all c.args.catalog c.args.provisions.now c.provided-meant.result.now c.requires c.provided-meant.ensures c.loop-place.place c.index-provisions-place.result c.index-meant-place.result c.loop-place-test.true
    (search rules) (search rules)

pub loop-place-preserved : goal.loop-place-preserved
loop-place-preserved c =
    let all = text_in c.args.text.now in
    record {
      within = omega (arith, c.loop-place-test.true);
      put = one_more provision_view (provision_of all c.args.number c.args.catalog) c.args.provisions.now c.loop-place.place c.index-provisions-place.result c.args.list.now.items c.loop-place.list.items c.add_provided.new.list.items
          c.loop-place-test.true (search rules) c.loop-place.invariant.put c.in_ok-add_provided.ensures;
    }

pub returns : goal.returns
returns c =
    let all = text_in c.args.text.now in
    all_more provision_view (provision_of all c.args.number c.args.catalog) c.args.provisions.now (provided (at all c.args.catalog).what) c.loop-place.place c.args.list.now.items c.loop-place.list.items
    (omega (arith, c.loop-place-test.false)) c.requires c.loop-place.invariant.put
