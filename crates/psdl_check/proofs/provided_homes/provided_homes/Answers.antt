use Rattle.std.proofs.Common.{◌<◌, List, length, arith, ap, ◌∙◌}
use Rattle.std.specs.List.{flat_map, enumerate_from}
use Rattle.psdl_directory.specs.Declarations.{Declaration}
use Rattle.psdl_check.specs.Schemas.{provided_homes}
use Rattle.psdl_check.specs.inner.Texts.{text_in}
use Rattle.psdl_check.proofs.Catalogued.{modules_stay, one_more, all_of_them}
use Rattle.psdl_check.proofs.provided_homes.provided_homes.Goals as goal

pub loop-index-preserved : goal.loop-index-preserved
loop-index-preserved c =
    let all = text_in c.args.text.now in
    let step = rw c.new.ensures at c.in_ok-add_catalog.ensures in
    let within : c.loop-index.index < length all = omega (arith, c.loop-index-test.true, c.len-index-end.ensures, ap (λ (l : List Declaration). length l) c.directory-directory.ensures) in
    record {
      within = omega (arith, within);
      named = modules_stay c.directory-directory.result.now c.loop-index.scopes c.add_catalog.new.scopes step.0 step.1 c.loop-index.invariant.named;
      rest = one_more all c.loop-index.index c.loop-index.scopes c.add_catalog.new.scopes c.loop-index.list.items c.add_catalog.new.list.items (flat_map (provided_homes all) (enumerate_from 0 all)) within step c.loop-index.invariant.rest;
    }

pub returns : goal.returns
returns c =
    let all = text_in c.args.text.now in
    c.new-2.ensures ∙ all_of_them all c.loop-index.index c.loop-index.scopes c.loop-index.list.items (flat_map (provided_homes all) (enumerate_from 0 all)) (omega (arith, c.loop-index-test.false, c.len-index-end.ensures, ap (λ (l : List Declaration). length l) c.directory-directory.ensures)) c.loop-index.invariant.rest
