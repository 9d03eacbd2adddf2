use Rattle.std.proofs.Common.{◌∙◌, ◌++◌, ◌∷◌, [], List, ap, sym, arith}
use Rattle.std.proofs.lemmas.List.FromFn.{map-range_with_len_more}
use Rattle.type_layout.specs.declared.home.HomeNo.{HomeNo}
use Rattle.psdl_directory.specs.Directories.{all_of}
use Rattle.psdl_check.specs.Schemas.{home_no}
use Rattle.psdl_check.proofs.Slots.{in_front_within}
use Rattle.psdl_check.proofs.home_numbers.home_numbers.Goals as goal

pub loop-index-preserved : goal.loop-index-preserved
loop-index-preserved c =
    let all = all_of c.args.directory.now in
    let i = c.loop-index.index in
    record {
      within = omega (arith, c.len-index-end.ensures, c.loop-index-test.true);
      homes = c.in_ok-homes.ensures.homes;
      numbers = c.in_ok-homes.ensures.numbers ∙ ap (λ (l : List HomeNo). l ++ home_no all i ∷ []) c.loop-index.invariant.numbers ∙ sym (map-range_with_len_more (home_no all) 0 i i (omega arith));
    }

pub add_number-requires-clause-few : goal.add_number-requires-clause-few
add_number-requires-clause-few c =
    omega (arith, c.loop-index.invariant.homes, in_front_within (all_of c.args.directory.now) c.loop-index.index c.loop-index.invariant.within, c.requires.few)
