use Rattle.std.proofs.Common.{◌∙◌, ◌++◌, ◌∷◌, [], ℕ, List, cond, sym, ap, arith}
use Rattle.psdl_directory.specs.Directories.{all_of}
use Rattle.psdl_directory.specs.Lookup.{at}
use Rattle.psdl_directory.specs.Parts.{is_concrete_home}
use Rattle.psdl_lineage.proofs.Supplying.{homes_more, all_homes}
use Rattle.psdl_lineage.proofs.homes.concrete_homes.Goals as goal

pub loop-number-preserved : goal.loop-number-preserved
loop-number-preserved c =
    let all = all_of c.args.directory.now in
    let i = c.loop-number.number in
    record {
      within = omega (arith, c.len-number-end.ensures, c.loop-number-test.true);
      homes = rw c.new.ensures at c.in_ok-add_home.ensures ∙ ap (λ (l : List ℕ). l ++ cond (is_concrete_home (at all i).what) (i ∷ []) []) c.loop-number.invariant.homes ∙ sym (homes_more all i);
    }

pub returns : goal.returns
returns c =
    let all = all_of c.args.directory.now in
    all_homes all c.loop-number.number c.loop-number.homes.items (omega (arith, c.len-number-end.ensures, c.loop-number-test.false, c.loop-number.invariant.within)) c.loop-number.invariant.homes
