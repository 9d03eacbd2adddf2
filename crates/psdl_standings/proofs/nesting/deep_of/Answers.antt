use Rattle.std.proofs.Common.{◌∙◌, sym}
use Rattle.psdl_directory.specs.Directories.{all_of}
use Rattle.psdl_directory.proofs.Ranged.{each_more}
use Rattle.psdl_standings.specs.Depths.{is_deep}
use Rattle.psdl_standings.proofs.Deeply.{last_depth}
use Rattle.psdl_standings.proofs.nesting.deep_of.Goals as goal

pub alias_nesting-requires-clause-last : goal.alias_nesting-requires-clause-last
alias_nesting-requires-clause-last c n e = c.loop-index.invariant.last n (sym c.new-number.ensures ∙ e)

pub loop-index-preserved : goal.loop-index-preserved
loop-index-preserved c =
    let all = all_of c.args.directory.now in
    record {
      deep = λ done e. each_more (is_deep all done) c.loop-index.deep.items c.push.new.self.items c.in_ok-one.one c.loop-index.index c.in_ok-push.ensures.items (c.loop-index.invariant.deep done e) ((rw c.new-number.ensures at c.in_ok-one.ensures) done e);
      last = λ n e. last_depth all c.args.levels.now c.loop-index.index c.in_ok-spec.spec (rw c.new-number.ensures at c.in_ok-spec.ensures) n e;
    }
