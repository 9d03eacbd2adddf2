use Rattle.std.proofs.Common.{◌<◌, ◌∙◌, ℕ, Option, Some, None, length, sym, subst}
use Rattle.std.specs.Option.{IfSome}
use Rattle.psdl_directory.specs.Directories.{all_of}
use Rattle.psdl_directory.specs.Spelled.{spelled_by}
use Rattle.psdl_directory.proofs.Inside.{inwards_on, inwards_end}
use Rattle.psdl_directory.proofs.Within.{inside-within}
use Rattle.psdl_directory.proofs.directory.Directory.inwards.Goals as goal

pub loop-part-preserved : goal.loop-part-preserved
loop-part-preserved c =
    let all = all_of c.args.self.now in
    let found = sym c.in-Some.is ∙ rw c.as_slice.ensures at c.in_ok-inside.ensures in
    record {
      there = subst (λ (o : Option ℕ). IfSome o (λ n. n < length all)) (sym found) (inside-within (spelled_by c.args.spelling) all c.args.limit c.loop-part.at _);
      so_far =
          sym (inwards_on (spelled_by c.args.spelling) all c.args.limit c.loop-part.at c.args.parts.now c.loop-part.part-index c.part-item.result (Some c.in-Some.next) c.loop-part-test.true c.part-item.is found)
          ∙ c.loop-part.invariant.so_far;
    }

pub returns-in-None : goal.returns-in-None
returns-in-None c =
    sym (inwards_on (spelled_by c.args.spelling) (all_of c.args.self.now) c.args.limit c.loop-part.at c.args.parts.now c.loop-part.part-index c.part-item.result None c.loop-part-test.true c.part-item.is
    (sym c.in-None.is ∙ rw c.as_slice.ensures at c.in_ok-inside.ensures))
    ∙ c.loop-part.invariant.so_far

pub returns : goal.returns
returns c =
    sym (inwards_end (spelled_by c.args.spelling) (all_of c.args.self.now) c.args.limit c.loop-part.at c.args.parts.now c.loop-part.part-index c.loop-part-test.false) ∙ c.loop-part.invariant.so_far
