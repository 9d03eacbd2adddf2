use Rattle.std.proofs.Common.{◌++◌, ℕ, take, arith}
use Rattle.psdl_lineage.specs.Descent.{names_of}
use Rattle.psdl_members.proofs.Entering.{spelled_start, spelled_next, spelled_end}
use Rattle.psdl_members.proofs.spelled.add_numbers.Goals as goal

pub loop-identifier-init : goal.loop-identifier-init
loop-identifier-init c = record { spelled = λ names e. spelled_start c.args.spellings.now c.args.numbers.now.items names c.args.identifiers.now e; kept = λ q n is. is }

pub loop-identifier-preserved : goal.loop-identifier-preserved
loop-identifier-preserved c =
    let i : ℕ = c.loop-identifier.identifier-index in
    record {
      spelled = λ names e.
          spelled_next c.add_number.new.spellings c.add_number.new.numbers.items names c.args.identifiers.now i c.identifier-item.result c.loop-identifier-test.true c.identifier-item.is
          (c.in_ok-add_number.ensures.spelled (names ++ names_of (take i c.args.identifiers.now)) (c.loop-identifier.invariant.spelled names e));
      kept = λ q n is. c.in_ok-add_number.ensures.kept q n (c.loop-identifier.invariant.kept q n is);
    }

pub returns-clause-spelled : goal.returns-clause-spelled
returns-clause-spelled c names e =
    spelled_end c.loop-identifier.spellings c.loop-identifier.numbers.items names c.args.identifiers.now c.loop-identifier.identifier-index (omega (arith, c.loop-identifier-test.false)) (c.loop-identifier.invariant.spelled names e)
