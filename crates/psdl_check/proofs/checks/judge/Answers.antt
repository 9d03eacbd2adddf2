use Rattle.std.proofs.Common.{List, IfOk, subst, sym}
use Rattle.psdl_tree.specs.Views.{tree_view}
use Rattle.psdl_directory.specs.Declarations.{Declaration}
use Rattle.psdl_standings.proofs.InTurn.{are_in_turn}
use Rattle.psdl_standings.specs.Turns.{AreInTurn}
use Rattle.psdl_check.specs.inner.Verdicts.{IsVerdict}
use Rattle.psdl_check.proofs.checks.judge.Goals as goal

pub judge_directory-requires : goal.judge_directory-requires
judge_directory-requires c = subst (λ (all : List Declaration). AreInTurn all) (sym c.in_ok-directory.ensures) (are_in_turn (tree_view c.args.tree.now))

pub returns : goal.returns
returns c = subst (λ (all : List Declaration). IfOk c.judge_directory.result (λ v. IsVerdict all v)) c.in_ok-directory.ensures c.judge_directory.ensures
