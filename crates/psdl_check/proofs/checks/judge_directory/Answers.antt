use Rattle.std.proofs.Common.{◌∙◌, List, IfOk, subst, sym}
use Rattle.psdl_directory.specs.Declarations.{Declaration}
use Rattle.psdl_standings.specs.Turns.{AreInTurn}
use Rattle.psdl_check.specs.inner.Verdicts.{IsVerdict}
use Rattle.psdl_check.proofs.checks.judge_directory.Goals as goal

pub judge_text-requires-clause-one : goal.judge_text-requires-clause-one
judge_text-requires-clause-one c = c.in_ok-standings.ensures ∙ sym c.in_ok-lineage.ensures

pub judge_text-requires-clause-turn : goal.judge_text-requires-clause-turn
judge_text-requires-clause-turn c = subst (λ (all : List Declaration). AreInTurn all) (sym c.in_ok-lineage.ensures) c.requires

pub returns : goal.returns
returns c = subst (λ (all : List Declaration). IfOk c.judge_text.result (λ v. IsVerdict all v)) c.in_ok-lineage.ensures c.judge_text.ensures
