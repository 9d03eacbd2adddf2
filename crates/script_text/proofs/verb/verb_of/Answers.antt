use Rattle.std.proofs.Common.{sym, ◌∙◌}
use Rattle.script_text.proofs.VerbLaws.{is_verb, is_none, is_unlikely}
use Rattle.script_text.proofs.verb.verb_of.Goals as goal

pub returns-in_err-found : goal.returns-in_err-found
returns-in_err-found c = rw c.from_residual.ensures (is_unlikely c.args.word.now c.in_err-found.ensures.verb)

pub returns-else-eq : goal.returns-else-eq
returns-else-eq c = is_none c.args.word.now c.in_ok-found.found.text.now c.in_ok-found.found.verb c.in_ok-found.ensures.text c.in_ok-found.ensures.verb (sym c.eq.ensures ∙ c.if-eq.false)

pub returns-then-eq : goal.returns-then-eq
returns-then-eq c = is_verb c.args.word.now c.in_ok-found.found.text.now c.in_ok-found.found.verb c.in_ok-found.ensures.text (sym c.eq.ensures ∙ c.if-eq.true)
