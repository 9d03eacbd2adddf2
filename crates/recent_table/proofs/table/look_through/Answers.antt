use Rattle.std.proofs.Common.{sym, ap, ◌∙◌}
use Rattle.std.specs.Map.{lookup}
use Rattle.std.proofs.lemmas.Map.Entries.{lookup_head, lookup_tail}
use Rattle.recent_table.proofs.table.look_through.Goals as goal

pub loop-there-init : goal.loop-there-init
loop-there-init g c = ap (lookup (g.K.PartialEq.eq c.args.key)) (c.into_iter-there-iterator.ensures.into_iter_gives ∙ c.iter-there-items.ensures.rest)

pub returns-then-eq : goal.returns-then-eq
returns-then-eq g c = sym (lookup_head (g.K.PartialEq.eq c.args.key) (c.in-Some.there.now, c.in-Some.value.now) c.next.new.self (sym c.eq.ensures ∙ c.if-eq.true)) ∙ ap (lookup (g.K.PartialEq.eq c.args.key)) (sym c.in-Some.ensures.steps) ∙ c.loop-there.invariant

pub loop-there-preserved : goal.loop-there-preserved
loop-there-preserved g c = sym (lookup_tail (g.K.PartialEq.eq c.args.key) (c.in-Some.there.now, c.in-Some.value.now) c.next.new.self (sym c.eq.ensures ∙ c.if-eq.false)) ∙ ap (lookup (g.K.PartialEq.eq c.args.key)) (sym c.in-Some.ensures.steps) ∙ c.loop-there.invariant

pub returns : goal.returns
returns g c = ap (lookup (g.K.PartialEq.eq c.args.key)) (sym c.in-None.ensures.steps.0) ∙ c.loop-there.invariant
