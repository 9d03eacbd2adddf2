use Rattle.std.proofs.Common.{◌-◌, sym, ap, ◌∙◌, subst}
use Rattle.std.specs.FinMap as map
use Rattle.owner_titles.specs.inner.Register.{IsSound}
use Rattle.owner_titles.proofs.Sounds.{some_transaction, transaction_gone, session_gone, none_gone, not_true, not_false}
use Rattle.owner_titles.proofs.titles.Titles.remove.Goals as goal

pub overflow_sub-self : goal.overflow_sub-self
overflow_sub-self c =
    some_transaction c.self.inside.table c.self.inside.names.held c.self.inside.last c.self.inside.transactions c.self.invariant c.args.owner.0 c.in-Some.called (sym c.in-Some.ensures.value)
    (not_true _ (sym c.is_transaction.ensures ∙ c.if-is_transaction.true))

pub invariant_of-self : goal.invariant_of-self
invariant_of-self c =
    subst (λ m. IsSound m c.take.new.self.held c.self.inside.last (c.self.inside.transactions - 1)) (sym c.in-Some.ensures.removed)
    (subst (λ n. IsSound (map.remove c.self.inside.table c.args.owner.0) n c.self.inside.last (c.self.inside.transactions - 1)) (sym (c.take.ensures.held ∙ ap (map.remove c.self.inside.names.held) c.as_slice.ensures))
    (transaction_gone c.self.inside.table c.self.inside.names.held c.self.inside.last c.self.inside.transactions c.self.invariant c.args.owner.0 c.in-Some.called (sym c.in-Some.ensures.value)
    (not_true _ (sym c.is_transaction.ensures ∙ c.if-is_transaction.true))))

pub invariant_of-self-else-is_transaction : goal.invariant_of-self-else-is_transaction
invariant_of-self-else-is_transaction c =
    subst (λ m. IsSound m c.self.inside.names.held c.self.inside.last c.self.inside.transactions) (sym c.in-Some.ensures.removed)
    (session_gone c.self.inside.table c.self.inside.names.held c.self.inside.last c.self.inside.transactions c.self.invariant c.args.owner.0 c.in-Some.called (sym c.in-Some.ensures.value)
    (not_false _ (sym c.is_transaction.ensures ∙ c.if-is_transaction.false)))

pub invariant_of-self-in_default : goal.invariant_of-self-in_default
invariant_of-self-in_default c =
    subst (λ m. IsSound m c.self.inside.names.held c.self.inside.last c.self.inside.transactions) (sym c.in_default.ensures.removed)
    (none_gone c.self.inside.table c.self.inside.names.held c.self.inside.last c.self.inside.transactions c.self.invariant c.args.owner.0 (sym c.in_default.ensures.value))
