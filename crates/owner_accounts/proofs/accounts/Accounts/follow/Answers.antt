use Rattle.std.proofs.Common.{refl, sym, ◌∙◌}
use Rattle.owner_accounts.proofs.May.{may_follow}
use Rattle.owner_accounts.proofs.Acting.{no_some, some_none, busy_is, held, free, free_here, held_here, may_count, step_taken, step_held}
use Rattle.owner_accounts.proofs.accounts.Accounts.follow.Goals as goal

pub follow-requires-clause-may : goal.follow-requires-clause-may
follow-requires-clause-may c = may_follow c.requires

pub follow-requires-clause-under : goal.follow-requires-clause-under
follow-requires-clause-under c = c.requires.step.by.are.under

pub count-requires : goal.count-requires
count-requires c = may_count c.requires.step

-- ---- where another owner held it up

pub returns-in-Some-clause-busy : goal.returns-in-Some-clause-busy
returns-in-Some-clause-busy c m n = busy_is m.step c.in_ok-answer.answer (c.in_ok-answer.ensures.busy (may_follow m)) n

pub returns-in-Some-clause-held_up : goal.returns-in-Some-clause-held_up
returns-in-Some-clause-held_up c m some = step_held m.step _ refl (c.in_ok-answer.ensures.held_up (may_follow m) (held_here m.step some)) c.in_ok-answer.ensures.under refl refl refl

pub returns-in-Some-clause-answer : goal.returns-in-Some-clause-answer
returns-in-Some-clause-answer c m none = no_some (sym none ∙ held m.step c.in_ok-answer.answer (c.in_ok-answer.ensures.busy (may_follow m)) c.in-Some.field-0 (sym c.in-Some.ensures))

pub returns-in-Some-clause-stepped : goal.returns-in-Some-clause-stepped
returns-in-Some-clause-stepped c m s asked none = no_some (sym none ∙ held m.step c.in_ok-answer.answer (c.in_ok-answer.ensures.busy (may_follow m)) c.in-Some.field-0 (sym c.in-Some.ensures))

-- ---- where the step was taken

pub returns-clause-busy : goal.returns-clause-busy
returns-clause-busy c m n = busy_is m.step c.in_ok-answer.answer (c.in_ok-answer.ensures.busy (may_follow m)) n

pub returns-clause-held_up : goal.returns-clause-held_up
returns-clause-held_up c m some = some_none some (free m.step c.in_ok-answer.answer (c.in_ok-answer.ensures.busy (may_follow m)) (sym c.in_default.ensures))

pub returns-clause-answer : goal.returns-clause-answer
returns-clause-answer c m none = c.in_ok-answer.ensures.answer (may_follow m) (free_here m.step none)

pub returns-clause-stepped : goal.returns-clause-stepped
returns-clause-stepped c m s asked none =
    step_taken m.step _ refl (c.in_ok-answer.ensures.stepped (may_follow m) (free_here m.step none)) c.in_ok-answer.ensures.under c.count.ensures refl refl s asked
