use Rattle.std.proofs.Common.{refl, sym, ◌∙◌}
use Rattle.owner_accounts.proofs.May.{may_act}
use Rattle.owner_accounts.proofs.Acting.{no_some, some_none, busy_is, held, free, free_here, held_here, serial_left, may_count, step_taken, step_held}
use Rattle.owner_accounts.proofs.accounts.Accounts.act.Goals as goal

pub act-requires-clause-may : goal.act-requires-clause-may
act-requires-clause-may c = may_act c.requires

pub act-requires-clause-under : goal.act-requires-clause-under
act-requires-clause-under c = c.requires.by.are.under

pub next_after-self-requires : goal.next_after-self-requires
next_after-self-requires c = serial_left c.requires

pub count-requires : goal.count-requires
count-requires c = may_count c.requires

-- ---- where another owner held it up

pub returns-in-Some-clause-busy : goal.returns-in-Some-clause-busy
returns-in-Some-clause-busy c m n = busy_is m c.in_ok-answer.answer (c.in_ok-answer.ensures.busy (may_act m)) n

pub returns-in-Some-clause-held_up : goal.returns-in-Some-clause-held_up
returns-in-Some-clause-held_up c m some = step_held m _ refl (c.in_ok-answer.ensures.held_up (may_act m) (held_here m some)) c.in_ok-answer.ensures.under refl refl refl

pub returns-in-Some-clause-answer : goal.returns-in-Some-clause-answer
returns-in-Some-clause-answer c m none = no_some (sym none ∙ held m c.in_ok-answer.answer (c.in_ok-answer.ensures.busy (may_act m)) c.in-Some.field-0 (sym c.in-Some.ensures))

pub returns-in-Some-clause-stepped : goal.returns-in-Some-clause-stepped
returns-in-Some-clause-stepped c m s asked none = no_some (sym none ∙ held m c.in_ok-answer.answer (c.in_ok-answer.ensures.busy (may_act m)) c.in-Some.field-0 (sym c.in-Some.ensures))

-- ---- where the step was taken

pub returns-clause-busy : goal.returns-clause-busy
returns-clause-busy c m n = busy_is m c.in_ok-answer.answer (c.in_ok-answer.ensures.busy (may_act m)) n

pub returns-clause-held_up : goal.returns-clause-held_up
returns-clause-held_up c m some = some_none some (free m c.in_ok-answer.answer (c.in_ok-answer.ensures.busy (may_act m)) (sym c.in_default.ensures))

pub returns-clause-answer : goal.returns-clause-answer
returns-clause-answer c m none = c.in_ok-answer.ensures.answer (may_act m) (free_here m none)

pub returns-clause-stepped : goal.returns-clause-stepped
returns-clause-stepped c m s asked none =
    step_taken m _ refl (c.in_ok-answer.ensures.stepped (may_act m) (free_here m none)) c.in_ok-answer.ensures.under c.count.ensures c.next_after-self.ensures refl s asked
