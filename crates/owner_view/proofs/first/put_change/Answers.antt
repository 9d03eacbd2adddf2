use Rattle.std.proofs.Common.{◌≡◌, ◌≤◌, ℕ, ◌++◌, List, take, drop, length, sym, ap, subst, ◌∙◌}
use Rattle.std.specs.Option.{option_to_list}
use Rattle.pss_base.specs.declared.pid.Pid.{Pid}
use Rattle.owner_view.specs.Merging.{before, past}
use Rattle.owner_view.proofs.Merging.{before_is, onward_is, cut_short, put_both}
use Rattle.owner_view.proofs.first.put_change.Goals as goal

pub put_own-requires : goal.put_own-requires
put_own-requires c = subst (λ (l : List Pid). length l ≤ 256) (sym c.in_ok-put_all.ensures) (cut_short 256 (c.args.pids.now ++ c.split_at.result.0.now))

pub returns-clause-put : goal.returns-clause-put
returns-clause-put c =
    let front : c.split_at.result.0.now ≡ before c.args.serial c.args.rest.now = c.split_at.ensures.front ∙ ap (λ (n : ℕ). take n c.args.rest.now) c.count_before.ensures.count ∙ before_is c.args.serial c.args.rest.now in
    put_both 256 c.args.pids.now c.split_at.result.0.now (option_to_list c.args.own) c.put_all.new.pids c.put_own.new.pids c.in_ok-put_all.ensures c.in_ok-put_own.ensures
    ∙ ap (λ (l : List Pid). take 256 (c.args.pids.now ++ (l ++ option_to_list c.args.own))) front

pub returns-clause-left : goal.returns-clause-left
returns-clause-left c = c.behind.ensures ∙ ap (past c.args.serial) (c.split_at.ensures.back ∙ ap (λ (n : ℕ). drop n c.args.rest.now) c.count_before.ensures.count ∙ onward_is c.args.serial c.args.rest.now)
