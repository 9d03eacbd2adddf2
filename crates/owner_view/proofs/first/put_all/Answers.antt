use Rattle.std.proofs.Common.{◌≡◌, ◌≤◌, ℕ, ◌+◌, ◌++◌, ◌∷◌, [], List, take, length, get_or, sym, ap, subst, ◌∙◌, add-one}
use Rattle.std.proofs.Math.Seq.{take-suc}
use Rattle.std.proofs.lemmas.List.{take_all, append-nil}
use Rattle.pss_base.specs.declared.pid.Pid.{Pid}
use Rattle.owner_view.proofs.Merging.{cut_short, put_both}
use Rattle.owner_view.proofs.first.put_all.Goals as goal

pub loop-pid-init : goal.loop-pid-init
loop-pid-init c = sym (ap (take 256) (append-nil c.args.pids.now) ∙ take_all 256 c.args.pids.now c.requires)

pub put-requires : goal.put-requires
put-requires c = subst (λ (l : List Pid). length l ≤ 256) (sym c.loop-pid.invariant) (cut_short 256 (c.args.pids.now ++ take c.loop-pid.pid-index c.args.more.now))

pub loop-pid-preserved : goal.loop-pid-preserved
loop-pid-preserved c =
    let i = c.loop-pid.pid-index in
    let next : Pid = record { home = 0; serial = 0 } in
    let one = get_or c.args.more.now i next ∷ [] in
    let front : take (i + 1) c.args.more.now ≡ take i c.args.more.now ++ one = ap (λ (k : ℕ). take k c.args.more.now) (add-one i) ∙ take-suc c.args.more.now i next c.loop-pid-test.true in
    put_both 256 c.args.pids.now (take i c.args.more.now) one c.loop-pid.pids c.put.new.pids c.loop-pid.invariant c.in_ok-put.ensures ∙ ap (λ (l : List Pid). take 256 (c.args.pids.now ++ l)) (sym front)

pub returns : goal.returns
returns c = c.loop-pid.invariant ∙ ap (λ (l : List Pid). take 256 (c.args.pids.now ++ l)) (take_all c.loop-pid.pid-index c.args.more.now c.loop-pid-test.false)
