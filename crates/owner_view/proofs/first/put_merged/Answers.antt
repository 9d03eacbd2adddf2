use Rattle.std.proofs.Common.{◌≤◌, ◌+◌, ℕ, ◌++◌, List, Option, take, length, get_or, sym, ap, subst, ◌∙◌, arith}
use Rattle.std.specs.Option.{option_map, option_to_list}
use Rattle.std.proofs.lemmas.Result.{on_ok_weaker}
use Rattle.pss_base.specs.declared.pid.Pid.{Pid}
use Rattle.pss_catalog.specs.Catalog.{Object}
use Rattle.pss_catalog.specs.Changes.{Change}
use Rattle.storage_home.specs.Kept.{is_of}
use Rattle.owner_view.specs.declared.states.Slot.{Slot}
use Rattle.owner_view.specs.Merging.{before, passing_at, merged}
use Rattle.owner_view.specs.States.{told_state}
use Rattle.owner_view.proofs.Merging.{cut_short}
use Rattle.owner_view.proofs.Ordered.{slots_of, rest, here, turns, ends, told_slot, listed_slots}
use Rattle.owner_view.proofs.Told.{told_in, told_put, none_told}
use Rattle.owner_view.proofs.first.put_merged.Goals.{in-Some+in_ok-rest, in_default}
use Rattle.owner_view.proofs.first.put_merged.Goals as goal

pub loop-serial-init : goal.loop-serial-init
loop-serial-init g c =
    let test = is_of c.args.view.now.schema.now c.args.home in
    (omega (arith, ap length c.requires.none), ap (λ (l : List Pid). take 256 (l ++ merged test (told_in (slots_of c.args.view.now.overlay.now.states c.args.serials.now)) c.args.committed.now)) c.requires.none)

pub put_change-requires : goal.put_change-requires
put_change-requires g c = c.loop-serial.invariant.0

pub loop-serial-preserved : goal.loop-serial-preserved
loop-serial-preserved g c =
    let test = is_of c.args.view.now.schema.now c.args.home in
    let es = c.args.view.now.overlay.now.states in
    let ss = c.args.serials.now in
    let i = c.loop-serial.serial-index in
    let s = get_or ss i 0 in
    let all = take 256 (merged test (told_in (slots_of es ss)) c.args.committed.now) in
    let told = c.own_in.ensures ∙ ap (λ (o : Option (Option Object)). option_map (passing_at test s) o) (told_slot es s (told_state c.told.result) c.told.ensures) in
    elim c.match-own_in.branch [
      | in-Some+in_ok-rest w ↦ (
        subst (λ (l : List Pid). length l ≤ 256) (sym (w.pids-is ∙ w.in_ok-rest.ensures.put)) (cut_short 256 (c.loop-serial.pids ++ (before s c.loop-serial.rest.now ++ option_to_list w.in-Some.own))),
        (λ k. take 256 (w.pids-is k ++ merged test (told_in (rest es ss (i + 1))) (w.rest-is k).now))
            ∙ told_put test (here es ss i) (rest es ss i) (rest es ss (i + 1)) (turns es ss i c.loop-serial-test.true) w.in-Some.own c.loop-serial.pids c.loop-serial.rest.now w.put_change.new.pids w.in_ok-rest.rest.now all (sym w.in-Some.is ∙ told)
            w.in_ok-rest.ensures.put w.in_ok-rest.ensures.left c.loop-serial.invariant.1,
      )
      | in_default w ↦ (
        subst (λ (l : List Pid). length l ≤ 256) (sym w.pids-is) c.loop-serial.invariant.0,
        (λ k. take 256 (w.pids-is k ++ merged test (told_in (rest es ss (i + 1))) (w.rest-is k).now))
            ∙ ap (λ (l : List Change). take 256 (c.loop-serial.pids ++ merged test l c.loop-serial.rest.now)) (sym (none_told test (here es ss i) (rest es ss i) (rest es ss (i + 1)) (turns es ss i c.loop-serial-test.true) c.own_in.result told w.in_default.is))
            ∙ c.loop-serial.invariant.1,
      )
    ]

pub put_all-requires : goal.put_all-requires
put_all-requires g c = c.loop-serial.invariant.0

pub returns : goal.returns
returns g c =
    let test = is_of c.args.view.now.schema.now c.args.home in
    let es = c.args.view.now.overlay.now.states in
    let ss = c.args.serials.now in
    let end = ends es ss c.loop-serial.serial-index c.loop-serial-test.false in
    let told = listed_slots es ss c.requires.order in
    on_ok_weaker c.put_all.result
    (λ put. put ∙ ap (λ (l : List (ℕ × Slot)). take 256 (c.loop-serial.pids ++ merged test (told_in l) c.loop-serial.rest.now)) (sym end) ∙ c.loop-serial.invariant.1 ∙ ap (λ (l : List Change). take 256 (merged test l c.args.committed.now)) (sym told))
    c.put_all.ensures
