use Rattle.std.proofs.Common.{◌∙◌, List, ap, subst, sym}
use Rattle.pss_base.specs.declared.put.Put.{Put}
use Rattle.pss_disk.proofs.Passing.{then_come}
use Rattle.page_format.specs.Objects.{entries_left}
use Rattle.page_format.specs.Written.{AreStorable}
use Rattle.page_store.specs.Checkpoints.{AreSomeOf}
use Rattle.page_store.specs.Kept.{Kept}
use Rattle.page_format.proofs.Buffers.{some_weaker}
use Rattle.page_store.proofs.Checkpointing.{all_laid, all_made, all_while, only_planned}
use Rattle.page_store.proofs.GateOctets.{quiet_before, read_quiet}
use Rattle.page_store.proofs.SomePages.{next_root_left, repacked_by}
use Rattle.page_store.proofs.pages.Pages.checkpoint.Goals as goal

pub returns-in-Err-DiskFault-clause-stores : goal.returns-in-Err-DiskFault-clause-stores
returns-in-Err-DiskFault-clause-stores g c = only_planned c.args.self.now c.args.next (g.W.Station.content c.args.w.now) _ _ (g.W.Station.now c.args.w.now) c.requires.settled c.repack.ensures.reads.time

pub returns-in-Err-DiskFault-clause-quiet : goal.returns-in-Err-DiskFault-clause-quiet
returns-in-Err-DiskFault-clause-quiet g c = read_quiet _ _ _ c.repack.ensures.reads.time

pub returns-in-Err-NoMemory-clause-stores : goal.returns-in-Err-NoMemory-clause-stores
returns-in-Err-NoMemory-clause-stores g c = only_planned c.args.self.now c.args.next (g.W.Station.content c.args.w.now) _ _ (g.W.Station.now c.args.w.now) c.requires.settled c.repack.ensures.reads.time

pub returns-in-Err-NoMemory-clause-quiet : goal.returns-in-Err-NoMemory-clause-quiet
returns-in-Err-NoMemory-clause-quiet g c = read_quiet _ _ _ c.repack.ensures.reads.time

pub returns-in-Err-Lost-clause-stores : goal.returns-in-Err-Lost-clause-stores
returns-in-Err-Lost-clause-stores g c = only_planned c.args.self.now c.args.next (g.W.Station.content c.args.w.now) _ _ (g.W.Station.now c.args.w.now) c.requires.settled c.repack.ensures.reads.time

pub returns-in-Err-Lost-clause-quiet : goal.returns-in-Err-Lost-clause-quiet
returns-in-Err-Lost-clause-quiet g c = read_quiet _ _ _ c.repack.ensures.reads.time

pub plan-requires-clause-some : goal.plan-requires-clause-some
plan-requires-clause-some g c = subst (λ (k : Kept). AreSomeOf k.slots c.in-Ok.repacked.stay) (sym c.in-Ok.ensures.taken.pages) c.in-Ok.ensures.some

pub plan-requires-clause-storable : goal.plan-requires-clause-storable
plan-requires-clause-storable g c = subst (λ (ps : List Put). AreStorable (entries_left ps)) (sym c.deref.ensures.value) c.in-Ok.ensures.storable

pub returns-in-Err-clause-stores : goal.returns-in-Err-clause-stores
returns-in-Err-clause-stores g c = only_planned c.args.self.now c.args.next (g.W.Station.content c.args.w.now) _ _ (g.W.Station.now c.args.w.now) c.requires.settled c.repack.ensures.reads.time

pub returns-in-Err-clause-quiet : goal.returns-in-Err-clause-quiet
returns-in-Err-clause-quiet g c = read_quiet _ _ _ c.repack.ensures.reads.time

pub returns-in-Ok-switch_roots-clause-stores : goal.returns-in-Ok-switch_roots-clause-stores
returns-in-Ok-switch_roots-clause-stores g c =
    all_while c.args.self.now c.args.next c.in-Ok-plan.plan c.plan.new.self c.deref-2.result.now (g.W.Station.content c.args.w.now) (g.W.Station.content c.repack.new.w) c.deref-2.ensures.value c.repack.ensures.reads.same
    (λ old. some_weaker (g.W.Station.content c.args.w.now) _ _ (λ content left may. c.in-Ok-plan.ensures.planned old c.args.self.now content (repacked_by c.args.self.now c.repack.new.self c.in-Ok.repacked.stay c.in-Ok.repacked.puts.items c.deref.result.now content c.in-Ok.ensures.taken c.in-Ok.ensures.stay c.deref.ensures.value left) may) c.in-Ok.ensures.left)
    _ _ _ (g.W.Station.now c.args.w.now) c.requires.settled c.repack.ensures.reads.time c.switch_roots.ensures.stores

pub returns-in-Ok-switch_roots-clause-made : goal.returns-in-Ok-switch_roots-clause-made
returns-in-Ok-switch_roots-clause-made g c =
    all_made c.args.self.now c.args.next c.in-Ok-plan.plan c.plan.new.self c.deref-2.result.now (g.W.Station.content c.args.w.now) (g.W.Station.content c.repack.new.w) c.deref-2.ensures.value c.repack.ensures.reads.same
    (λ old. some_weaker (g.W.Station.content c.args.w.now) _ _ (λ content left may. c.in-Ok-plan.ensures.planned old c.args.self.now content (repacked_by c.args.self.now c.repack.new.self c.in-Ok.repacked.stay c.in-Ok.repacked.puts.items c.deref.result.now content c.in-Ok.ensures.taken c.in-Ok.ensures.stay c.deref.ensures.value left) may) c.in-Ok.ensures.left)
    c.keep_spent.new.self _ (c.keep_spent.ensures ∙ c.adopt.ensures) c.in-Ok-switch_roots.ensures.switched c.in-Ok-switch_roots.ensures.placed

pub returns-in-Ok-switch_roots-clause-quiet : goal.returns-in-Ok-switch_roots-clause-quiet
returns-in-Ok-switch_roots-clause-quiet g c = then_come _ _ _ _ (read_quiet _ _ _ c.repack.ensures.reads.time) (quiet_before _ _ _ _ c.repack.ensures.reads.still c.switch_roots.ensures.quiet)

pub returns-in-Ok-switch_roots-clause-noted : goal.returns-in-Ok-switch_roots-clause-noted
returns-in-Ok-switch_roots-clause-noted g c = ap (λ (k : Kept). k.noted) c.keep_spent.ensures ∙ ap (λ (k : Kept). k.noted) c.adopt.ensures ∙ ap (λ (k : Kept). k.noted) c.plan.ensures.pages ∙ ap (λ (k : Kept). k.noted) c.in-Ok.ensures.taken.pages

pub returns-in-Ok-switch_roots-clause-room : goal.returns-in-Ok-switch_roots-clause-room
returns-in-Ok-switch_roots-clause-room g c = ap (λ (k : Kept). k.room) c.keep_spent.ensures ∙ ap (λ (k : Kept). k.room) c.adopt.ensures ∙ ap (λ (k : Kept). k.room) c.plan.ensures.pages ∙ ap (λ (k : Kept). k.room) c.in-Ok.ensures.taken.pages

pub returns-in-Err-switch_roots-clause-stores : goal.returns-in-Err-switch_roots-clause-stores
returns-in-Err-switch_roots-clause-stores g c =
    all_while c.args.self.now c.args.next c.in-Ok-plan.plan c.plan.new.self c.deref-2.result.now (g.W.Station.content c.args.w.now) (g.W.Station.content c.repack.new.w) c.deref-2.ensures.value c.repack.ensures.reads.same
    (λ old. some_weaker (g.W.Station.content c.args.w.now) _ _ (λ content left may. c.in-Ok-plan.ensures.planned old c.args.self.now content (repacked_by c.args.self.now c.repack.new.self c.in-Ok.repacked.stay c.in-Ok.repacked.puts.items c.deref.result.now content c.in-Ok.ensures.taken c.in-Ok.ensures.stay c.deref.ensures.value left) may) c.in-Ok.ensures.left)
    _ _ _ (g.W.Station.now c.args.w.now) c.requires.settled c.repack.ensures.reads.time c.switch_roots.ensures.stores

pub returns-in-Err-switch_roots-clause-quiet : goal.returns-in-Err-switch_roots-clause-quiet
returns-in-Err-switch_roots-clause-quiet g c = then_come _ _ _ _ (read_quiet _ _ _ c.repack.ensures.reads.time) (quiet_before _ _ _ _ c.repack.ensures.reads.still c.switch_roots.ensures.quiet)

pub returns-in-Ok-switch_roots-clause-written : goal.returns-in-Ok-switch_roots-clause-written
returns-in-Ok-switch_roots-clause-written g c =
    all_laid c.args.self.now c.args.next c.in-Ok-plan.plan c.deref-2.result.now (g.W.Station.content c.args.w.now) (g.W.Station.content c.repack.new.w) (g.W.Station.content c.switch_roots.new.w) c.deref-2.ensures.value c.repack.ensures.reads.same
    (some_weaker (g.W.Station.content c.args.w.now) _ _ (λ content left. c.in-Ok-plan.ensures.packed c.args.self.now content (repacked_by c.args.self.now c.repack.new.self c.in-Ok.repacked.stay c.in-Ok.repacked.puts.items c.deref.result.now content c.in-Ok.ensures.taken c.in-Ok.ensures.stay c.deref.ensures.value left)) c.in-Ok.ensures.left)
    (next_root_left c.args.self.now c.repack.new.self c.in-Ok.repacked.stay c.in-Ok-plan.plan.pages.items c.args.next c.in-Ok-plan.plan.root c.in-Ok.ensures.taken c.in-Ok.ensures.stay c.in-Ok-plan.ensures.next_root)
    c.in-Ok-switch_roots.ensures.written
