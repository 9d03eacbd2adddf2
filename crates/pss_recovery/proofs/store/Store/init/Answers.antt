use Rattle.std.proofs.Common.{ℕ, List, Option, IsSome, subst}
use Rattle.std.specs.Prelude.{OnOk}
use Rattle.pss_disk.proofs.Reading.{reads_then}
use Rattle.page_format.proofs.Buffers.{some_all}
use Rattle.page_format.specs.Written.{root_octets}
use Rattle.pss_recovery.specs.inner.Blanks.{IsMade, first_root}
use Rattle.pss_recovery.proofs.Blank.{made_stands}
use Rattle.pss_recovery.proofs.NewStore.{new_store}
use Rattle.pss_recovery.proofs.Silent.{only_read, silent_still, silent_then}
use Rattle.pss_recovery.proofs.store.Store.init.Goals as goal

pub returns-in-Ok-eq0-clause-made : goal.returns-in-Ok-eq0-clause-made
returns-in-Ok-eq0-clause-made g c =
    made_stands c.write_new.result (g.W.Station.content c.write_new.new.w) (IsMade 4456448 (root_octets (first_root c.args.shape.now))) _ _ (λ image made S is. new_store S c.args.shape.now image is c.requires made) c.write_new.ensures.made

pub returns-in-Ok-eq0-clause-silent : goal.returns-in-Ok-eq0-clause-silent
returns-in-Ok-eq0-clause-silent g c =
    silent_then g.W.Station.now g.W.Station.history g.W.Station.speak_faults c.args.w.now c.len.new.self c.write_new.new.w
    (silent_still g.W.Station.now g.W.Station.history g.W.Station.speak_faults c.args.w.now c.len.new.self c.len.ensures.time c.len.ensures.now c.len.ensures.other) c.write_new.ensures.silent

pub returns-in-Ok-clause-silent : goal.returns-in-Ok-clause-silent
returns-in-Ok-clause-silent g c = silent_still g.W.Station.now g.W.Station.history g.W.Station.speak_faults c.args.w.now c.len.new.self c.len.ensures.time c.len.ensures.now c.len.ensures.other

pub returns-in-Err-clause-silent : goal.returns-in-Err-clause-silent
returns-in-Err-clause-silent g c = silent_still g.W.Station.now g.W.Station.history g.W.Station.speak_faults c.args.w.now c.len.new.self c.len.ensures.time c.len.ensures.now c.len.ensures.other

pub returns-in-Ok-eq0-clause-told : goal.returns-in-Ok-eq0-clause-told
returns-in-Ok-eq0-clause-told g c = subst (λ (o : Option (List ℕ)). OnOk c.write_new.result (IsSome o → IsSome (g.W.Station.content c.write_new.new.w))) c.len.ensures.content c.write_new.ensures.told

pub returns-in-Ok-eq0-clause-memory : goal.returns-in-Ok-eq0-clause-memory
returns-in-Ok-eq0-clause-memory g c = λ refused.
    reads_then g.W.Station.now g.W.Station.content g.W.Station.history g.W.Station.speak_faults c.args.w.now c.len.new.self c.write_new.new.w
    (only_read g.W.Station.now g.W.Station.history g.W.Station.speak_faults g.W.Station.content c.args.w.now c.len.new.self c.len.ensures.now c.len.ensures.content c.len.ensures.time c.len.ensures.other) (c.write_new.ensures.memory refused)

pub returns-in-Ok-clause-filled : goal.returns-in-Ok-clause-filled
returns-in-Ok-clause-filled g c =
    some_all (g.W.Station.content c.args.w.now) _ (λ content some. only_read g.W.Station.now g.W.Station.history g.W.Station.speak_faults g.W.Station.content c.args.w.now c.len.new.self c.len.ensures.now c.len.ensures.content c.len.ensures.time c.len.ensures.other)

pub returns-in-Err-clause-filled : goal.returns-in-Err-clause-filled
returns-in-Err-clause-filled g c =
    some_all (g.W.Station.content c.args.w.now) _ (λ content some. only_read g.W.Station.now g.W.Station.history g.W.Station.speak_faults g.W.Station.content c.args.w.now c.len.new.self c.len.ensures.now c.len.ensures.content c.len.ensures.time c.len.ensures.other)
