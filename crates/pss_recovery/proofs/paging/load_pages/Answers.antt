use Rattle.std.proofs.Common.{List, ℕ, IfErr, IfOk, IfSome, sym, subst}
use Rattle.std.specs.declared.option.Option.{Option}
use Rattle.pss_base.specs.Causes.{HasCauseIf}
use Rattle.pss_disk.proofs.Reading.{reads_then}
use Rattle.page_format.proofs.Buffers.{some_both}
use Rattle.page_format.specs.Refusals.{IsPageRefusal}
use Rattle.pss_recovery.specs.Stands.{IsRefusal, IsRooted}
use Rattle.pss_recovery.specs.inner.Mounting.{HasLoaded}
use Rattle.pss_recovery.proofs.Paged.{is_fetched}
use Rattle.pss_recovery.proofs.paging.load_pages.Goals as goal

pub load_fetched-requires-clause-rooted : goal.load_fetched-requires-clause-rooted
load_fetched-requires-clause-rooted g c = subst (λ (o : Option (List ℕ)). IfSome o (IsRooted c.args.schema.now c.args.root.now)) (sym c.in-Ok.ensures.reads.same) c.requires.rooted

pub load_fetched-requires-clause-pages : goal.load_fetched-requires-clause-pages
load_fetched-requires-clause-pages g c =
    is_fetched c.args.root.now c.in-Ok.fetched (g.W.Station.content c.args.w.now) (g.W.Station.content c.fetch.new.w) c.in-Ok.ensures.reads.same c.in-Ok.ensures.right c.in-Ok.ensures.rows c.in-Ok.ensures.kept

pub returns-in-Ok-clause-loaded : goal.returns-in-Ok-clause-loaded
returns-in-Ok-clause-loaded g c = subst (λ (o : Option (List ℕ)). IfOk c.load_fetched.result (λ l. HasLoaded c.args.schema.now c.args.root.now l o)) c.in-Ok.ensures.reads.same c.load_fetched.ensures.loaded

pub returns-in-Ok-clause-refused : goal.returns-in-Ok-clause-refused
returns-in-Ok-clause-refused g c = subst (λ (o : Option (List ℕ)). IfErr c.load_fetched.result (λ f. IfSome o (IsRefusal c.args.schema.now f))) c.in-Ok.ensures.reads.same c.load_fetched.ensures.refused

pub returns-in-Ok-clause-reads : goal.returns-in-Ok-clause-reads
returns-in-Ok-clause-reads g c = reads_then g.W.Station.now g.W.Station.content g.W.Station.history g.W.Station.speak_faults c.args.w.now c.fetch.new.w c.load_fetched.new.w c.in-Ok.ensures.reads c.load_fetched.ensures.reads

pub returns-in-Err-clause-refused : goal.returns-in-Err-clause-refused
returns-in-Err-clause-refused g c =
    some_both (g.W.Station.content c.args.w.now) (IsRooted c.args.schema.now c.args.root.now) (IsPageRefusal c.args.root.now.next c.args.root.now.slots c.in-Err.fault) (IsRefusal c.args.schema.now c.of_pages.result)
    (λ image rooted h. c.of_pages.ensures.refused c.args.schema.now c.args.root.now image rooted h) c.requires.rooted c.in-Err.ensures.refused

pub returns-in-Err-clause-cause : goal.returns-in-Err-clause-cause
returns-in-Err-clause-cause g c = subst (HasCauseIf (g.W.Station.disk_faults c.args.w.now) (g.W.Station.disk_faults c.fetch.new.w)) (sym c.of_pages.ensures.disk) c.in-Err.ensures.cause
