use Rattle.std.proofs.Common.{ℕ, List, IfErr, IfOk, IfSome, sym, subst}
use Rattle.std.specs.declared.option.Option.{Option}
use Rattle.pss_disk.proofs.Reading.{reads_then}
use Rattle.pss_recovery.specs.Stands.{IsRefusal}
use Rattle.pss_recovery.specs.inner.Mounting.{HasLoaded, HasRead}
use Rattle.pss_recovery.proofs.mounting.read_behind.Goals as goal

pub read_on-requires : goal.read_on-requires
read_on-requires g c = subst (HasLoaded c.args.schema.now c.args.root.now c.in-Ok.loaded) (sym c.in-Ok.ensures.reads.same) c.in-Ok.ensures.loaded

pub returns-in-Ok-clause-read : goal.returns-in-Ok-clause-read
returns-in-Ok-clause-read g c = subst (λ (o : Option (List ℕ)). IfOk c.read_on.result (λ r. HasRead c.args.schema.now r.0 o)) c.in-Ok.ensures.reads.same c.read_on.ensures.read

pub returns-in-Ok-clause-refused : goal.returns-in-Ok-clause-refused
returns-in-Ok-clause-refused g c = subst (λ (o : Option (List ℕ)). IfErr c.read_on.result (λ f. IfSome o (IsRefusal c.args.schema.now f))) c.in-Ok.ensures.reads.same c.read_on.ensures.refused

pub returns-in-Ok-clause-reads : goal.returns-in-Ok-clause-reads
returns-in-Ok-clause-reads g c = reads_then g.W.Station.now g.W.Station.content g.W.Station.history g.W.Station.speak_faults c.args.w.now c.load_pages.new.w c.read_on.new.w c.in-Ok.ensures.reads c.read_on.ensures.reads
