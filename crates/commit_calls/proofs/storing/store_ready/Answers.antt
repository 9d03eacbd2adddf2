use Rattle.std.proofs.Common.{◌≡◌, List, sym, ◌∙◌, subst}
use Rattle.std.specs.Prelude.{OnOk}
use Rattle.pss_base.specs.declared.stop.StoreStop.{StoreStop}
use Rattle.pss_base.specs.declared.stop.StoreStop.TheVariants as stop
use Rattle.type_layout.specs.declared.schema.Schema.{Schema}
use Rattle.pss_machine.specs.Kept.{Kept}
use Rattle.storage_home.specs.declared.change.Change.{Change}
use Rattle.commit_saving.specs.Saving.{MaySave, StaysSaved, saved_next}
use Rattle.commit_calls.specs.Storing.{Made, Came}
use Rattle.commit_calls.proofs.Commitments.{if_err}
use Rattle.commit_calls.proofs.storing.store_ready.Goals as goal

pub save-requires-clause-may : goal.save-requires-clause-may
save-requires-clause-may g c = subst (MaySave c.args.store.now c.args.next) (sym (c.as_slice.ensures.items ∙ c.changes.ensures)) c.requires.may

pub returns : goal.returns
returns g c =
    let old = c.args.station.now in
    let new = c.save.new.station in
    let is : c.as_slice.result.now ≡ c.args.ready.now.commit.changes = c.as_slice.ensures.items ∙ c.changes.ensures in
    record {
      saved = subst (λ (cs : List Change). OnOk c.save.result (Made c.args.store.now c.save.new.store (g.W.Station.content old) (g.W.Station.content new) c.args.next cs)) is c.save.ensures.saved;
      images = subst (λ (cs : List Change). Came c.args.store.now (g.W.Station.content old) (g.W.Station.history old) (g.W.Station.history new) c.args.next cs) is c.save.ensures.images;
      memory = if_err _ (λ (why : StoreStop). why ≡ stop.NoMemory → (S : Schema) (k : Kept) → StaysSaved g.W.Station.content g.W.Station.history S k c.args.store.now old new) c.save.result (λ why stays is S k. stays is S k.catalog) c.save.ensures.memory;
      next = subst (λ (cs : List Change). OnOk c.save.result (c.save.new.store.next ≡ saved_next c.args.store.now.next c.args.next cs)) is c.save.ensures.next;
      still = λ none. (c.save.ensures.still (is ∙ none)).0;
      settled = c.save.ensures.settled;
      silent = c.save.ensures.silent;
      cause = c.save.ensures.cause;
    }
