use Rattle.std.proofs.Common.{◌≡◌, refl, sym, subst}
use Rattle.pss_base.specs.declared.stop.StoreStop.{StoreStop}
use Rattle.pss_base.specs.declared.stop.StoreStop.TheVariants as stop
use Rattle.pss_machine.specs.declared.command.Command.TheVariants as command
use Rattle.pss_machine.specs.declared.reply.Reply.{Reply}
use Rattle.pss_machine.specs.Kept.{Kept}
use Rattle.pss_machine.specs.Deciding.{decision, flushing, unless_full}
use Rattle.pss_machine.specs.Effects.{Decision, Flushes}
use Rattle.connector_parts.specs.Found.{IsFound}
use Rattle.connector_parts.specs.Stands.{IsAt, Comes}
use Rattle.pss_copies.specs.Ruled.{AreOwned}
use Rattle.connector_parts.proofs.Bounds.{own_at}
use Rattle.connector_parts.proofs.Decisions.{no_session, found_as}
use Rattle.connector_parts.proofs.Tellings.{if_ok}
use Rattle.commit_calls.specs.Ready.{MayMakeReady}
use Rattle.commit_calls.specs.Commits.{Follows}
use Rattle.commit_calls.proofs.Commitments.{if_err}
use Rattle.commit_calls.proofs.Outcomes.{basic_is, flush_of_other, flush_ready, follows_comes}
use Rattle.commit_saving.specs.Saving.{BecomesSaved, IsSavedThroughout, StaysSaved, StoresNothing, saved_by}
use Rattle.commit_saving.proofs.Stored.{on_ok}
use Rattle.commit_calls.proofs.flushing.flush.Goals as goal

pub returns-in_default-clause-comes : goal.returns-in_default-clause-comes
returns-in_default-clause-comes g c k at =
    no_session c.args.parts.now k at c.args.name.now _ (command.Flush c.args.name.now) (λ s session. flushing c.args.parts.now.schema c.args.parts.now.limits k session) refl c.as_slice.ensures (c.in_default.ensures k at.stands)

pub settle-requires-clause-ready : goal.settle-requires-clause-ready
settle-requires-clause-ready g c =
    flush_ready c.args.parts.now c.requires.any.kept c.requires.any.at c.args.name.now c.in-Some.found (found_as c.requires.any.kept _ c.args.name.now c.in-Some.found c.as_slice.ensures (c.in-Some.ensures c.requires.any.kept c.requires.any.at.stands)) c.in-Basic.owner c.in-Basic.is

pub returns-in-Basic : goal.returns-in-Basic
returns-in-Basic g c =
    let content = g.W.Station.content in
    let history = g.W.Station.history in
    let parts = c.args.parts.now in
    let name = c.args.name.now in
    let found = c.in-Some.found in
    let n = c.in-Basic.owner in
    let new = c.settle.new in
    let result = c.settle.result in
    let is : (k : Kept) → IsAt parts k → IsFound k name found = λ k at. found_as k _ name found c.as_slice.ensures (c.in-Some.ensures k at.stands) in
    let ready : (k : Kept) → IsAt parts k → MayMakeReady parts n = λ k at. flush_ready parts k at name found (is k at) n c.in-Basic.is in
    let decided : (k : Kept) → IsAt parts k → decision parts.schema parts.limits k (command.Flush name) ≡ unless_full parts.schema parts.limits k n (Flushes n) = λ k at. basic_is parts k at name found (is k at) n c.in-Basic.is in
    record {
      comes = if_ok
          (λ (told : Reply). (m : MayMakeReady parts n) → AreOwned m.kept.owners m.kept.sessions m.kept.next_owner → Follows parts m.kept (unless_full parts.schema parts.limits m.kept n (Flushes n)) told new.parts)
          (λ (told : Reply). (k : Kept) → IsAt parts k → Comes parts k (command.Flush name) told new.parts) result
          (λ told h k at. follows_comes parts new.parts k (command.Flush name) (unless_full parts.schema parts.limits k n (Flushes n)) told (decided k at) (h (ready k at) (own_at parts k at)))
          c.settle.ensures.follows;
      saved = on_ok result (λ made k at. subst (λ (d : Decision). BecomesSaved content parts.schema k d.effect c.args.store.now new.store c.args.station.now new.station) (sym (decided k at)) (made (ready k at))) c.settle.ensures.saved;
      images = λ k at. subst (λ (d : Decision). IsSavedThroughout content history parts.schema k d.effect c.args.store.now c.args.station.now new.station) (sym (decided k at)) (c.settle.ensures.images (ready k at));
      memory = if_err
          (λ (why : StoreStop). why ≡ stop.NoMemory → (m : MayMakeReady parts n) → StaysSaved content history parts.schema m.kept c.args.store.now c.args.station.now new.station)
          (λ (why : StoreStop). why ≡ stop.NoMemory → (k : Kept) → IsAt parts k → StaysSaved content history parts.schema k c.args.store.now c.args.station.now new.station) result
          (λ why stays is k at. stays is (ready k at)) c.settle.ensures.memory;
      next = on_ok result (λ is k at. subst (λ (d : Decision). new.store.next ≡ saved_by k c.args.store.now.next d.effect) (sym (decided k at)) (is (ready k at))) c.settle.ensures.next;
      still = λ k at none. c.settle.ensures.still (ready k at) (subst (λ (d : Decision). StoresNothing k d.effect) (decided k at) none);
      settled = c.settle.ensures.settled;
      silent = c.settle.ensures.silent;
      cause = c.settle.ensures.cause;
    }

pub returns-in-Transactional-clause-comes : goal.returns-in-Transactional-clause-comes
returns-in-Transactional-clause-comes g c k at = flush_of_other c.args.parts.now k at c.args.name.now c.in-Some.found (found_as k _ c.args.name.now c.in-Some.found c.as_slice.ensures (c.in-Some.ensures k at.stands)) c.in-Transactional.is
