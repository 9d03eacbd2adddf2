use Rattle.std.proofs.Common.{◌≡◌, Some, None, true, false, refl, sym, ap, ◌∙◌, subst}
use Rattle.pss_base.specs.declared.stop.StoreStop.{StoreStop}
use Rattle.pss_base.specs.declared.stop.StoreStop.TheVariants as stop
use Rattle.pss_machine.specs.declared.command.Command.TheVariants as command
use Rattle.pss_machine.specs.declared.reply.Reply.{Reply}
use Rattle.pss_machine.specs.declared.reply.Reply.TheVariants as reply
use Rattle.pss_machine.specs.Kept.{Kept, is_transaction, transaction_named}
use Rattle.pss_machine.specs.Sessions.{first_open}
use Rattle.pss_machine.specs.Deciding.{decision, is_marked, unless_full}
use Rattle.pss_machine.specs.Effects.{Commits, Decision, RollsBack, does, says}
use Rattle.pss_copies.proofs.Tying.{named_transaction}
use Rattle.pss_recovery.proofs.Silent.{silent_start}
use Rattle.connector_parts.specs.Stands.{IsAt, Comes}
use Rattle.connector_parts.proofs.Bounds.{own_at}
use Rattle.connector_parts.proofs.Decisions.{replied}
use Rattle.connector_parts.proofs.Tellings.{if_ok}
use Rattle.commit_calls.specs.Ready.{MayMakeReady}
use Rattle.commit_calls.specs.Commits.{MayCommit, Follows}
use Rattle.commit_calls.proofs.Commitments.{KeepsStored, becomes_same, if_err, no_cause, nothing_as, nothing_came, rolls_nothing, stays_nothing}
use Rattle.commit_calls.proofs.Outcomes.{Opened, closed_is, commit_ready, follows_comes, open_is, rolled_back, still_open}
use Rattle.commit_calls.proofs.Readiness.{called_is, opened_at, closed_at}
use Rattle.commit_saving.specs.Saving.{BecomesSaved, IsSavedThroughout, StaysSaved, StoresNothing, saved_by}
use Rattle.commit_saving.proofs.Stored.{on_ok}
use Rattle.commit_calls.proofs.committing.commit.Goals as goal

pub still_open-requires : goal.still_open-requires
still_open-requires g c =
    called_is c.args.parts.now c.requires.any.kept c.requires.any.at.stands c.in-Some.owner c.in-Some-first_open.session
    (opened_at c.args.parts.now c.requires.any.kept c.requires.any.at.stands c.sessions.result.now c.sessions.ensures c.in-Some.owner c.in-Some-first_open.session c.in-Some-first_open.ensures)

pub returns-in-Some-first_open : goal.returns-in-Some-first_open
returns-in-Some-first_open g c =
    let parts = c.args.parts.now in
    let name = c.args.transaction.now in
    let n = c.in-Some.owner in
    let session = c.in-Some-first_open.session in
    let named : (k : Kept) → IsAt parts k → Some n ≡ transaction_named k name = λ k at. c.in-Some.ensures.machine k (c.titles.ensures parts.schema k at.stands.accounts) ∙ ap (transaction_named k) c.as_slice.ensures in
    let opened : (k : Kept) → IsAt parts k → Opened k n session = λ k at. opened_at parts k at.stands c.sessions.result.now c.sessions.ensures n session c.in-Some-first_open.ensures in
    let nothing : (k : Kept) → IsAt parts k → KeepsStored k (decision parts.schema parts.limits k (command.Commit name)).effect
    = λ k at. nothing_as k (decision parts.schema parts.limits k (command.Commit name)) (says (reply.StillOpen (opened k at).session.name)) (open_is parts k at name n (named k at) (opened k at).session (opened k at).is) (stays_nothing k) in
    record {
      comes = λ k at.
          replied parts parts k (command.Commit name) (reply.StillOpen (opened k at).session.name) c.in_ok-told.told (c.in_ok-told.ensures (called_is parts k at.stands n session (opened k at)))
          (still_open parts k at name n (named k at) (opened k at).session (opened k at).is);
      saved = λ k at. becomes_same parts.schema k _ (nothing k at) c.args.store.now (g.W.Station.content c.args.station.now);
      images = λ k at saved. nothing_came (g.W.Station.content c.args.station.now) _ _ (g.W.Station.history c.args.station.now);
      memory = tt;
      next = λ k at. sym ((nothing k at).saved c.args.store.now.next);
      still = λ k at none. refl;
      settled = c.requires.settled;
      silent = silent_start g.W.Station.now g.W.Station.history g.W.Station.speak_faults c.args.station.now;
      cause = no_cause (g.W.Station.disk_faults c.args.station.now);
    }

pub returns-then-is_marked : goal.returns-then-is_marked
returns-then-is_marked g c =
    let parts = c.args.parts.now in
    let name = c.args.transaction.now in
    let n = c.in-Some.owner in
    let named : (k : Kept) → IsAt parts k → Some n ≡ transaction_named k name = λ k at. c.in-Some.ensures.machine k (c.titles.ensures parts.schema k at.stands.accounts) ∙ ap (transaction_named k) c.as_slice.ensures in
    let closed : (k : Kept) → IsAt parts k → first_open k.sessions n ≡ None = λ k at. closed_at parts k at.stands c.sessions.result.now c.sessions.ensures n c.in_default-first_open.ensures in
    let marked : (k : Kept) → IsAt parts k → is_marked k n ≡ true = λ k at. sym (c.is_marked.ensures k at.stands) ∙ c.if-is_marked.true in
    let nothing : (k : Kept) → IsAt parts k → KeepsStored k (decision parts.schema parts.limits k (command.Commit name)).effect
    = λ k at. nothing_as k (decision parts.schema parts.limits k (command.Commit name)) (does (RollsBack n) reply.RolledBack) (closed_is parts k at name n (named k at) (closed k at) true (marked k at)) (rolls_nothing k n) in
    record {
      comes = λ k at.
          rolled_back parts k at name n (named k at) c.finish.new.self c.finish.ensures.rest (closed k at) (marked k at)
          (c.finish.ensures.finished k (own_at parts k at) (named_transaction k name n (sym (named k at))) at.stands);
      saved = λ k at. becomes_same parts.schema k _ (nothing k at) c.args.store.now (g.W.Station.content c.args.station.now);
      images = λ k at saved. nothing_came (g.W.Station.content c.args.station.now) _ _ (g.W.Station.history c.args.station.now);
      memory = tt;
      next = λ k at. sym ((nothing k at).saved c.args.store.now.next);
      still = λ k at none. refl;
      settled = c.requires.settled;
      silent = silent_start g.W.Station.now g.W.Station.history g.W.Station.speak_faults c.args.station.now;
      cause = no_cause (g.W.Station.disk_faults c.args.station.now);
    }

pub settle-requires-clause-ready : goal.settle-requires-clause-ready
settle-requires-clause-ready g c =
    let k = c.requires.any.kept in
    commit_ready c.args.parts.now k c.requires.any.at c.in-Some.owner (named_transaction k c.args.transaction.now c.in-Some.owner (sym (c.in-Some.ensures.machine k (c.titles.ensures c.args.parts.now.schema k c.requires.any.at.stands.accounts) ∙ ap (transaction_named k) c.as_slice.ensures)))

pub returns : goal.returns
returns g c =
    let content = g.W.Station.content in
    let history = g.W.Station.history in
    let parts = c.args.parts.now in
    let name = c.args.transaction.now in
    let n = c.in-Some.owner in
    let new = c.settle.new in
    let result = c.settle.result in
    let named : (k : Kept) → IsAt parts k → Some n ≡ transaction_named k name = λ k at. c.in-Some.ensures.machine k (c.titles.ensures parts.schema k at.stands.accounts) ∙ ap (transaction_named k) c.as_slice.ensures in
    let tx : (k : Kept) → IsAt parts k → is_transaction k.owners n.0 ≡ true = λ k at. named_transaction k name n (sym (named k at)) in
    let ready : (k : Kept) → (at : IsAt parts k) → MayMakeReady parts n = λ k at. commit_ready parts k at n (tx k at) in
    let closed : (k : Kept) → IsAt parts k → first_open k.sessions n ≡ None = λ k at. closed_at parts k at.stands c.sessions.result.now c.sessions.ensures n c.in_default-first_open.ensures in
    let decided : (k : Kept) → IsAt parts k → decision parts.schema parts.limits k (command.Commit name) ≡ unless_full parts.schema parts.limits k n (Commits n)
    = λ k at. closed_is parts k at name n (named k at) (closed k at) false (sym (c.is_marked.ensures k at.stands) ∙ c.if-is_marked.false) in
    record {
      comes = if_ok
          (λ (told : Reply). (m : MayMakeReady parts n) → MayCommit m.kept n → Follows parts m.kept (unless_full parts.schema parts.limits m.kept n (Commits n)) told new.parts)
          (λ (told : Reply). (k : Kept) → IsAt parts k → Comes parts k (command.Commit name) told new.parts) result
          (λ told h k at. follows_comes parts new.parts k (command.Commit name) (unless_full parts.schema parts.limits k n (Commits n)) told (decided k at) (h (ready k at) (record { own = own_at parts k at; transaction = tx k at; closed = closed k at })))
          c.settle.ensures.follows;
      saved = on_ok result (λ made k at. subst (λ (d : Decision). BecomesSaved content parts.schema k d.effect c.args.store.now new.store c.args.station.now new.station) (sym (decided k at)) (made (ready k at))) c.settle.ensures.saved;
      images = λ k at. subst (λ (d : Decision). IsSavedThroughout content history parts.schema k d.effect c.args.store.now c.args.station.now new.station) (sym (decided k at)) (c.settle.ensures.images (ready k at));
      memory = if_err
          (λ (why : StoreStop). why ≡ stop.NoMemory → (m : MayMakeReady parts n) → StaysSaved content history parts.schema m.kept c.args.store.now c.args.station.now new.station)
          (λ (why : StoreStop). why ≡ stop.NoMemory → (k : Kept) → IsAt parts k → StaysSaved content history parts.schema k c.args.store.now c.args.station.now new.station) result
          (λ why stays is k at. stays is (ready k at)) c.settle.ensures.memory;
      next = on_ok result (λ is k at. subst (λ (d : Decision). new.store.next ≡ saved_by k c.args.store.now.next d.effect) (sym (decided k at)) (is (ready k at))) c.settle.ensures.next;
      still = λ k at none. c.settle.ensures.still (ready k at) (subst (λ (d : Decision). StoresNothing k d.effect) (decided k at) none);
      settled = c.settle.ensures.settled;
      silent = c.settle.ensures.silent;
      cause = c.settle.ensures.cause;
    }
