use Rattle.std.proofs.Common.{refl, sym, ap, ◌∙◌, subst}
use Rattle.std.specs.Prelude.{is_some}
use Rattle.std.specs.FinMap.{get}
use Rattle.incarnations.specs.Meaning.{Meaning, AreCopies, body}
use Rattle.owner_view.proofs.Outcomes.{on_ok}
use Rattle.data_calls.proofs.Seats.{session_now, seated_now, pid_there, may_share, may_see, may_attach, shared_here, seen_entry, record_entry}
use Rattle.data_calls.proofs.seating.place.Goals as goal

pub unreachable-requires : goal.unreachable-requires
unreachable-requires c = pid_there c.requires.may (subst AreCopies c.copies-copies.ensures c.copies_hold.ensures) c.copies-copies.result.now c.copies-copies.ensures c.in_default.ensures

pub share-requires : goal.share-requires
share-requires c =
    let m = c.requires.may in
    may_share m (subst AreCopies c.copies-copies.ensures c.copies_hold.ensures) c.requires.loose c.copies-copies.result.now c.copies-copies.ensures c.in-Some.pid c.in-Some.ensures c.view_of-view.result
    (c.view_of-view.ensures m.on.schema m.on.to m.on.is c.in-Some.pid m.on.way.accounts refl) (ap (λ (x : Meaning). is_some (get x.bodies (body c.in-Some.pid c.view_of-view.result))) (c.copies-copies.ensures ∙ sym c.copies.ensures) ∙ sym c.has_body.ensures ∙ c.if-has_body.true)

pub returns-then-has_body : goal.returns-then-has_body
returns-then-has_body c m =
    let are = subst AreCopies c.copies-copies.ensures c.copies_hold.ensures in
    let seen = c.view_of-view.ensures m.on.schema m.on.to m.on.is c.in-Some.pid m.on.way.accounts refl in
    seated_now m _ refl refl refl
    (c.share.ensures m.on.now m.on.is.session (session_now m) m.on.is.goes_on
    (seen_entry m are c.requires.loose c.copies-copies.result.now c.copies-copies.ensures c.in-Some.pid c.in-Some.ensures c.view_of-view.result seen)
    (shared_here m are c.requires.loose c.copies-copies.result.now c.copies-copies.ensures c.in-Some.pid c.in-Some.ensures c.view_of-view.result seen (ap (λ (x : Meaning). is_some (get x.bodies (body c.in-Some.pid c.view_of-view.result))) (c.copies-copies.ensures ∙ sym c.copies.ensures) ∙ sym c.has_body.ensures ∙ c.if-has_body.true)) m.on.way.attended)

pub record_seen-requires : goal.record_seen-requires
record_seen-requires c =
    may_see c.requires.may (subst AreCopies c.copies-copies.ensures c.copies_hold.ensures) c.requires.loose c.copies-copies.result.now c.copies-copies.ensures c.in-Some.pid c.in-Some.ensures

pub attach-requires : goal.attach-requires
attach-requires c =
    let m = c.requires.may in
    may_attach m (subst AreCopies c.copies-copies.ensures c.copies_hold.ensures) c.requires.loose c.copies-copies.result.now c.copies-copies.ensures c.in-Some.pid c.in-Some.ensures c.view_of-view.result
    (c.view_of-view.ensures m.on.schema m.on.to m.on.is c.in-Some.pid m.on.way.accounts refl) (ap (λ (x : Meaning). is_some (get x.bodies (body c.in-Some.pid c.view_of-view.result))) (c.copies-copies.ensures ∙ sym c.copies.ensures) ∙ sym c.has_body.ensures ∙ c.if-has_body.false)

pub returns : goal.returns
returns c =
    on_ok c.attach.result
    (λ attached m.
    let are = subst AreCopies c.copies-copies.ensures c.copies_hold.ensures in
    let seen = c.view_of-view.ensures m.on.schema m.on.to m.on.is c.in-Some.pid m.on.way.accounts refl in
    seated_now m _ refl refl refl
    (attached m.on.now m.on.is.session (session_now m) m.on.is.goes_on
    (record_entry m are c.requires.loose c.copies-copies.result.now c.copies-copies.ensures c.in-Some.pid c.in-Some.ensures c.view_of-view.result seen c.in_ok-values.values
    (c.in_ok-values.ensures (may_see m are c.requires.loose c.copies-copies.result.now c.copies-copies.ensures c.in-Some.pid c.in-Some.ensures))) m.on.way.attended))
    c.attach.ensures.ok
