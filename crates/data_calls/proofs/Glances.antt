-- What a body tells a basic session is its step, and what comes of it.
use Rattle.std.proofs.Common.{◌≡◌, ℕ, Bool, true, List, [], ◌∷◌, Option, Some, None, length, ◌==◌, ◌-◌, ◌^◌, refl, sym, ap, ◌∙◌, subst}
use Rattle.std.specs.Prelude.{IsSomeAnd, Ok, ◌&&◌, nat_le}
use Rattle.std.specs.List.{slice_get}
use Rattle.std.specs.Option.{option_and_then}
use Rattle.std.specs.FinMap.{get, len}
use Rattle.pss_base.specs.declared.owner.OwnerNo.{OwnerNo as OwnerNumber}
use Rattle.pss_base.specs.declared.session.SessionNo.{SessionNo as SessionNumber}
use Rattle.type_layout.specs.declared.schema.Schema.{Schema}
use Rattle.type_layout.specs.Types.{PlainValue}
use Rattle.type_layout.specs.Schemas.{given}
use Rattle.pss_catalog.specs.Catalog.{Object}
use Rattle.pss_machine.specs.declared.reply.Reply.TheVariants as reply
use Rattle.pss_machine.specs.Needs.{needs}
use Rattle.pss_machine.specs.Operations.{Question, Get, PlainOp, Ask, PlainAnswer, Val}
use Rattle.pss_machine.specs.Owners.{view, blocker, Step, step_on_view}
use Rattle.pss_machine.specs.Copies.{Entry as PlainEntry, entry_numbered, is_attached}
use Rattle.pss_machine.specs.Kept.{Kept, copies_of}
use Rattle.pss_machine.specs.Effects.{Decision}
use Rattle.pss_machine.specs.Asking.{Asked, refused_where}
use Rattle.pss_machine.specs.Stepping.{copied_values, told_by_copy, step_on_copy, copied_answer, changes_further, is_create, value_text}
use Rattle.pss_machine.specs.Moving.{after_step}
use Rattle.pss_machine.proofs.Logic.{same_some}
use Rattle.incarnations.specs.Meaning.{AreCopies, slot, body_under}
use Rattle.owner_accounts.specs.Accounts.{AreAccounts}
use Rattle.owner_accounts.specs.Steps.{HasSerial}
use Rattle.pss_laws.specs.Sound.{IsSound}
use Rattle.pss_copies.specs.Ruled.{HomesAgree}
use Rattle.pss_copies.specs.Seats.{Attends, seated_at}
use Rattle.pss_copies.specs.Stepped.{left_by, OutdatesNone}
use Rattle.connector_parts.specs.declared.parts.Parts.{Parts}
use Rattle.connector_parts.specs.Stands.{StayAs}
use Rattle.data_calls.specs.declared.acting.Acting.{Acting}
use Rattle.data_calls.specs.Asking.{Asks, MayTake, Takes, Follows, decision_on, limited_as}
use Rattle.data_calls.specs.Copied.{MayAct}
use Rattle.data_calls.specs.Leaving.{IsLeft}
use Rattle.data_calls.specs.Ways.{MaySeat, MayName, IsNamedNow}
use Rattle.data_calls.specs.Replying.{MayPrint}
use Rattle.data_calls.specs.Finishing.{AreSeated, made_in}
use Rattle.data_calls.specs.Glances.{IsReading, IsGlance}
use Rattle.data_calls.proofs.Granted.{free}
use Rattle.data_calls.proofs.Steps.{copied_there, on_copy}
use Rattle.data_calls.proofs.Taking.{step_here, step_is, seen_is, takes, basic_needs}
use Rattle.data_calls.proofs.Bodies.{is_read_by}
use Rattle.data_calls.proofs.Standing.{values_same}
use Rattle.data_calls.proofs.Outdating.{as_before, undone}
use Rattle.data_calls.proofs.Seats.{seated_now, attached_here}
use Rattle.data_calls.proofs.Places.{may_seat_named, named_way, unfound_way}
use Rattle.data_calls.proofs.Ends.{prints, may_leave, may_name, may_find, are_seated, is_finished, any_taken, follows}

-- ---- it may be done

module _ {c : Parts} {acting : Acting} {asked : Asked} (a : Asks c acting (Ok asked)) (r : IsReading asked) where
  pub within_them : limited_as a asked ≡ Ok asked
  within_them =
      ap (λ (op : PlainOp). refused_where (changes_further a.is.owner op && nat_le c.limits.changes (len a.is.owner.changes)) reply.Many
      (refused_where (is_create op && a.kept.next == 2 ^ 64 - 1) reply.Serials
      (refused_where (asked.obtains && nat_le c.limits.entries (length (copies_of a.kept acting.session).entries)) reply.Entries (Ok asked)))) r.op_is
      ∙ ap (λ (b : Bool). refused_where (b && nat_le c.limits.entries (length (copies_of a.kept acting.session).entries)) reply.Entries (Ok asked)) r.only

  abbrev pub may_take : MayTake c acting asked
  may_take = record { asks = a; within_them = within_them; serials = subst (HasSerial a.kept.next) (sym r.op_is) tt }

-- ---- the step

-- an answer by values is that of the member
told_value : (values : List PlainValue) (member : ℕ) (v : PlainValue) (a : PlainAnswer) → slice_get values member ≡ Some v → given (slice_get values member) None (λ v. Some (Val v)) ≡ Some a → a ≡ Val v
told_value values member v a has told = sym (same_some (sym (ap (λ o. given o None (λ v. Some (Val v))) has) ∙ told))

module _ {c : Parts} {acting : Acting} {asked : Asked} (m : MayTake c acting asked) (r : IsReading asked) (basic : acting.basic ≡ true) (are : AreCopies c.attended.copies) (values : List PlainValue) (v : PlainValue) (has : slice_get values r.member ≡ Some v) where
  abbrev seen_in : PlainOp → Step
  seen_in op = step_on_view c.schema m.asks.kept.catalog m.asks.is.owner op

  -- no copy answers it: it is done on what the owner sees, which needs and changes nothing
  on_view_step : IsSomeAnd asked.entry (λ n. option_and_then (get c.attended.copies.bodies) (body_under c.attended.copies (slot acting.session n)) ≡ Some values)
      → copied_answer m.asks.kept.catalog m.asks.is.owner (copies_of m.asks.kept acting.session) asked ≡ None → step_here m ≡ step_on_copy asked.op (Val v)
  on_view_step kept none =
      let act : MayAct c acting asked = record { take = m; told = none } in
      let read = is_read_by act r.p r.member r.op_is are values kept v has in
      let needs_none : (seen_in asked.op).needs ≡ [] =
      ap (needs c.schema m.asks.is.owner.level (view m.asks.kept.catalog m.asks.is.owner)) r.op_is
      ∙ basic_needs c.schema m.asks.is.owner.level (view m.asks.kept.catalog m.asks.is.owner) (Get r.p r.member) (m.asks.is.level ∙ basic) in
      let own_none : (seen_in asked.op).own ≡ [] = ap (λ (op : PlainOp). (seen_in op).own) r.op_is in
      seen_is act ∙ (λ i. record { op = asked.op; answer = read.told i; needs = needs_none i; own = own_none i })

  -- the copy answers it
  on_copy_step : (n : ℕ) → asked.entry ≡ Some n → option_and_then (get c.attended.copies.bodies) (body_under c.attended.copies (slot acting.session n)) ≡ Some values → (a : PlainAnswer)
      → copied_answer m.asks.kept.catalog m.asks.is.owner (copies_of m.asks.kept acting.session) asked ≡ Some a → step_here m ≡ step_on_copy asked.op (Val v)
  on_copy_step n named kept a told =
      let on = copied_there c.schema m.asks.kept.catalog m.asks.is.owner (copies_of m.asks.kept acting.session) asked a told in
      let same : on.values ≡ values = values_same m.asks.kept c.attended are m.asks.at.stands.attended acting.session n on.values values (ap (copied_values (copies_of m.asks.kept acting.session)) (sym named) ∙ on.copied) kept in
      let by_values : told_by_copy (view m.asks.kept.catalog m.asks.is.owner) values (Ask (Get r.p r.member)) ≡ Some a =
      ap (λ (vs : List PlainValue). told_by_copy (view m.asks.kept.catalog m.asks.is.owner) vs (Ask (Get r.p r.member))) (sym same)
      ∙ ap (told_by_copy (view m.asks.kept.catalog m.asks.is.owner) on.values) (sym r.op_is) ∙ on.told in
      on_copy c.schema m.asks.kept.catalog m.asks.is.owner (copies_of m.asks.kept acting.session) asked a told ∙ ap (step_on_copy asked.op) (told_value values r.member v a has by_values)

  pub is_glance : IsSomeAnd asked.entry (λ n. option_and_then (get c.attended.copies.bodies) (body_under c.attended.copies (slot acting.session n)) ≡ Some values) → IsGlance m v
  is_glance kept = by asked.entry refl kept
    where
      step : (n : ℕ) → asked.entry ≡ Some n → option_and_then (get c.attended.copies.bodies) (body_under c.attended.copies (slot acting.session n)) ≡ Some values
          → (o : Option PlainAnswer) → copied_answer m.asks.kept.catalog m.asks.is.owner (copies_of m.asks.kept acting.session) asked ≡ o → step_here m ≡ step_on_copy asked.op (Val v)
      step n named some None told = on_view_step kept told
      step n named some (Some a) told = on_copy_step n named some a told

      by : (o : Option ℕ) → asked.entry ≡ o → IsSomeAnd o (λ n. option_and_then (get c.attended.copies.bodies) (body_under c.attended.copies (slot acting.session n)) ≡ Some values) → IsGlance m v
      by None named none = absurd none
      by (Some n) named some = record {
        step_is = step n named some (copied_answer m.asks.kept.catalog m.asks.is.owner (copies_of m.asks.kept acting.session) asked) refl;
        are = are;
        n = n;
        named = named;
        values = values;
        stands = some;
      }

-- ---- what comes of it

module _ {c : Parts} {acting : Acting} {asked : Asked} {v : PlainValue} (m : MayTake c acting asked) (r : IsReading asked) (g : IsGlance m v) where
  none_blocks : blocker m.asks.kept.owners acting.owner (step_here m).needs ≡ None
  none_blocks = ap (λ (t : Step). blocker m.asks.kept.owners acting.owner t.needs) g.step_is ∙ free m.asks.kept.owners acting.owner

  -- the value is of its member's type
  pub may_print : MayPrint c.schema asked.op v
  may_print = prints (step_is m (Val v) none_blocks (ap (λ (t : Step). t.answer) g.step_is)) v refl

  -- the command is counted
  pub glance_takes : (new : Parts) → StayAs c new → new.attended ≡ c.attended → ((question : Question) → AreAccounts c.schema new.accounts (after_step m.asks.kept acting.owner acting.session (step_on_copy (Ask question) (Val v)) asked))
      → Takes c m.asks.kept (decision_on m.asks) acting asked (Val v) new
  glance_takes new stay attended counted =
      takes m (Val v) none_blocks (ap (λ (t : Step). t.answer) g.step_is) new stay attended
      (subst (λ (t : Step). AreAccounts c.schema new.accounts (after_step m.asks.kept acting.owner acting.session t asked)) (sym g.step_is)
      (subst (λ (op : PlainOp). AreAccounts c.schema new.accounts (after_step m.asks.kept acting.owner acting.session (step_on_copy op (Val v)) asked)) (sym r.op_is) (counted (Get r.p r.member))))

-- the entries stay where they stand
module _ {old new : Parts} {k : Kept} {d : Decision} {acting : Acting} {asked : Asked} {v : PlainValue} (t : Takes old k d acting asked (Val v) new)
    (quiet : (k : Kept) (owner : OwnerNumber) (step : Step) → step.own ≡ [] → OutdatesNone owner step → Attends k new.attended → Attends (left_by k owner step) new.attended)
    (fresh : (S : Schema) (k : Kept) (owner : OwnerNumber) (step : Step) (state : Option Object) → step.own ≡ record { serial = k.next; state = state } ∷ [] → OutdatesNone owner step → IsSound S k → HomesAgree k → Attends k new.attended → Attends (left_by k owner step) new.attended)
    (attached : (k : Kept) (s : SessionNumber) (n : ℕ) (e : PlainEntry) → entry_numbered (copies_of k s) n ≡ Some e → is_attached e ≡ true → Attends k new.attended → Attends (seated_at k s n) new.attended)
    (are : AreCopies new.attended.copies) (n : ℕ) (named : asked.entry ≡ Some n) (values : List PlainValue) (stands : option_and_then (get new.attended.copies.bodies) (body_under new.attended.copies (slot acting.session n)) ≡ Some values) where
  left : IsLeft (may_leave (any_taken t)) new
  left = as_before (may_leave (any_taken t)) (undone asked.op (Val v) (λ done. cc)) (quiet k acting.owner t.taken.step.step) (λ state. fresh old.schema k acting.owner t.taken.step.step state)

  abbrev may : MayName new acting asked.entry (Val v)
  may = may_name (any_taken t) new left

  abbrev seat : MaySeat new acting n None
  seat = may_seat_named may refl n named

  named_done : IsNamedNow may new
  named_done =
      named_way may refl n named new
      (seated_now seat new refl refl refl (attached seat.on.now acting.session n seat.can.entry seat.can.there (attached_here seat are new.attended.copies refl values (sym stands)) seat.on.way.attended))

  seated : AreSeated (any_taken t) None new
  seated = are_seated (any_taken t) new named_done (made_in asked.op) refl None new (unfound_way (may_find (any_taken t) new named_done (made_in asked.op) refl) (λ p is. cc))

  pub glance_follows : (text : List ℕ) → text ≡ value_text new.schema asked.op v → Follows old k d (reply.Val text) new
  glance_follows text is = follows t (reply.Val text) new (is_finished (any_taken t) None new seated (reply.Val text) (ap reply.Val is))
