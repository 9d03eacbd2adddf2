-- What was found may be obtained, and the way ends.
use Rattle.std.proofs.Common.{arith, ◌≡◌, ℕ, ◌<◌, ◌≤◌, ◌-◌, ◌^◌, ◌==◌, ◌&&◌, Bool, true, false, length, Option, Some, None, IsSome, refl, sym, ap, ◌∙◌, subst}
use Rattle.std.specs.Prelude.{is_some, nat_le, Ok, Err, if◌then◌else◌}
use Rattle.std.specs.Option.{option_map}
use Rattle.std.specs.FinMap.{get, len}
use Rattle.std.proofs.lemmas.Bool.Decides.{nat_tests}
use Rattle.pss_base.specs.declared.pid.Pid.{Pid}
use Rattle.type_layout.specs.declared.schema.Schema.{Schema}
use Rattle.pss_machine.specs.declared.limits.Limits.{Limits}
use Rattle.pss_machine.specs.declared.reply.Reply.TheVariants as reply
use Rattle.type_layout.specs.Schemas.{given}
use Rattle.pss_machine.specs.Operations.{PlainAnswer, Done, Found, IsThere, Val, Number, Listing, NotFound, Gone, Nil, Duplicate, TooLarge, Busy}
use Rattle.pss_machine.specs.Owners.{Owner}
use Rattle.pss_machine.specs.Sessions.{Session}
use Rattle.pss_machine.specs.Copies.{Copies, at_entry, attached, body_in, detached_from}
use Rattle.pss_machine.specs.Kept.{Kept, copies_of}
use Rattle.pss_machine.specs.Asking.{Asked, refused_where}
use Rattle.pss_machine.specs.Stepping.{within, changes_further, is_create}
use Rattle.pss_machine.specs.Moving.{is_done, is_outdated, seen_in}
use Rattle.pss_machine.proofs.Maps.{get_each, with_here}
use Rattle.pss_machine.proofs.Numbering.{PairedIn, run_paired}
use Rattle.owner_accounts.specs.Accounts.{AreAccounts}
use Rattle.pss_copies.specs.Stepped.{left_by}
use Rattle.pss_copies.proofs.Quiet.{attends_alike}
use Rattle.connector_parts.specs.declared.parts.Parts.{Parts}
use Rattle.connector_parts.specs.Stands.{Stands}
use Rattle.data_calls.specs.declared.acting.Acting.{Acting}
use Rattle.data_calls.specs.Asking.{IsStep, after}
use Rattle.data_calls.specs.Ways.{named_at, named_by, seated_by, entry_found, IsOnWay, CanObtain}
use Rattle.data_calls.specs.Finishing.{AnyTaken}
use Rattle.data_calls.proofs.Alike.{Alike, alike_same, alike_then, alike_with, alike_attached}
use Rattle.data_calls.proofs.Ways.{way_ends, seated_next}
use Rattle.data_calls.proofs.Granted.{within_is}
use Rattle.data_calls.proofs.Entries.{orderly_reached, few_reached, counted_most}
use Rattle.data_calls.proofs.Named.{acting_after, found_seen, alike_left}

-- what is within the limits and obtains has an entry left
obtains_room : (limits : Limits) (next : ℕ) (owner : Owner) (copies : Copies) (asked : Asked) → within limits next owner copies asked ≡ Ok asked → asked.obtains ≡ true → length copies.entries < limits.entries
obtains_room limits next owner copies asked ok obtains = by (nat_le limits.entries (length copies.entries)) refl
  where
    none : (a b : Bool) → refused_where a reply.Many (refused_where b reply.Serials (Err reply.Entries)) ≡ Ok asked → ⊥
    none true b e = cc
    none false true e = cc
    none false false e = cc

    less : (a b : ℕ) → nat_le a b ≡ false → b < a
    less a b e = grind (arith, nat_tests)

    by : (c : Bool) → nat_le limits.entries (length copies.entries) ≡ c → length copies.entries < limits.entries
    by false is = less limits.entries (length copies.entries) is
    by true is =
        absurd (none (changes_further owner asked.op && nat_le limits.changes (len owner.changes)) (is_create asked.op && next == 2 ^ 64 - 1)
        (sym (within_is limits next owner copies asked (changes_further owner asked.op && nat_le limits.changes (len owner.changes)) (is_create asked.op && next == 2 ^ 64 - 1) true refl refl (ap (λ (b : Bool). b && nat_le limits.entries (length copies.entries)) obtains ∙ is)) ∙ ok))

module _ {S : Schema} {limits : Limits} {k : Kept} {acting : Acting} {asked : Asked} {answer : PlainAnswer} (t : IsStep S limits k acting asked answer) where
  abbrev pub left_now : Kept
  left_now = left_by k acting.owner t.step

  abbrev pub named_now : Kept
  named_now = named_by left_now acting.session asked.entry answer

  alike_seated : (b : Bool) (entry : Option ℕ) → Alike (copies_of left_now acting.session) (copies_of (if b then named_at left_now acting.session entry else left_now) acting.session)
  alike_seated false entry = alike_same (copies_of left_now acting.session)
  alike_seated true None = alike_same (copies_of left_now acting.session)
  alike_seated true (Some n) = alike_with left_now.copies acting.session (at_entry n (attached left_now.catalog (seen_in left_now.owners left_now.sessions acting.session))) (alike_attached left_now.catalog (seen_in left_now.owners left_now.sessions acting.session) n)

  pub alike_named : Alike (copies_of k acting.session) (copies_of named_now acting.session)
  alike_named = alike_then (copies_of k acting.session) (copies_of left_now acting.session) (copies_of named_now acting.session) (alike_left t) (alike_seated (is_done answer) asked.entry)

  -- the entry of what was found has the number that it had or would have had before
  pub found_same : (obtains : Bool) (a : PlainAnswer) → entry_found obtains a (copies_of named_now acting.session) ≡ entry_found obtains a (copies_of k acting.session)
  found_same true (Found p) = ap Some (alike_named.number p)
  found_same true Done = refl
  found_same true (IsThere b) = refl
  found_same true (Val v) = refl
  found_same true (Number n) = refl
  found_same true (Listing n first) = refl
  found_same true NotFound = refl
  found_same true (Gone p) = refl
  found_same true Nil = refl
  found_same true (Duplicate key) = refl
  found_same true TooLarge = refl
  found_same true (Busy n) = refl
  found_same false a = refl

-- ---- what was found may be obtained

some_kept : {A B : Type 0} (f : A → B) (o : Option A) → is_some (option_map f o) ≡ is_some o
some_kept f None = refl
some_kept f (Some x) = refl

some_where : {A : Type 0} (o : Option A) → is_some o ≡ true → IsSome o
some_where None h = absurd (cc)
some_where (Some x) h = refl

module _ {S : Schema} {limits : Limits} {k : Kept} {acting : Acting} {asked : Asked} {answer : PlainAnswer} (t : IsStep S limits k acting asked answer) where
  copies_there : is_some (get k.copies acting.session.0) ≡ true
  copies_there =
      (let paired : PairedIn k = subst PairedIn (sym t.reached.is) (run_paired S limits t.reached.catalog t.reached.next t.reached.lines) in
      sym (paired.same acting.session.0) ∙ ap is_some t.is.there)

  left_there : is_some (get (left_now t).copies acting.session.0) ≡ is_some (get k.copies acting.session.0)
  left_there =
      ap is_some (get_each (λ (n : ℕ) (copies : Copies). given (get k.sessions n) copies (λ (session : Session). detached_from (body_in k.owners (record { 0 = n }) session) (is_outdated acting.owner t.step (record { 0 = n }) session) copies)) k.copies acting.session.0)
      ∙ some_kept _ (get k.copies acting.session.0)

  seated_there : (b : Bool) (entry : Option ℕ) → is_some (get (if b then named_at (left_now t) acting.session entry else left_now t).copies acting.session.0) ≡ is_some (get (left_now t).copies acting.session.0)
  seated_there false entry = refl
  seated_there true None = refl
  seated_there true (Some n) =
      ap is_some (with_here (left_now t).copies acting.session.0 (at_entry n (attached (left_now t).catalog (seen_in (left_now t).owners (left_now t).sessions acting.session))))
      ∙ some_kept _ (get (left_now t).copies acting.session.0)

  pub can_find : asked.obtains ≡ true → (p : Pid) → answer ≡ Found p → CanObtain (after t) (named_now t) acting (acting_after t) p
  can_find obtains p found = record {
    seen = found_seen t p found;
    there = some_where (get (named_now t).copies acting.session.0) (seated_there (is_done answer) asked.entry ∙ left_there ∙ copies_there);
    orderly = (alike_named t).orderly (orderly_reached S limits k t.reached acting.session);
    room =
        (let room = obtains_room limits k.next t.is.owner (copies_of k acting.session) asked t.within_them obtains in
        let most : limits.entries ≤ 65535 = t.limited.entries in
        omega (arith, room, most, (alike_named t).count));
    last = (let last = (few_reached k t.performed t.few acting.session).last in omega (arith, last, t.left, (alike_named t).last));
    counts = λ n e is.
        (let was = (alike_named t).back n e is in
        let most = counted_most t.performed n (copies_of k acting.session).entries was.0 (few_reached k t.performed t.few acting.session).counts was.1 in
        omega (arith, most, was.2, t.left));
  }

-- ---- the end

module _ {c : Parts} {acting : Acting} {asked : Asked} {answer : PlainAnswer} (m : AnyTaken c acting asked answer) where
  pub stands_after : (new : Parts) → IsOnWay m.schema m.limits new (after m.taken.step) (seated_by (left_by m.kept acting.owner m.taken.step.step) acting.session asked answer) → Stands new (after m.taken.step)
  stands_after new way = record {
    accounts = subst (λ (S : Schema). AreAccounts S new.accounts (after m.taken.step)) (sym way.schema_is) way.accounts;
    attended =
        attends_alike (seated_by (left_by m.kept acting.owner m.taken.step.step) acting.session asked answer) (after m.taken.step) new.attended (sym way.catalog) (sym way.owners) (sym way.sessions)
        (sym (ap (λ (a : PlainAnswer). (seated_by (left_by m.kept acting.owner m.taken.step.step) acting.session asked a).copies) (sym m.taken.step.answer_is) ∙ way_ends m.kept acting.owner acting.session m.taken.step.step asked))
        (sym (seated_next (left_by m.kept acting.owner m.taken.step.step) acting.session asked answer)) way.attended;
  }
