-- From the steps that were taken to the replies.
use Rattle.std.proofs.Common.{arith, ◌≡◌, ℕ, ◌==◌, false, List, Option, Some, None, refl, sym, ap, ◌∙◌, subst, inl, inr}
use Rattle.std.specs.Prelude.{◌⊎◌, IsSomeAnd, IfSome, unwrap_or}
use Rattle.std.specs.List.{slice_get}
use Rattle.std.specs.FinMap.{get}
use Rattle.pss_base.specs.declared.pid.Pid.{Pid}
use Rattle.pss_base.specs.declared.owner.OwnerNo.{OwnerNo}
use Rattle.type_layout.specs.declared.schema.Schema.{Schema}
use Rattle.type_layout.specs.Types.{PlainValue}
use Rattle.type_layout.specs.Values.{Of, IsRecord}
use Rattle.type_layout.specs.Schemas.{given, members_at}
use Rattle.pss_catalog.specs.Catalog.{Catalog}
use Rattle.pss_machine.specs.declared.limits.Limits.{Limits}
use Rattle.pss_machine.specs.declared.reply.Reply.{Reply}
use Rattle.pss_machine.specs.declared.reply.Reply.TheVariants as reply
use Rattle.pss_machine.specs.Operations.{Question, FindKey, FindPid, FindShort, Exists, Get, Follow, Count, ListOf, PlainOp, Create, Set, Destroy, Ask, PlainAnswer, Done, Found, IsThere, Val, Number, Listing, NotFound, Gone, Nil, Duplicate, TooLarge, Busy}
use Rattle.pss_machine.specs.Homes.{home_of}
use Rattle.pss_machine.specs.Alone.{followed, alone}
use Rattle.pss_machine.specs.Owners.{view, Step, step_on_view}
use Rattle.pss_machine.specs.Copies.{Copied, Entry, Copies, no_copies, entry_numbered}
use Rattle.pss_machine.specs.Kept.{Kept, copies_of}
use Rattle.pss_machine.specs.Asking.{Asked}
use Rattle.pss_machine.specs.Effects.{Decision}
use Rattle.pss_machine.specs.Stepping.{told_by_copy, step_on_copy, step_of, value_text, reply_to}
use Rattle.pss_machine.specs.Moving.{moved}
use Rattle.pss_machine.proofs.Refusing.{is_busy, alone_free}
use Rattle.pss_machine.proofs.Logic.{none_some, same_some, true_false}
use Rattle.pss_laws.proofs.Naming.{named_in, copied_is}
use Rattle.pss_laws.proofs.Stands.{StandFrom, EntriesFrom, AllFrom, found_from}
use Rattle.owner_accounts.proofs.Runs.{fine_at}
use Rattle.pss_copies.specs.Stepped.{left_by}
use Rattle.connector_parts.specs.declared.parts.Parts.{Parts}
use Rattle.connector_parts.specs.Stands.{Stands}
use Rattle.data_calls.specs.declared.acting.Acting.{Acting}
use Rattle.data_calls.specs.Asking.{IsStep, after, object_in, Takes, Follows}
use Rattle.data_calls.specs.Ways.{IsOnWay, HasValues, MayName, MayFind, IsFoundNow}
use Rattle.data_calls.specs.Leaving.{MayLeave, IsLeft}
use Rattle.data_calls.specs.Replying.{MayPrint, CanReply, MayReply}
use Rattle.data_calls.specs.Finishing.{AnyTaken, AreSeated, IsFinished, made_in, without_record, asked_without}
use Rattle.data_calls.proofs.Steps.{OfMember, IsOnCopy, either}
use Rattle.data_calls.proofs.Named.{acting_after, made_seen, can_name}
use Rattle.data_calls.proofs.Obtained.{named_now, found_same, can_find, stands_after}
use Rattle.data_calls.proofs.Printing.{IsRecordOf, copies_are_records, value_in, told_value}

-- ---- what a copy tells

-- nobody holds it up
followed_calm : (M : Catalog) (p : Pid) (v : PlainValue) → is_busy (followed M p v) ≡ false
followed_calm M p v = grind arith

copy_calm : (M : Catalog) (values : List PlainValue) (op : PlainOp) (a : PlainAnswer) → OfMember op → told_by_copy M values op ≡ Some a → is_busy a ≡ false
copy_calm M values (Create serial object) a of told = absurd of
copy_calm M values (Set p i value) a of told = absurd of
copy_calm M values (Destroy p) a of told = absurd of
copy_calm M values (Ask (FindKey h key bytes)) a of told = absurd of
copy_calm M values (Ask (FindPid p)) a of told = absurd of
copy_calm M values (Ask (FindShort h serial)) a of told = absurd of
copy_calm M values (Ask (Exists p)) a of told = absurd of
copy_calm M values (Ask (Count h)) a of told = absurd of
copy_calm M values (Ask (ListOf h)) a of told = absurd of
copy_calm M values (Ask (Get p i)) a of told = by (slice_get values i) told
  where
    by : (o : Option PlainValue) → given o None (λ v. Some (Val v)) ≡ Some a → is_busy a ≡ false
    by None e = absurd (none_some e)
    by (Some v) e = ap is_busy (sym (same_some e))
copy_calm M values (Ask (Follow p i)) a of told = by (slice_get values i) told
  where
    by : (o : Option PlainValue) → given o None (λ v. Some (followed M p v)) ≡ Some a → is_busy a ≡ false
    by None e = absurd (none_some e)
    by (Some v) e = ap is_busy (sym (same_some e)) ∙ followed_calm M p v

-- a value is the member's
copy_value : (M : Catalog) (values : List PlainValue) (p : Pid) (i : ℕ) (v : PlainValue) → told_by_copy M values (Ask (Get p i)) ≡ Some (Val v) → slice_get values i ≡ Some v
copy_value M values p i v told = by (slice_get values i) told
  where
    by : (o : Option PlainValue) → given o None (λ w. Some (Val w)) ≡ Some (Val v) → o ≡ Some v
    by None e = absurd (none_some e)
    by (Some w) e = (let same : w ≡ v = cc in ap Some same)

entries_or : (S : Schema) (o : Option Copies) → ((copies : Copies) → o ≡ Some copies → EntriesFrom (IsRecordOf S) copies.entries) → EntriesFrom (IsRecordOf S) (unwrap_or o no_copies).entries
entries_or S None h = tt
entries_or S (Some copies) h = h copies refl

-- ---- the answer of a step

module _ {S : Schema} {limits : Limits} {k : Kept} {acting : Acting} {asked : Asked} {answer : PlainAnswer} (t : IsStep S limits k acting asked answer) where
  abbrev Cases : Type 0
  Cases = (step_of S k.catalog t.is.owner (copies_of k acting.session) asked ≡ step_on_view S k.catalog t.is.owner asked.op)
      ⊎ ((a : PlainAnswer) × (step_of S k.catalog t.is.owner (copies_of k acting.session) asked ≡ step_on_copy asked.op a) × IsOnCopy k.catalog t.is.owner (copies_of k acting.session) asked a)

  of_view : step_of S k.catalog t.is.owner (copies_of k acting.session) asked ≡ step_on_view S k.catalog t.is.owner asked.op → answer ≡ (alone S (view k.catalog t.is.owner) asked.op).answer
  of_view is = sym t.answer_is ∙ ap (λ (x : Step). x.answer) (t.step_is ∙ is)

  of_copy : (a : PlainAnswer) → step_of S k.catalog t.is.owner (copies_of k acting.session) asked ≡ step_on_copy asked.op a → answer ≡ a
  of_copy a is = sym t.answer_is ∙ ap (λ (x : Step). x.answer) (t.step_is ∙ is)

  pub calm : (n : OwnerNo) → answer ≡ Busy n → ⊥
  calm n busy = by (either S k.catalog t.is.owner (copies_of k acting.session) asked)
    where
      not_calm : is_busy answer ≡ false → ⊥
      not_calm free = true_false (sym (ap is_busy (sym busy))) free

      by : Cases → ⊥
      by (inl is) = not_calm (ap is_busy (of_view is) ∙ alone_free S (view k.catalog t.is.owner) asked.op)
      by (inr is) = not_calm (ap is_busy (of_copy is.0 is.1) ∙ copy_calm (view k.catalog t.is.owner) is.2.values asked.op is.0 is.2.of is.2.told)

  -- all own copies are records of their homes
  records : EntriesFrom (IsRecordOf S) (copies_of k acting.session).entries
  records =
      (let all : AllFrom (IsRecordOf S) k.copies = subst (λ (j : Kept). AllFrom (IsRecordOf S) j.copies) (sym t.reached.is) (copies_are_records S limits t.reached.catalog t.reached.next t.reached.sound t.reached.total t.reached.good t.reached.lines) in
      entries_or S (get k.copies acting.session.0) (all acting.session.0))

  -- so is the one of the entry that a question of a member names
  record_copied : (p : Pid) → object_in asked.op ≡ Some p → (values : List PlainValue) → (e : Entry) → named_in (copies_of k acting.session) asked.entry ≡ Some e → e.stand ≡ Copied values → IsRecord (members_at S (home_of p)) values
  record_copied p about values e named stand = by asked.entry refl named
    where
      of_object : object_in asked.op ≡ Some e.pid → e.pid ≡ p
      of_object is = same_some (sym is ∙ about)

      fair : (o : Option Entry) → o ≡ Some e → IsSomeAnd o (λ x. object_in asked.op ≡ Some x.pid) → object_in asked.op ≡ Some e.pid
      fair None is h = absurd h
      fair (Some x) is h = h ∙ ap (λ (y : Entry). Some y.pid) (same_some is)

      by : (o : Option ℕ) → asked.entry ≡ o → named_in (copies_of k acting.session) o ≡ Some e → IsRecord (members_at S (home_of p)) values
      by None is there = absurd (none_some there)
      by (Some n) is there =
          let one = found_from (IsRecordOf S) (λ x. x.number == n) (copies_of k acting.session).entries e records there in
          subst (λ (q : Pid). IsRecordOf S q values) (of_object (fair (entry_numbered (copies_of k acting.session) n) there (t.fair.named n is))) (subst (StandFrom (IsRecordOf S) e.pid) stand one)

  -- a value that was read is of its member's type
  pub prints : (value : PlainValue) → answer ≡ Val value → MayPrint S asked.op value
  prints value told p i member op at = by (either S k.catalog t.is.owner (copies_of k acting.session) asked)
    where
      by : Cases → Of member.type value
      by (inl is) =
          told_value S k.next (view k.catalog t.is.owner) ((fine_at S limits k t.reached).views acting.owner.0 t.is.owner t.is.owner_there) p i value
          (ap (λ (o : PlainOp). (alone S (view k.catalog t.is.owner) o).answer) (sym op) ∙ sym (of_view is) ∙ told) member at
      by (inr is) =
          let copied = copied_is (copies_of k acting.session) asked.entry is.2.values is.2.copied in
          let read : slice_get is.2.values i ≡ Some value = copy_value (view k.catalog t.is.owner) is.2.values p i value (ap (told_by_copy (view k.catalog t.is.owner) is.2.values) (sym op) ∙ is.2.told ∙ ap Some (sym (of_copy is.0 is.1) ∙ told)) in
          value_in S p is.2.values i value (record_copied p (ap object_in op) is.2.values copied.0 copied.1 copied.2) read member at

-- ---- a reply asks nothing of a record

asks_same : (op : PlainOp) (question : Question) → without_record op ≡ Ask question → op ≡ Ask question
asks_same (Create serial object) question is = absurd (cc)
asks_same (Set p member value) question is = is
asks_same (Destroy p) question is = is
asks_same (Ask other) question is = is

text_same : (S : Schema) (op : PlainOp) (v : PlainValue) → value_text S (without_record op) v ≡ value_text S op v
text_same S (Create serial object) v = refl
text_same S (Set p member value) v = refl
text_same S (Destroy p) v = refl
text_same S (Ask question) v = refl

reply_same : (S : Schema) (k : Kept) (copies : Copies) (asked : Asked) (answer : PlainAnswer) → reply_to S k copies (asked_without asked) answer ≡ reply_to S k copies asked answer
reply_same S k copies asked (Val v) = ap reply.Val (text_same S asked.op v)
reply_same S k copies asked Done = refl
reply_same S k copies asked (Found p) = refl
reply_same S k copies asked (IsThere b) = refl
reply_same S k copies asked (Number n) = refl
reply_same S k copies asked (Listing n first) = refl
reply_same S k copies asked NotFound = refl
reply_same S k copies asked (Gone p) = refl
reply_same S k copies asked Nil = refl
reply_same S k copies asked (Duplicate key) = refl
reply_same S k copies asked TooLarge = refl
reply_same S k copies asked (Busy n) = refl

-- ---- the way to its reply

module _ {c : Parts} {acting : Acting} {asked : Asked} {answer : PlainAnswer} (m : AnyTaken c acting asked answer) where
  abbrev pub may_leave : MayLeave c acting asked.op answer
  may_leave = record { schema = m.schema; limits = m.limits; kept = m.kept; asked = asked; op_is = refl; taken = m.taken }

  -- outdated bodies are left
  abbrev pub may_name : (left : Parts) → IsLeft may_leave left → MayName left acting asked.entry answer
  may_name left way = record {
    on = record { schema = m.schema; limits = m.limits; to = after m.taken.step; now = left_by m.kept acting.owner m.taken.step.step; way = way; is = acting_after m.taken.step };
    can = can_name m.taken.step;
  }

  -- and the entry that is named has its place
  module _ (named : Parts) (way : IsOnWay m.schema m.limits named (after m.taken.step) (named_now m.taken.step)) (made : Option (List PlainValue)) (is : made ≡ made_in asked.op) where
    abbrev pub may_find : MayFind named acting asked.obtains answer made
    may_find = record {
      on = record { schema = m.schema; limits = m.limits; to = after m.taken.step; now = named_now m.taken.step; way = way; is = acting_after m.taken.step };
      can = can_find m.taken.step;
      made_is = subst (λ (o : Option (List PlainValue)). (p : Pid) → answer ≡ Found p → IfSome o (HasValues (after m.taken.step) acting (acting_after m.taken.step) p)) (sym is) (made_seen m.taken.step);
    }

    -- so has that of what was found
    pub are_seated : (entry : Option ℕ) (new : Parts) → IsFoundNow may_find entry new → AreSeated m entry new
    are_seated entry new h = record { way = h.1; entry_is = h.0 ∙ found_same m.taken.step asked.obtains answer }

  module _ (entry : Option ℕ) (new : Parts) (s : AreSeated m entry new) where
    pub can_reply : CanReply m.schema m.kept acting.session (asked_without asked) answer entry
    can_reply = record { prints = λ value told p i member op. prints m.taken.step value told p i member (asks_same asked.op (Get p i) op); free = calm m.taken.step; entry_is = s.entry_is }

    -- what is left of what was asked has the same reply
    abbrev pub may_reply : (left : Asked) → left ≡ asked_without asked → MayReply new.schema left answer entry
    may_reply left is = record { kept = m.kept; session = acting.session; can = subst (λ (x : Asked). CanReply new.schema m.kept acting.session x answer entry) (sym is) (subst (λ (S : Schema). CanReply S m.kept acting.session (asked_without asked) answer entry) (sym s.way.schema_is) can_reply) }

    pub is_finished : (reply : Reply) → reply ≡ reply_to new.schema m.kept (copies_of m.kept acting.session) asked answer → IsFinished m reply new
    is_finished reply is = record {
      reply_is = is ∙ ap (λ (S : Schema). reply_to S m.kept (copies_of m.kept acting.session) asked answer) s.way.schema_is;
      schema_is = s.way.schema_is;
      limits_is = s.way.limits_is;
      stands = stands_after m new s.way;
    }

    pub left_finished : (left : Asked) → left ≡ asked_without asked → (reply : Reply) → reply ≡ reply_to new.schema m.kept (copies_of m.kept acting.session) left answer → IsFinished m reply new
    left_finished left is reply replied =
        is_finished reply (replied ∙ ap (λ (x : Asked). reply_to new.schema m.kept (copies_of m.kept acting.session) x answer) is ∙ reply_same new.schema m.kept (copies_of m.kept acting.session) asked answer)

-- ---- the command

module _ {old : Parts} {k : Kept} {d : Decision} {acting : Acting} {asked : Asked} {answer : PlainAnswer} {taken : Parts} (t : Takes old k d acting asked answer taken) where
  abbrev pub any_taken : AnyTaken taken acting asked answer
  any_taken = record { schema = old.schema; limits = old.limits; kept = k; taken = t.taken }

  pub follows : (reply : Reply) (new : Parts) → IsFinished any_taken reply new → Follows old k d reply new
  follows reply new f = record {
    reply_is = f.reply_is ∙ sym (ap (λ (e : Decision). e.reply) t.comes);
    stay = record { schema = f.schema_is; limits = f.limits_is };
    stands = subst (λ (e : Decision). Stands new (moved k e.effect)) (sym t.comes) f.stands;
  }
