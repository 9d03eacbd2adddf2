-- Entries that a step may seat: the one that it names, and that of what it found.
use Rattle.std.proofs.Common.{◌≡◌, ℕ, true, false, List, [], Option, Some, None, refl, sym, ap, ◌∙◌, subst, inl, inr}
use Rattle.std.specs.Prelude.{◌⊎◌, IsSomeAnd, IfSome, unwrap_or}
use Rattle.std.specs.Option.{option_map}
use Rattle.std.specs.FinMap.{get}
use Rattle.pss_base.specs.declared.pid.Pid.{Pid}
use Rattle.type_layout.specs.declared.schema.Schema.{Schema}
use Rattle.type_layout.specs.Types.{PlainValue}
use Rattle.type_layout.specs.Schemas.{given}
use Rattle.pss_catalog.specs.Catalog.{Object, Catalog}
use Rattle.pss_catalog.specs.Changes.{over}
use Rattle.pss_machine.specs.declared.limits.Limits.{Limits}
use Rattle.pss_machine.specs.Operations.{FindKey, FindPid, FindShort, Exists, Get, Follow, Count, ListOf, PlainOp, Create, Set, Destroy, Ask, PlainAnswer, Found, Val}
use Rattle.std.specs.List.{slice_get}
use Rattle.pss_machine.specs.Alone.{object_of, followed, alone}
use Rattle.pss_machine.specs.Owners.{view, Step, step_on_view, stepped}
use Rattle.pss_machine.specs.Copies.{Stand, Copied, Entry, no_copies, entry_numbered, is_attached}
use Rattle.pss_machine.specs.Kept.{Kept, copies_of}
use Rattle.pss_machine.specs.Asking.{Asked}
use Rattle.pss_machine.specs.Stepping.{step_on_copy, step_of, told_by_copy}
use Rattle.pss_machine.specs.Moving.{is_done, is_outdated}
use Rattle.pss_machine.proofs.Logic.{none_some, same_some, true_false}
use Rattle.pss_laws.proofs.Naming.{named_in, copied_is}
use Rattle.pss_copies.specs.Stepped.{left_by, OutdatesNone}
use Rattle.data_calls.specs.declared.acting.Acting.{Acting}
use Rattle.data_calls.specs.Acting.{IsActing}
use Rattle.data_calls.specs.Asking.{IsStep, after, object_in}
use Rattle.data_calls.specs.Ways.{IsSeen, HasValues, CanSeat}
use Rattle.data_calls.specs.Finishing.{made_in}
use Rattle.data_calls.proofs.Alike.{Alike, alike_in_all}
use Rattle.data_calls.proofs.Actors.{acts_with}
use Rattle.data_calls.proofs.Changes.{changes_old}
use Rattle.data_calls.proofs.Entries.{left_same}
use Rattle.data_calls.proofs.Steps.{OfMember, IsOnCopy, either}
use Rattle.data_calls.proofs.Seen.{Sees, FoundSeen, followed_seen, found_after, made_there, named_after}
use Rattle.data_calls.proofs.Outdating.{owner_after, view_after, outdates_where}

-- ---- who acts after the step

module _ {S : Schema} {limits : Limits} {k : Kept} {acting : Acting} {asked : Asked} {answer : PlainAnswer} (t : IsStep S limits k acting asked answer) where
  abbrev pub acting_after : IsActing (after t) acting
  acting_after = record {
    session = t.is.session;
    there = t.is.there;
    access_is = t.is.access_is;
    owner = stepped t.step t.is.owner;
    owner_there = owner_after t;
    acts_is = t.is.acts_is;
    acts = acts_with (after t).owners t.is.session acting.owner (stepped t.step t.is.owner) t.is.acts_is (owner_after t);
    of = t.is.of;
    basic_is = t.is.basic_is;
    level = t.is.level;
    goes_on = t.is.goes_on;
  }

  abbrev Cases : Type 0
  Cases = (step_of S k.catalog t.is.owner (copies_of k acting.session) asked ≡ step_on_view S k.catalog t.is.owner asked.op)
      ⊎ ((a : PlainAnswer) × (step_of S k.catalog t.is.owner (copies_of k acting.session) asked ≡ step_on_copy asked.op a) × IsOnCopy k.catalog t.is.owner (copies_of k acting.session) asked a)

  seen_of : (p : Pid) → Sees (over (view k.catalog t.is.owner) t.step.own) p → IsSeen (after t) acting acting_after p
  seen_of p sees = record { object = sees.object; there = ap (λ (M : Catalog). object_of M p) (view_after t) ∙ sees.there }

  answer_there : step_of S k.catalog t.is.owner (copies_of k acting.session) asked ≡ step_on_view S k.catalog t.is.owner asked.op → answer ≡ (alone S (view k.catalog t.is.owner) asked.op).answer
  answer_there is = sym t.answer_is ∙ ap (λ (x : Step). x.answer) (t.step_is ∙ is)

  own_there : step_of S k.catalog t.is.owner (copies_of k acting.session) asked ≡ step_on_view S k.catalog t.is.owner asked.op → t.step.own ≡ (alone S (view k.catalog t.is.owner) asked.op).changes
  own_there is = ap (λ (x : Step). x.own) (t.step_is ∙ is)

  -- the object of a named entry is seen after a step on what the owner sees
  named_seen : step_of S k.catalog t.is.owner (copies_of k acting.session) asked ≡ step_on_view S k.catalog t.is.owner asked.op → (p : Pid) → object_in asked.op ≡ Some p → is_done answer ≡ true → IsSeen (after t) acting acting_after p
  named_seen is p named done =
      seen_of p (subst (λ cs. Sees (over (view k.catalog t.is.owner) cs) p) (sym (own_there is)) (named_after S (view k.catalog t.is.owner) asked.op p named (ap is_done (sym (answer_there is)) ∙ done)))

  -- what was found is seen
  pub found_seen : (p : Pid) → answer ≡ Found p → IsSeen (after t) acting acting_after p
  found_seen p found = by (either S k.catalog t.is.owner (copies_of k acting.session) asked)
    where
      of_copy : (values : List PlainValue) (op : PlainOp) (a : PlainAnswer) → told_by_copy (view k.catalog t.is.owner) values op ≡ Some a → OfMember op → FoundSeen (view k.catalog t.is.owner) a
      of_copy values (Create serial object) a told of = absurd of
      of_copy values (Set q member value) a told of = absurd of
      of_copy values (Destroy q) a told of = absurd of
      of_copy values (Ask (FindKey h key bytes)) a told of = absurd of
      of_copy values (Ask (FindPid q)) a told of = absurd of
      of_copy values (Ask (FindShort h serial)) a told of = absurd of
      of_copy values (Ask (Exists q)) a told of = absurd of
      of_copy values (Ask (Get q member)) a told of = by_value (slice_get values member) told
        where
          by_value : (o : Option PlainValue) → given o None (λ v. Some (Val v)) ≡ Some a → FoundSeen (view k.catalog t.is.owner) a
          by_value None e = absurd (none_some e)
          by_value (Some v) e = subst (FoundSeen (view k.catalog t.is.owner)) (same_some e) tt
      of_copy values (Ask (Follow q member)) a told of = by_value (slice_get values member) told
        where
          by_value : (o : Option PlainValue) → given o None (λ v. Some (followed (view k.catalog t.is.owner) q v)) ≡ Some a → FoundSeen (view k.catalog t.is.owner) a
          by_value None e = absurd (none_some e)
          by_value (Some v) e = subst (FoundSeen (view k.catalog t.is.owner)) (same_some e) (followed_seen (view k.catalog t.is.owner) q v)
      of_copy values (Ask (Count h)) a told of = absurd of
      of_copy values (Ask (ListOf h)) a told of = absurd of

      by : Cases → IsSeen (after t) acting acting_after p
      by (inl is) =
          seen_of p (subst (λ cs. Sees (over (view k.catalog t.is.owner) cs) p) (sym (own_there is))
          (subst (FoundSeen (over (view k.catalog t.is.owner) (alone S (view k.catalog t.is.owner) asked.op).changes)) (sym (answer_there is) ∙ found) (found_after S (view k.catalog t.is.owner) asked.op)))
      by (inr is) =
          let own : t.step.own ≡ [] = ap (λ (x : Step). x.own) (t.step_is ∙ is.1) in
          let a_is : is.0 ≡ Found p = sym (sym t.answer_is ∙ ap (λ (x : Step). x.answer) (t.step_is ∙ is.1)) ∙ found in
          seen_of p (subst (λ cs. Sees (over (view k.catalog t.is.owner) cs) p) (sym own) (subst (FoundSeen (view k.catalog t.is.owner)) a_is (of_copy is.2.values asked.op is.0 is.2.told is.2.of)))

  -- with the values that it was made with, where it is a new one
  pub made_seen : (p : Pid) → answer ≡ Found p → IfSome (made_in asked.op) (HasValues (after t) acting acting_after p)
  made_seen p found = by_op asked.op refl
    where
      by_op : (op : PlainOp) → asked.op ≡ op → IfSome (made_in op) (HasValues (after t) acting acting_after p)
      by_op (Create serial object) op_is = by (either S k.catalog t.is.owner (copies_of k acting.session) asked)
        where
          by : Cases → HasValues (after t) acting acting_after p object.values
          by (inl is) =
              let changes : t.step.own ≡ (alone S (view k.catalog t.is.owner) (Create serial object)).changes = own_there is ∙ ap (λ (op : PlainOp). (alone S (view k.catalog t.is.owner) op).changes) op_is in
              let answers : (alone S (view k.catalog t.is.owner) (Create serial object)).answer ≡ Found p = ap (λ (op : PlainOp). (alone S (view k.catalog t.is.owner) op).answer) (sym op_is) ∙ sym (answer_there is) ∙ found in
              ap (option_map (λ (x : Object). x.values))
              (sym (ap (λ (M : Catalog). get M p.serial) (view_after t) ∙ ap (λ cs. get (over (view k.catalog t.is.owner) cs) p.serial) changes ∙ made_there S (view k.catalog t.is.owner) serial object p answers))
          by (inr is) = absurd (subst OfMember op_is is.2.of)
      by_op (Set q member value) op_is = tt
      by_op (Destroy q) op_is = tt
      by_op (Ask question) op_is = tt

  -- ---- the named entry

  copies_left : OutdatesNone acting.owner t.step → (left_by k acting.owner t.step).copies ≡ k.copies
  copies_left none = left_same k.owners k.sessions (is_outdated acting.owner t.step) k.copies (λ s session b. none s session b)

  pub alike_left : Alike (copies_of k acting.session) (copies_of (left_by k acting.owner t.step) acting.session)
  alike_left = alike_in_all k.owners k.sessions (is_outdated acting.owner t.step) k.copies acting.session

  -- it may come to stand on a body
  pub can_name : is_done answer ≡ true → (n : ℕ) → asked.entry ≡ Some n → CanSeat (after t) (left_by k acting.owner t.step) acting acting_after n
  can_name done n named = by (entry_numbered (copies_of k acting.session) n) refl (t.fair.named n named)
    where
      asks_quiet : (op : PlainOp) → OfMember op → changes_old op answer ≡ false
      asks_quiet (Create serial object) of = absurd of
      asks_quiet (Set q member value) of = absurd of
      asks_quiet (Destroy q) of = absurd of
      asks_quiet (Ask question) of = refl

      attached : (e : Entry) (values : List PlainValue) → e.stand ≡ Copied values → is_attached e ≡ true
      attached e values is = ap (λ (stand : Stand). is_attached (record { number = e.number; pid = e.pid; count = e.count; stand = stand })) is

      seen : (e f : Entry) → entry_numbered (copies_of k acting.session) n ≡ Some e → object_in asked.op ≡ Some e.pid → entry_numbered (copies_of (left_by k acting.owner t.step) acting.session) n ≡ Some f → f.pid ≡ e.pid → is_attached f ≡ false → Cases
          → IsSeen (after t) acting acting_after f.pid
      seen e f there object here pid loose (inl is) = named_seen is f.pid (object ∙ ap Some (sym pid)) done
      seen e f there object here pid loose (inr is) =
          let copied = copied_is (copies_of k acting.session) asked.entry is.2.values is.2.copied in
          let e_is : e ≡ copied.0 = same_some (sym there ∙ ap (named_in (copies_of k acting.session)) (sym named) ∙ copied.1) in
          let same : f ≡ e = same_some (sym here ∙ ap (λ all. entry_numbered (unwrap_or (get all acting.session.0) no_copies) n) (copies_left (outdates_where t (asks_quiet asked.op is.2.of))) ∙ there) in
          absurd (true_false (attached copied.0 is.2.values copied.2) (ap is_attached (sym (same ∙ e_is)) ∙ loose))

      by : (o : Option Entry) → entry_numbered (copies_of k acting.session) n ≡ o → IsSomeAnd o (λ e. object_in asked.op ≡ Some e.pid) → CanSeat (after t) (left_by k acting.owner t.step) acting acting_after n
      by None there fair = absurd fair
      by (Some e) there fair =
          let f = alike_left.there n e there in
          record {
            entry = f.0;
            there = f.1;
            seen = λ loose. seen e f.0 there fair f.1 f.2 loose (either S k.catalog t.is.owner (copies_of k acting.session) asked);
          }
