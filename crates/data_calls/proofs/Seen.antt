-- Objects that answers tell of are seen.
use Rattle.std.proofs.Common.{◌≡◌, ℕ, ◌==◌, Bool, true, false, ◌&&◌, cond, List, [], ◌∷◌, map, Option, Some, None, refl, sym, ap, ◌∙◌, subst}
use Rattle.std.proofs.lemmas.Bool.{eq-eqb}
use Rattle.std.specs.Prelude.{filter, find, nat_lt, if◌then◌else◌, length}
use Rattle.std.specs.List.{flat_map, slice_get}
use Rattle.std.specs.FinMap.{get, insert, entries}
use Rattle.pss_base.specs.declared.pid.Pid.{Pid}
use Rattle.type_layout.specs.declared.key.KeyNo.{KeyNo}
use Rattle.type_layout.specs.declared.schema.Schema.{Schema}
use Rattle.type_layout.specs.Types.{PlainValue, Int, Character, Truth, Ordinal, Text, Items, Parts, Ref}
use Rattle.type_layout.specs.Schemas.{given, descends}
use Rattle.pss_catalog.specs.Catalog.{Object, Catalog, has, holds, pids_where, pid_of, references, object_spelling}
use Rattle.pss_catalog.specs.Changes.{over}
use Rattle.pss_machine.specs.Operations.{Question, FindKey, FindPid, FindShort, Exists, Get, Follow, Count, ListOf, PlainOp, Create, Set, Destroy, Ask, PlainAnswer, Done, Found, Val, Gone, Nil, NotFound, IsThere, Number, Listing, Duplicate, TooLarge, Busy}
use Rattle.pss_machine.specs.Homes.{in_one_family}
use Rattle.pss_machine.specs.Alone.{Outcome, answers, pid_at, object_of, first_gone, first_taken, stored, unless_gone, with_member, followed, member_told, found_by_key, told, alone}
use Rattle.pss_machine.proofs.Found.{found_there}
use Rattle.pss_machine.specs.Moving.{is_done}
use Rattle.pss_machine.proofs.Maps.{insert_here}
use Rattle.pss_machine.proofs.Logic.{none_some, same_some}
use Rattle.pss_laws.proofs.Living.{home_of_it}
use Rattle.data_calls.specs.Asking.{object_in}
use Rattle.data_calls.proofs.Changes.{set_done}

-- the catalog has the object
pub record Sees (M : Catalog) (p : Pid) : Type 0 where
  pub object : Object
  pub there : object_of M p ≡ Some object

pub sees_at : (M : Catalog) (p : Pid) (x : Object) → get M p.serial ≡ Some x → x.home.0 ≡ p.home → Sees M p
sees_at M p x there home = record {
  object = x;
  there = ap (λ o. given o None (λ (object : Object). if object.home.0 == p.home then Some object else None)) there ∙ ap (λ (b : Bool). if b then Some x else None) (eq-eqb x.home.0 p.home home);
}

pub has_sees : (M : Catalog) (p : Pid) → has M p ≡ true → Sees M p
has_sees M p e = by (get M p.serial) refl e
  where
    by_home : (x : Object) → get M p.serial ≡ Some x → (b : Bool) → (x.home.0 == p.home) ≡ b → b ≡ true → Sees M p
    by_home x there true is e = record { object = x; there = ap (λ o. given o None (λ (object : Object). if object.home.0 == p.home then Some object else None)) there ∙ ap (λ (b : Bool). if b then Some x else None) is }
    by_home x there false is e = absurd (cc)

    by : (o : Option Object) → get M p.serial ≡ o → given o false (λ (object : Object). object.home.0 == p.home) ≡ true → Sees M p
    by None is e = absurd (cc)
    by (Some x) is e = by_home x is (x.home.0 == p.home) refl e

-- ---- the holder of a key

-- what is found among the pids of entries is that of an entry
found_pid : (test : ℕ × Object → Bool) (q : Pid → Bool) (es : List (ℕ × Object)) (p : Pid) → find q (map pid_of (filter test es)) ≡ Some p → (e : ℕ × Object) × (find (λ e. test e && q (pid_of e)) es ≡ Some e) × (pid_of e ≡ p)
found_pid test q [] p is = absurd (none_some is)
found_pid test q (e ∷ es) p is = by (test e) (q (pid_of e)) refl refl is (found_pid test q es p)
  where
    by : (a b : Bool) → test e ≡ a → q (pid_of e) ≡ b → find q (map pid_of (cond a (e ∷ filter test es) (filter test es))) ≡ Some p
        → (find q (map pid_of (filter test es)) ≡ Some p → (x : ℕ × Object) × (find (λ e. test e && q (pid_of e)) es ≡ Some x) × (pid_of x ≡ p))
        → (x : ℕ × Object) × (find (λ e. test e && q (pid_of e)) (e ∷ es) ≡ Some x) × (pid_of x ≡ p)
    by true true t u is rest =
        (e, ap (λ c. cond c (Some e) (find (λ e. test e && q (pid_of e)) es)) (ap (λ a. a && q (pid_of e)) t ∙ u), same_some (sym (ap (λ c. cond c (Some (pid_of e)) (find q (map pid_of (filter test es)))) u) ∙ is))
    by true false t u is rest =
        let r = rest (sym (ap (λ c. cond c (Some (pid_of e)) (find q (map pid_of (filter test es)))) u) ∙ is) in
        (r.0, ap (λ c. cond c (Some e) (find (λ e. test e && q (pid_of e)) es)) (ap (λ a. a && q (pid_of e)) t ∙ u) ∙ r.1, r.2)
    by false b t u is rest =
        let r = rest is in
        (r.0, ap (λ c. cond c (Some e) (find (λ e. test e && q (pid_of e)) es)) (ap (λ a. a && q (pid_of e)) t) ∙ r.1, r.2)

sees_holder : (test : Object → Bool) (q : Pid → Bool) (M : Catalog) (p : Pid) → find q (pids_where test M) ≡ Some p → Sees M p
sees_holder test q M p is =
    let found = found_pid (λ e. test e.1) q (entries M) p is in
    let there : get M found.0.0 ≡ Some found.0.1 = found_there (λ e. test e.1 && q (pid_of e)) M found.0 found.1 in
    subst (Sees M) found.2 (sees_at M (pid_of found.0) found.0.1 there refl)

-- ---- answers

-- the answer is no object, or one that is seen
abbrev pub FoundSeen : Catalog → PlainAnswer → Type 0
FoundSeen M (Found p) = Sees M p
FoundSeen M _ = Unit {0}

pub followed_seen : (M : Catalog) (p : Pid) (value : PlainValue) → FoundSeen M (followed M p value)
followed_seen M p (Int i) = tt
followed_seen M p (Character c) = tt
followed_seen M p (Truth b) = tt
followed_seen M p (Ordinal n) = tt
followed_seen M p (Text bytes) = tt
followed_seen M p (Items vs) = tt
followed_seen M p (Parts vs) = tt
followed_seen M p (Ref None) = tt
followed_seen M p (Ref (Some q)) = by (has M q) refl
  where
    by : (b : Bool) → has M q ≡ b → FoundSeen M (if b then Found q else Gone q)
    by true is = has_sees M q is
    by false is = tt

module _ (S : Schema) (M : Catalog) where
  told_seen : (question : Question) → FoundSeen M (told S M question)
  told_seen (FindKey h k bytes) = by (found_by_key S M h k bytes) refl
    where
      by : (o : Option Pid) → found_by_key S M h k bytes ≡ o → FoundSeen M (given o NotFound Found)
      by None is = tt
      by (Some p) is = sees_holder (holds S k bytes) (λ p. descends S (record { 0 = p.home }) h) M p is
  told_seen (FindPid p) = by (has M p) refl
    where
      by : (b : Bool) → has M p ≡ b → FoundSeen M (if b then Found p else NotFound)
      by true is = has_sees M p is
      by false is = tt
  told_seen (FindShort h serial) = by (get M serial) refl
    where
      by_family : (x : Object) → get M serial ≡ Some x → (b : Bool) → FoundSeen M (if b then Found (pid_at serial x) else NotFound)
      by_family x is true = sees_at M (pid_at serial x) x is refl
      by_family x is false = tt

      by : (o : Option Object) → get M serial ≡ o → FoundSeen M (given o NotFound (λ object. if in_one_family S object.home h then Found (pid_at serial object) else NotFound))
      by None is = tt
      by (Some x) is = by_family x is (in_one_family S x.home h)
  told_seen (Exists p) = tt
  told_seen (Get p member) = by (object_of M p)
    where
      by_value : (o : Option PlainValue) → FoundSeen M (given o (Gone p) Val)
      by_value None = tt
      by_value (Some v) = tt

      by : (o : Option Object) → FoundSeen M (given o (Gone p) (λ object. given (slice_get object.values member) (Gone p) Val))
      by None = tt
      by (Some x) = by_value (slice_get x.values member)
  told_seen (Follow p member) = by (object_of M p)
    where
      by_value : (o : Option PlainValue) → FoundSeen M (given o (Gone p) (followed M p))
      by_value None = tt
      by_value (Some v) = followed_seen M p v

      by : (o : Option Object) → FoundSeen M (given o (Gone p) (λ object. given (slice_get object.values member) (Gone p) (followed M p)))
      by None = tt
      by (Some x) = by_value (slice_get x.values member)
  told_seen (Count h) = tt
  told_seen (ListOf h) = tt

  -- a member that is told of is of an object that is seen
  pub member_seen : (p : Pid) (member : ℕ) (tell : PlainValue → PlainAnswer) → is_done (member_told M p member tell) ≡ true → Sees M p
  member_seen p member tell = by (object_of M p) refl
    where
      by : (o : Option Object) → object_of M p ≡ o → is_done (given o (Gone p) (λ object. given (slice_get object.values member) (Gone p) tell)) ≡ true → Sees M p
      by None is e = absurd (cc)
      by (Some x) is e = record { object = x; there = is }

  -- ---- after a step

  one_seen : (serial : ℕ) (x : Object) (p : Pid) → p.serial ≡ serial → x.home.0 ≡ p.home → Sees (over M (record { serial = serial; state = Some x } ∷ [])) p
  one_seen serial x p same home = sees_at (over M (record { serial = serial; state = Some x } ∷ [])) p x (ap (get (insert M serial x)) same ∙ insert_here M serial x) home

  created_seen : (serial : ℕ) (object : Object) → FoundSeen (over M (alone S M (Create serial object)).changes) (alone S M (Create serial object)).answer
  created_seen serial object = by_gone (first_gone M (flat_map references object.values))
    where
      by_size : (b : Bool)
          → FoundSeen (over M (if b then answers TooLarge else record { changes = record { serial = serial; state = Some object } ∷ []; answer = Found (pid_at serial object) }).changes) (if b then answers TooLarge else record { changes = record { serial = serial; state = Some object } ∷ []; answer = Found (pid_at serial object) }).answer
      by_size true = tt
      by_size false = one_seen serial object (pid_at serial object) refl refl

      by_key : (o : Option KeyNo) (room : Outcome) → FoundSeen (over M room.changes) room.answer → FoundSeen (over M (given o room (λ k. answers (Duplicate k))).changes) (given o room (λ k. answers (Duplicate k))).answer
      by_key None room h = h
      by_key (Some k) room h = tt

      room : Outcome
      room = if nat_lt 8000 (length (object_spelling S object)) then answers TooLarge else record { changes = record { serial = serial; state = Some object } ∷ []; answer = Found (pid_at serial object) }

      by_gone : (q : Option Pid)
          → FoundSeen (over M (given q (stored S M serial object (Found (pid_at serial object))) (λ q. answers (Gone q))).changes) (given q (stored S M serial object (Found (pid_at serial object))) (λ q. answers (Gone q))).answer
      by_gone None = by_key (first_taken S M serial object) (if nat_lt 8000 (length (object_spelling S object)) then answers TooLarge else record { changes = record { serial = serial; state = Some object } ∷ []; answer = Found (pid_at serial object) }) (by_size (nat_lt 8000 (length (object_spelling S object))))
      by_gone (Some q) = tt

  -- an object that is found where it was made is as it was made
  abbrev made : ℕ → Object → Option Pid → Option KeyNo → Bool → Outcome
  made serial object gone taken large =
      given gone (given taken (if large then answers TooLarge else record { changes = record { serial = serial; state = Some object } ∷ []; answer = Found (pid_at serial object) }) (λ k. answers (Duplicate k))) (λ q. answers (Gone q))

  made_by : (serial : ℕ) (object : Object) (p : Pid) (gone : Option Pid) (taken : Option KeyNo) (large : Bool) → (made serial object gone taken large).answer ≡ Found p → get (over M (made serial object gone taken large).changes) p.serial ≡ Some object
  made_by serial object p (Some q) taken large is = absurd (cc)
  made_by serial object p None (Some k) large is = absurd (cc)
  made_by serial object p None None true is = absurd (cc)
  made_by serial object p None None false is = (let same : pid_at serial object ≡ p = cc in ap (λ (q : Pid). get (insert M serial object) q.serial) (sym same) ∙ insert_here M serial object)

  pub made_there : (serial : ℕ) (object : Object) (p : Pid) → (alone S M (Create serial object)).answer ≡ Found p → get (over M (alone S M (Create serial object)).changes) p.serial ≡ Some object
  made_there serial object p = made_by serial object p (first_gone M (flat_map references object.values)) (first_taken S M serial object) (nat_lt 8000 (length (object_spelling S object)))

  -- the answers of sets and destroys
  abbrev Changing : PlainAnswer → Type 0
  Changing Done = Unit {0}
  Changing (Gone p) = Unit {0}
  Changing (Duplicate k) = Unit {0}
  Changing TooLarge = Unit {0}
  Changing _ = ⊥

  set_answers : (p : Pid) (member : ℕ) (value : PlainValue) → Changing (alone S M (Set p member value)).answer
  set_answers p member value = by (object_of M p)
    where
      by_size : (serial : ℕ) (x : Object) (b : Bool) → Changing (if b then answers TooLarge else record { changes = record { serial = serial; state = Some x } ∷ []; answer = Done }).answer
      by_size serial x true = tt
      by_size serial x false = tt

      by_key : (o : Option KeyNo) (room : Outcome) → Changing room.answer → Changing (given o room (λ k. answers (Duplicate k))).answer
      by_key None room h = h
      by_key (Some k) room h = tt

      by_gone : (q : Option Pid) (room : Outcome) → Changing room.answer → Changing (given q room (λ q. answers (Gone q))).answer
      by_gone None room h = h
      by_gone (Some q) room h = tt

      by : (o : Option Object) → Changing (given o (answers (Gone p)) (λ object. unless_gone M (references value) (stored S M p.serial (with_member object member value) Done))).answer
      by None = tt
      by (Some x) =
          by_gone (first_gone M (references value)) (stored S M p.serial (with_member x member value) Done)
          (by_key (first_taken S M p.serial (with_member x member value)) (if nat_lt 8000 (length (object_spelling S (with_member x member value))) then answers TooLarge else record { changes = record { serial = p.serial; state = Some (with_member x member value) } ∷ []; answer = Done })
          (by_size p.serial (with_member x member value) (nat_lt 8000 (length (object_spelling S (with_member x member value))))))

  destroy_answers : (p : Pid) → Changing (alone S M (Destroy p)).answer
  destroy_answers p = by (object_of M p)
    where
      by : (o : Option Object) → Changing (given o (answers (Gone p)) (λ object. record { changes = record { serial = p.serial; state = None } ∷ []; answer = Done })).answer
      by None = tt
      by (Some x) = tt

  changing_seen : (N : Catalog) (a : PlainAnswer) → Changing a → FoundSeen N a
  changing_seen N Done h = tt
  changing_seen N (Gone p) h = tt
  changing_seen N (Duplicate k) h = tt
  changing_seen N TooLarge h = tt
  changing_seen N (Found p) h = absurd h
  changing_seen N (IsThere b) h = absurd h
  changing_seen N (Val v) h = absurd h
  changing_seen N (Number n) h = absurd h
  changing_seen N (Listing n first) h = absurd h
  changing_seen N NotFound h = absurd h
  changing_seen N Nil h = absurd h
  changing_seen N (Busy n) h = absurd h

  changing_done : (a : PlainAnswer) → Changing a → is_done a ≡ true → a ≡ Done
  changing_done Done h e = refl
  changing_done (Gone p) h e = absurd (cc)
  changing_done (Duplicate k) h e = absurd (cc)
  changing_done TooLarge h e = absurd (cc)
  changing_done (Found p) h e = absurd h
  changing_done (IsThere b) h e = absurd h
  changing_done (Val v) h e = absurd h
  changing_done (Number n) h e = absurd h
  changing_done (Listing n first) h e = absurd h
  changing_done NotFound h e = absurd h
  changing_done Nil h e = absurd h
  changing_done (Busy n) h e = absurd h

  -- what is found is seen after the step
  pub found_after : (op : PlainOp) → FoundSeen (over M (alone S M op).changes) (alone S M op).answer
  found_after (Create serial object) = created_seen serial object
  found_after (Set p member value) = changing_seen (over M (alone S M (Set p member value)).changes) (alone S M (Set p member value)).answer (set_answers p member value)
  found_after (Destroy p) = changing_seen (over M (alone S M (Destroy p)).changes) (alone S M (Destroy p)).answer (destroy_answers p)
  found_after (Ask question) = told_seen question

  -- so is the object of a named entry, where the operation did what it was asked for
  pub named_after : (op : PlainOp) (p : Pid) → object_in op ≡ Some p → is_done (alone S M op).answer ≡ true → Sees (over M (alone S M op).changes) p
  named_after (Create serial object) p named e = absurd (none_some named)
  named_after (Set q member value) p named e =
      let done : (alone S M (Set q member value)).answer ≡ Done = changing_done (alone S M (Set q member value)).answer (set_answers q member value) e in
      let set = set_done S M q member value done in
      subst (Sees (over M (alone S M (Set q member value)).changes)) (same_some named)
      (subst (λ cs. Sees (over M cs) q) (sym set.changes) (one_seen q.serial (with_member set.before member value) q refl (home_of_it M q set.before set.there)))
  named_after (Destroy q) p named e = absurd (none_some named)
  named_after (Ask (FindKey h k bytes)) p named e = absurd (none_some named)
  named_after (Ask (FindPid q)) p named e = absurd (none_some named)
  named_after (Ask (FindShort h serial)) p named e = absurd (none_some named)
  named_after (Ask (Exists q)) p named e = absurd (none_some named)
  named_after (Ask (Get q member)) p named e = subst (Sees M) (same_some named) (member_seen q member Val e)
  named_after (Ask (Follow q member)) p named e = subst (Sees M) (same_some named) (member_seen q member (followed M q) e)
  named_after (Ask (Count h)) p named e = absurd (none_some named)
  named_after (Ask (ListOf h)) p named e = absurd (none_some named)
