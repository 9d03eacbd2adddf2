-- What a data command used is attached.
use Rattle.std.proofs.Common.{◌≡◌, ℕ, ◌==◌, ◌&&◌, cond, Bool, true, false, List, [], ◌∷◌, length, map, Option, Some, None, refl, sym, ap, ◌∙◌, subst, inl, inr}
use Rattle.std.specs.Prelude.{◌⊎◌, find, filter, is_some, nat_lt, if◌then◌else◌}
use Rattle.std.specs.List.{slice_get, flat_map}
use Rattle.std.specs.Cmp.{nat_cmp_total}
use Rattle.std.specs.FinMap.{get, entries, contains_key, get-insert}
use Rattle.std.proofs.lemmas.Bool.{eq-eqb}
use Rattle.pss_base.specs.declared.pid.Pid.{Pid}
use Rattle.type_layout.specs.declared.schema.Schema.{Schema}
use Rattle.type_layout.specs.declared.home.HomeNo.{HomeNo}
use Rattle.type_layout.specs.declared.key.KeyNo.{KeyNo}
use Rattle.type_layout.specs.Types.{PlainValue, Int, Character, Truth, Ordinal, Text, Items, Parts, Ref}
use Rattle.type_layout.specs.Schemas.{given, descends}
use Rattle.pss_catalog.specs.Catalog.{Object, Catalog, has, holds, pid_of, references, object_spelling}
use Rattle.pss_machine.specs.Operations.{Question, FindKey, FindPid, FindShort, Exists, Get, Follow, Count, ListOf, PlainOp, Create, Set, Destroy, Ask, PlainAnswer, Done, Found, Val, NotFound, Gone, Duplicate, TooLarge}
use Rattle.pss_machine.specs.Homes.{in_one_family}
use Rattle.pss_machine.specs.Changes.{Changes, with_changes}
use Rattle.pss_machine.specs.Alone.{Outcome, answers, alone, told, followed, member_told, object_of, found_by_key, stored, first_taken, unless_gone, first_gone, with_member, pid_at}
use Rattle.pss_machine.specs.Owners.{Owner, is_basic, view, has_changed, stepped, step_on_view}
use Rattle.pss_machine.specs.Copies.{Stand, Loose, Shared, Copied, Entry, Copies, entry_numbered, is_attached}
use Rattle.pss_machine.specs.Asking.{Asked}
use Rattle.pss_machine.specs.Stepping.{copied_values, copied_answer, told_by_copy, step_on_copy, step_of}
use Rattle.pss_machine.specs.Moving.{is_done}
use Rattle.pss_machine.proofs.Maps.{tied_self}
use Rattle.pss_machine.proofs.Found.{found_there}
use Rattle.pss_machine.proofs.Views.{There, has_there, there_unchanged}
use Rattle.pss_machine.proofs.Logic.{none_some, same_some, true_false}

same_found : {p q : Pid} → Found p ≡ Found q → p ≡ q
same_found e = cc

-- ---- what an answer tells is there

module _ (S : Schema) (N : Catalog) where
  -- the first pid that passes, of objects that pass
  found_entry : (test : Pid → Bool) (pass : ℕ × Object → Bool) (es : List (ℕ × Object)) (p : Pid) → find test (map pid_of (filter pass es)) ≡ Some p → (e : ℕ × Object) × (find (λ e. pass e && test (pid_of e)) es ≡ Some e) × (pid_of e ≡ p)
  found_entry test pass [] p is = absurd (none_some is)
  found_entry test pass (x ∷ es) p is = by (pass x) refl (test (pid_of x)) refl is (found_entry test pass es p)
    where
      by : (a : Bool) → pass x ≡ a → (b : Bool) → test (pid_of x) ≡ b → find test (map pid_of (cond a (x ∷ filter pass es) (filter pass es))) ≡ Some p
          → (find test (map pid_of (filter pass es)) ≡ Some p → (e : ℕ × Object) × (find (λ e. pass e && test (pid_of e)) es ≡ Some e) × (pid_of e ≡ p))
          → (e : ℕ × Object) × (cond (a && b) (Some x) (find (λ e. pass e && test (pid_of e)) es) ≡ Some e) × (pid_of e ≡ p)
      by true at true passes is rest = (x, refl, same_some (sym (ap (λ b. cond b (Some (pid_of x)) (find test (map pid_of (filter pass es)))) passes) ∙ is))
      by true at false passes is rest = rest (sym (ap (λ b. cond b (Some (pid_of x)) (find test (map pid_of (filter pass es)))) passes) ∙ is)
      by false at b passes is rest = rest is

  key_there : (h : HomeNo) (k : KeyNo) (bytes : List ℕ) (p : Pid) → found_by_key S N h k bytes ≡ Some p → There N p
  key_there h k bytes p is =
      let one : (e : ℕ × Object) × (find (λ e. holds S k bytes e.1 && descends S (record { 0 = (pid_of e).home }) h) (entries N) ≡ Some e) × (pid_of e ≡ p) = found_entry (λ p. descends S (record { 0 = p.home }) h) (λ e. holds S k bytes e.1) (entries N) p is in
      let there : get N one.0.0 ≡ Some one.0.1 = found_there (λ e. holds S k bytes e.1 && descends S (record { 0 = (pid_of e).home }) h) N one.0 one.1 in
      subst (There N) one.2 (has_there N (pid_of one.0) (ap (λ o. given o false (λ object. object.home.0 == one.0.1.home.0)) there ∙ eq-eqb one.0.1.home.0 one.0.1.home.0 refl))

  followed_there : (p : Pid) (v : PlainValue) (q : Pid) → followed N p v ≡ Found q → There N q
  followed_there p (Ref (Some r)) q is = by (has N r) refl is
    where
      by : (b : Bool) → has N r ≡ b → (if b then Found r else Gone r) ≡ Found q → There N q
      by true e is = subst (There N) (same_found is) (has_there N r e)
      by false e is = absurd cc
  followed_there p (Ref None) q is = absurd cc
  followed_there p (Int n) q is = absurd cc
  followed_there p (Character n) q is = absurd cc
  followed_there p (Truth b) q is = absurd cc
  followed_there p (Ordinal n) q is = absurd cc
  followed_there p (Text b) q is = absurd cc
  followed_there p (Items vs) q is = absurd cc
  followed_there p (Parts vs) q is = absurd cc

  member_found : (p : Pid) (i : ℕ) (tell : PlainValue → PlainAnswer) (q : Pid) → ((v : PlainValue) → tell v ≡ Found q → There N q) → member_told N p i tell ≡ Found q → There N q
  member_found p i tell q h is = by (object_of N p) is
    where
      by_value : (o : Option PlainValue) → given o (Gone p) tell ≡ Found q → There N q
      by_value None is = absurd cc
      by_value (Some v) is = h v is

      by : (o : Option Object) → given o (Gone p) (λ object. given (slice_get object.values i) (Gone p) tell) ≡ Found q → There N q
      by None is = absurd cc
      by (Some object) is = by_value (slice_get object.values i) is

  told_there : (question : Question) (p : Pid) → told S N question ≡ Found p → There N p
  told_there (FindKey h k bytes) p is = by (found_by_key S N h k bytes) refl is
    where
      by : (o : Option Pid) → found_by_key S N h k bytes ≡ o → given o NotFound Found ≡ Found p → There N p
      by None e is = absurd cc
      by (Some q) e is = subst (There N) (same_found is) (key_there h k bytes q e)
  told_there (FindPid q) p is = by (has N q) refl is
    where
      by : (b : Bool) → has N q ≡ b → (if b then Found q else NotFound) ≡ Found p → There N p
      by true e is = subst (There N) (same_found is) (has_there N q e)
      by false e is = absurd cc
  told_there (FindShort h serial) p is = by (get N serial) refl is
    where
      by_family : (object : Object) → get N serial ≡ Some object → (b : Bool) → (if b then Found (pid_at serial object) else NotFound) ≡ Found p → There N p
      by_family object there true is = subst (There N) (same_found is) (has_there N (pid_at serial object) (ap (λ o. given o false (λ x. x.home.0 == object.home.0)) there ∙ eq-eqb object.home.0 object.home.0 refl))
      by_family object there false is = absurd cc

      by : (o : Option Object) → get N serial ≡ o → given o NotFound (λ object. if in_one_family S object.home h then Found (pid_at serial object) else NotFound) ≡ Found p → There N p
      by None e is = absurd cc
      by (Some object) e is = by_family object e (in_one_family S object.home h) is
  told_there (Exists q) p is = absurd cc
  told_there (Get q i) p is = member_found q i Val p (λ v e. absurd cc) is
  told_there (Follow q i) p is = member_found q i (followed N q) p (λ v. followed_there q v p) is
  told_there (Count h) p is = absurd cc
  told_there (ListOf h) p is = absurd cc

  -- a member is told of an object that is there
  member_there : (p : Pid) (i : ℕ) (tell : PlainValue → PlainAnswer) → is_done (member_told N p i tell) ≡ true → There N p
  member_there p i tell e = by (object_of N p) e
    where
      by : (o : Option Object) → is_done (given o (Gone p) (λ object. given (slice_get object.values i) (Gone p) tell)) ≡ true → is_some o ≡ true
      by None e = absurd cc
      by (Some object) e = refl

  -- ---- what changes with an answer

  -- where it is done, the serial is changed
  abbrev Changed : ℕ → Outcome → Type 0
  Changed serial x = is_done x.answer ≡ true → (state : Option Object) × (x.changes ≡ record { serial = serial; state = state } ∷ [])

  stored_changed : (serial : ℕ) (object : Object) (end : PlainAnswer) → Changed serial (stored S N serial object end)
  stored_changed serial object end = by (first_taken S N serial object) (nat_lt 8000 (length (object_spelling S object)))
    where
      by : (o : Option KeyNo) (b : Bool) → Changed serial (given o (if b then answers TooLarge else record { changes = record { serial = serial; state = Some object } ∷ []; answer = end }) (λ k. answers (Duplicate k)))
      by (Some k) b e = absurd cc
      by None true e = absurd cc
      by None false e = (Some object, refl)

  gone_changed : (serial : ℕ) (pids : List Pid) (x : Outcome) → Changed serial x → Changed serial (unless_gone N pids x)
  gone_changed serial pids x h = by (first_gone N pids)
    where
      by : (o : Option Pid) → Changed serial (given o x (λ q. answers (Gone q)))
      by None = h
      by (Some q) = λ e. absurd cc

  create_changed : (serial : ℕ) (object : Object) → Changed serial (alone S N (Create serial object))
  create_changed serial object = gone_changed serial (flat_map references object.values) (stored S N serial object (Found (pid_at serial object))) (stored_changed serial object (Found (pid_at serial object)))

  set_changed : (p : Pid) (i : ℕ) (v : PlainValue) → Changed p.serial (alone S N (Set p i v))
  set_changed p i v = by (object_of N p)
    where
      by : (o : Option Object) → Changed p.serial (given o (answers (Gone p)) (λ object. unless_gone N (references v) (stored S N p.serial (with_member object i v) Done)))
      by None = λ e. absurd cc
      by (Some object) = gone_changed p.serial (references v) (stored S N p.serial (with_member object i v) Done) (stored_changed p.serial (with_member object i v) Done)

  create_found : (serial : ℕ) (object : Object) (p : Pid) → (alone S N (Create serial object)).answer ≡ Found p → p.serial ≡ serial
  create_found serial object p is = by (first_gone N (flat_map references object.values)) (first_taken S N serial object) (nat_lt 8000 (length (object_spelling S object))) is
    where
      by : (g : Option Pid) (t : Option KeyNo) (b : Bool)
          → (given g (given t (if b then answers TooLarge else record { changes = record { serial = serial; state = Some object } ∷ []; answer = Found (pid_at serial object) }) (λ k. answers (Duplicate k))) (λ q. answers (Gone q))).answer ≡ Found p → p.serial ≡ serial
      by (Some q) t b is = absurd cc
      by None (Some k) b is = absurd cc
      by None None true is = absurd cc
      by None None false is = ap (λ (q : Pid). q.serial) (sym (same_found is))

  set_finds_none : (p : Pid) (i : ℕ) (v : PlainValue) (q : Pid) → (alone S N (Set p i v)).answer ≡ Found q → ⊥
  set_finds_none p i v q is = by (object_of N p) is
    where
      by_store : (object : Object) (g : Option Pid) (t : Option KeyNo) (b : Bool)
          → (given g (given t (if b then answers TooLarge else record { changes = record { serial = p.serial; state = Some object } ∷ []; answer = Done }) (λ k. answers (Duplicate k))) (λ q. answers (Gone q))).answer ≡ Found q → ⊥
      by_store object (Some r) t b is = cc
      by_store object None (Some k) b is = cc
      by_store object None None true is = cc
      by_store object None None false is = cc

      by : (o : Option Object) → (given o (answers (Gone p)) (λ object. unless_gone N (references v) (stored S N p.serial (with_member object i v) Done))).answer ≡ Found q → ⊥
      by None is = cc
      by (Some object) is = by_store (with_member object i v) (first_gone N (references v)) (first_taken S N p.serial (with_member object i v)) (nat_lt 8000 (length (object_spelling S (with_member object i v)))) is

  destroy_finds_none : (p q : Pid) → (alone S N (Destroy p)).answer ≡ Found q → ⊥
  destroy_finds_none p q is = by (object_of N p) is
    where
      by : (o : Option Object) → (given o (answers (Gone p)) (λ object. record { changes = record { serial = p.serial; state = None } ∷ []; answer = Done })).answer ≡ Found q → ⊥
      by None is = cc
      by (Some object) is = cc

-- what is changed is among the changes
changed_has : (changes : Changes) (serial : ℕ) (state : Option Object) → contains_key (with_changes changes (record { serial = serial; state = state } ∷ [])) serial ≡ true
changed_has changes serial state = ap is_some (get-insert nat_cmp_total changes serial state serial ∙ ap (λ b. cond b (Some state) (get changes serial)) (tied_self serial))

-- ---- what a step answers

-- the operation is asked of this object
abbrev pub AskedOf : PlainOp → Pid → Type 0
AskedOf (Ask (Get p i)) pid = p ≡ pid
AskedOf (Ask (Follow p i)) pid = p ≡ pid
AskedOf (Set p i v) pid = p ≡ pid
AskedOf _ pid = ⊥

abbrev pub is_question : PlainOp → Bool
is_question (Ask q) = true
is_question _ = false

module _ (S : Schema) (M : Catalog) (owner : Owner) (copies : Copies) (asked : Asked) where
  -- what a copy tells
  from_copy : (a : PlainAnswer) → copied_answer M owner copies asked ≡ Some a → (values : List PlainValue) × (copied_values copies asked.entry ≡ Some values) × (told_by_copy (view M owner) values asked.op ≡ Some a)
  from_copy a e = by_level (is_basic owner.level) (copied_values copies asked.entry) refl e
    where
      by_level : (b : Bool) (o : Option (List PlainValue)) → copied_values copies asked.entry ≡ o → (if b then given o None (λ values. told_by_copy (view M owner) values asked.op) else None) ≡ Some a
          → (values : List PlainValue) × (copied_values copies asked.entry ≡ Some values) × (told_by_copy (view M owner) values asked.op ≡ Some a)
      by_level true None is e = absurd (none_some e)
      by_level true (Some values) is e = (values, is, e)
      by_level false o is e = absurd (none_some e)

  copy_finds : (values : List PlainValue) (op : PlainOp) (p : Pid) → told_by_copy (view M owner) values op ≡ Some (Found p) → There (view M owner) p
  copy_finds values (Ask (Follow q i)) p e = by (slice_get values i) e
    where
      by : (o : Option PlainValue) → given o None (λ v. Some (followed (view M owner) q v)) ≡ Some (Found p) → There (view M owner) p
      by None e = absurd cc
      by (Some v) e = followed_there S (view M owner) q v p (same_some e)
  copy_finds values (Ask (Get q i)) p e = by (slice_get values i) e
    where
      by : (o : Option PlainValue) → given o None (λ v. Some (Val v)) ≡ Some (Found p) → There (view M owner) p
      by None e = absurd cc
      by (Some v) e = absurd cc
  copy_finds values (Ask (FindKey h k bytes)) p e = absurd cc
  copy_finds values (Ask (FindPid q)) p e = absurd cc
  copy_finds values (Ask (FindShort h serial)) p e = absurd cc
  copy_finds values (Ask (Exists q)) p e = absurd cc
  copy_finds values (Ask (Count h)) p e = absurd cc
  copy_finds values (Ask (ListOf h)) p e = absurd cc
  copy_finds values (Create serial object) p e = absurd cc
  copy_finds values (Set q i v) p e = absurd cc
  copy_finds values (Destroy q) p e = absurd cc

  copy_asks : (values : List PlainValue) (op : PlainOp) (a : PlainAnswer) → told_by_copy (view M owner) values op ≡ Some a → is_question op ≡ true
  copy_asks values (Ask q) a e = refl
  copy_asks values (Create serial object) a e = absurd cc
  copy_asks values (Set q i v) a e = absurd cc
  copy_asks values (Destroy q) a e = absurd cc

  -- an object that was found, and that its owner has not changed, is committed
  pub found_seats : (p : Pid) → (step_of S M owner copies asked).answer ≡ Found p → has_changed (stepped (step_of S M owner copies asked) owner) p.serial ≡ false → There M p
  found_seats p is unchanged = by (copied_answer M owner copies asked) refl is unchanged
    where
      by_op : (op : PlainOp) → (alone S (view M owner) op).answer ≡ Found p → contains_key (with_changes owner.changes (alone S (view M owner) op).changes) p.serial ≡ false → There M p
      by_op (Ask q) is unchanged = there_unchanged M owner p unchanged (told_there S (view M owner) q p is)
      by_op (Create serial object) is unchanged =
          let changed : (state : Option Object) × ((alone S (view M owner) (Create serial object)).changes ≡ record { serial = serial; state = state } ∷ []) = create_changed S (view M owner) serial object (ap is_done is) in
          absurd (true_false (changed_has owner.changes serial changed.0) (sym (λ i. contains_key (with_changes owner.changes (changed.1 i)) (create_found S (view M owner) serial object p is i)) ∙ unchanged))
      by_op (Set q i v) is unchanged = absurd (set_finds_none S (view M owner) q i v p is)
      by_op (Destroy q) is unchanged = absurd (destroy_finds_none S (view M owner) q p is)

      by : (o : Option PlainAnswer) → copied_answer M owner copies asked ≡ o → (given o (step_on_view S M owner asked.op) (step_on_copy asked.op)).answer ≡ Found p
          → has_changed (stepped (given o (step_on_view S M owner asked.op) (step_on_copy asked.op)) owner) p.serial ≡ false → There M p
      by None e is unchanged = by_op asked.op is unchanged
      by (Some a) e is unchanged = (let copy = from_copy a e in there_unchanged M owner p unchanged (copy_finds copy.0 asked.op p (copy.2 ∙ ap Some is)))

  -- so is an object whose entry was named, but where the entry stands on a copy, of which only questions are asked
  pub named_seats : (m : ℕ) (e : Entry) → asked.entry ≡ Some m → entry_numbered copies m ≡ Some e → AskedOf asked.op e.pid → is_done (step_of S M owner copies asked).answer ≡ true
      → has_changed (stepped (step_of S M owner copies asked) owner) e.pid.serial ≡ false → (There M e.pid) ⊎ ((is_attached e ≡ true) × (is_question asked.op ≡ true))
  named_seats m e named at of does unchanged = by (copied_answer M owner copies asked) refl does unchanged
    where
      by_op : (op : PlainOp) → AskedOf op e.pid → is_done (alone S (view M owner) op).answer ≡ true → contains_key (with_changes owner.changes (alone S (view M owner) op).changes) e.pid.serial ≡ false → There M e.pid
      by_op (Ask (Get p i)) of does unchanged = there_unchanged M owner e.pid unchanged (subst (There (view M owner)) of (member_there S (view M owner) p i Val does))
      by_op (Ask (Follow p i)) of does unchanged = there_unchanged M owner e.pid unchanged (subst (There (view M owner)) of (member_there S (view M owner) p i (followed (view M owner) p) does))
      by_op (Set p i v) of does unchanged =
          let changed : (state : Option Object) × ((alone S (view M owner) (Set p i v)).changes ≡ record { serial = p.serial; state = state } ∷ []) = set_changed S (view M owner) p i v does in
          absurd (true_false (changed_has owner.changes p.serial changed.0) (sym (λ j. contains_key (with_changes owner.changes (changed.1 j)) (sym of j).serial) ∙ unchanged))
      by_op (Ask (FindKey h k bytes)) of does unchanged = absurd of
      by_op (Ask (FindPid p)) of does unchanged = absurd of
      by_op (Ask (FindShort h serial)) of does unchanged = absurd of
      by_op (Ask (Exists p)) of does unchanged = absurd of
      by_op (Ask (Count h)) of does unchanged = absurd of
      by_op (Ask (ListOf h)) of does unchanged = absurd of
      by_op (Create serial object) of does unchanged = absurd of
      by_op (Destroy p) of does unchanged = absurd of

      stands : (values : List PlainValue) → copied_values copies (Some m) ≡ Some values → is_attached e ≡ true
      stands values is = by_stand e.stand refl (sym (ap (λ o. given o None (λ (x : Entry). copied_values (record { last = 0; entries = record { number = 0; pid = x.pid; count = 1; stand = x.stand } ∷ [] }) (Some 0))) at) ∙ is)
        where
          by_stand : (stand : Stand) → e.stand ≡ stand → copied_values (record { last = 0; entries = record { number = 0; pid = e.pid; count = 1; stand = e.stand } ∷ [] }) (Some 0) ≡ Some values → is_attached e ≡ true
          by_stand Loose is copied = absurd (none_some (ap (λ stand. copied_values (record { last = 0; entries = record { number = 0; pid = e.pid; count = 1; stand = stand } ∷ [] }) (Some 0)) (sym is) ∙ copied))
          by_stand Shared is copied = absurd (none_some (ap (λ stand. copied_values (record { last = 0; entries = record { number = 0; pid = e.pid; count = 1; stand = stand } ∷ [] }) (Some 0)) (sym is) ∙ copied))
          by_stand (Copied vs) is copied = ap (λ stand. is_attached (record { number = e.number; pid = e.pid; count = e.count; stand = stand })) is

      by : (o : Option PlainAnswer) → copied_answer M owner copies asked ≡ o → is_done (given o (step_on_view S M owner asked.op) (step_on_copy asked.op)).answer ≡ true
          → has_changed (stepped (given o (step_on_view S M owner asked.op) (step_on_copy asked.op)) owner) e.pid.serial ≡ false → (There M e.pid) ⊎ ((is_attached e ≡ true) × (is_question asked.op ≡ true))
      by None is does unchanged = inl (by_op asked.op of does unchanged)
      by (Some a) is does unchanged = (let copy = from_copy a is in inr (stands copy.0 (ap (copied_values copies) (sym named) ∙ copy.1), copy_asks copy.0 asked.op a copy.2))
