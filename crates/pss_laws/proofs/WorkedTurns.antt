-- Each turn of the run that is worked out.
use Rattle.std.proofs.Common.{◌≡◌, ℕ, List, [], ◌∷◌, ◌++◌, Some, None, Option, false, true, Bool, map, refl, ap, ◌∙◌, arith}
use Rattle.std.specs.Prelude.{codes, nat_le, nat_lt, Ok, unwrap_or}
use Rattle.std.specs.Ordering.{nat_cmp}
use Rattle.std.specs.Cmp.{nat_cmp_total}
use Rattle.std.specs.FinMap.{empty, insert, get, len, get-empty, get-insert, len-empty}
use Rattle.pss_base.specs.declared.session.SessionNo.{SessionNo}
use Rattle.type_layout.specs.Schemas.{given}
use Rattle.pss_catalog.specs.Catalog.{Object, Catalog, total}
use Rattle.pss_catalog.specs.Changes.{Change, over}
use Rattle.pss_machine.specs.declared.command.Command.{Command}
use Rattle.pss_machine.specs.Limits.{standard}
use Rattle.pss_machine.specs.declared.level.Level.TheVariants.{Serializable, Basic}
use Rattle.pss_machine.specs.declared.session.Access.TheVariants.{ReadWrite}
use Rattle.pss_machine.specs.declared.session.Association.TheVariants.{NoTransaction, Active, Ending}
use Rattle.pss_machine.specs.declared.session.View.{View}
use Rattle.pss_machine.specs.declared.session.View.TheVariants.{Own}
use Rattle.pss_machine.specs.Operations.{Count, Ask, Number}
use Rattle.pss_machine.specs.Maps.{each, with_at}
use Rattle.pss_machine.specs.Owners.{Owner, Owners, net, blocker, Step, stepped, new_owner}
use Rattle.pss_machine.specs.Sessions.{Session, Sessions, session_named, first_open, with_association, without_transaction}
use Rattle.pss_machine.specs.Copies.{Loose, Shared, Copies, AllCopies, no_copies, Body, body_in, detached_from, detached, stand_in}
use Rattle.pss_machine.specs.Kept.{Kept, Title, name_of, is_in_use, transaction_named, transaction_count, copies_of, Actor, actor_in}
use Rattle.pss_machine.specs.Asking.{Asked, obtaining, only, asking_of_home, ◌>>=◌}
use Rattle.pss_machine.specs.Asking as asking
use Rattle.pss_machine.specs.Effects.{Effect, OpensBasic, OpensTransactional, Begins, Associates, Ends, Steps, Commits, Flushes}
use Rattle.pss_machine.specs.Stepping.{within, step_of}
use Rattle.pss_machine.specs.Deciding.{is_over_full, is_marked, decision}
use Rattle.pss_machine.specs.Moving.{one_more, marked, unspent, is_in, is_outdated, is_session, is_settled, seated, seen_in, owners_after, copies_after, with_commit, title_of, settled, emptied, without_transaction_of, moved}
use Rattle.pss_machine.specs.Beside.{answered_in, steps_of, member_of, with_member, traced, grown}
use Rattle.pss_machine.specs.Run.{Machine, Says, first, after, turn}
use Rattle.pss_laws.specs.Worked.{marks, mark, opens_a, opens_b, begins_t, starts_t, creates_b, ends_b, commits_t, creates_a, flushes_a, begins_u, starts_u, counts_b, commits_u, creating, counting, found, came, history, trace}
use Rattle.pss_laws.proofs.Written.{written, empty_written, entries_written, entries_empty, get_written, len_written, insert_written, one_entry, with_at_written, remove_only, remove_second, each_two}
use Rattle.pss_laws.proofs.Decided.{opened, begun, started, ended, created, counted, committed, flushed, nothing_held}
use Rattle.pss_laws.proofs.Turns.{settled_there}
use Rattle.pss_laws.proofs.History.{with_step_there, with_settled_there}
use Rattle.pss_laws.proofs.WorkedStates.{owner_no, session_no, pid, kept, lists, session_a, session_b, sessions, title, copies, copy_of, made, told, maker, counter, one_mark, two_marks, member_t, member_a, traced_t, traced_a, after_t, after_a, after_u, q0, q1, q2, q3, q4, q5, q6, q7, q8, q9, q10, q11, q12, q13, q14}

pub first_is : first empty 1 ≡ q0
unfolding q0
first_is i = record {
  kept = kept (empty_written {A = Object} i) 1 (empty_written {A = Owner} i) (empty_written {A = Title} i) 1 (empty_written {A = Session} i) (empty_written {A = Copies} i) 1 0 [];
  lists = lists (empty_written {A = List Step} i) [] [];
}

-- what a command comes to is what its effect makes
goes : (q p : Machine) (c : Command) (effect : Effect) → (decision marks standard q.kept c).effect ≡ effect → after q effect ≡ p → turn marks standard q (Says c) ≡ p
goes q p c effect decided moved = ap (after q) decided ∙ moved

-- ---- entries that are left

either_way : {A B : Type 0} (o : Option A) (c : B) → given o c (λ x. c) ≡ c
either_way None c = refl
either_way (Some x) c = refl

module _ (owners : Owners) (all : Sessions) (test : SessionNo → Session → Body → Bool) where
  abbrev leaving : ℕ → Copies → Copies
  leaving s c = given (get all s) c (λ session. detached_from (body_in owners (record { 0 = s }) session) (test (record { 0 = s }) session) c)

  leaving_two : (a b x y : Copies) → leaving 1 a ≡ x → leaving 2 b ≡ y → detached owners all test (copies a b) ≡ copies x y
  leaving_two a b x y p q = each_two leaving a b ∙ (λ i. written ((1, p i) ∷ (2, q i) ∷ []))

-- ---- `open a basic rw`

unused_1 : is_in_use q0.kept (codes "a") ≡ false
unfolding q0
unused_1 = rw (entries_written {A = Session} [] tt, entries_written {A = Title} [] tt) refl

few_1 : nat_le standard.sessions (len q0.kept.sessions) ≡ false
unfolding q0
few_1 = ap (nat_le 64) (len_written {A = Session} [] tt)

effect_1 : (decision marks standard q0.kept opens_a).effect ≡ OpensBasic (codes "a") ReadWrite
unfolding opens_a
effect_1 = opened marks standard q0.kept (codes "a") false true unused_1 few_1

moved_1 : after q0 (OpensBasic (codes "a") ReadWrite) ≡ q1
unfolding q0 q1
moved_1 i = record {
  kept = kept (written []) 1 (insert_written {A = Owner} [] tt 1 (new_owner Basic) tt i) (insert_written {A = Title} [] tt 1 (title (codes "a") 0) tt i) 2 (insert_written {A = Session} [] tt 1 session_a tt i) (insert_written {A = Copies} [] tt 1 no_copies tt i) 2 0 [];
  lists = lists (written []) [] [];
}

pub turn_1 : turn marks standard q0 (Says opens_a) ≡ q1
turn_1 = goes q0 q1 opens_a (OpensBasic (codes "a") ReadWrite) effect_1 moved_1

-- ---- `open b tx rw`

unused_2 : is_in_use q1.kept (codes "b") ≡ false
unfolding q1
unused_2 = rw (entries_written {A = Session} ((1, session_a) ∷ []) tt, entries_written {A = Title} ((1, title (codes "a") 0) ∷ []) tt) refl

few_2 : nat_le standard.sessions (len q1.kept.sessions) ≡ false
unfolding q1
few_2 = ap (nat_le 64) (len_written {A = Session} ((1, session_a) ∷ []) tt)

effect_2 : (decision marks standard q1.kept opens_b).effect ≡ OpensTransactional (codes "b") ReadWrite
unfolding opens_b
effect_2 = opened marks standard q1.kept (codes "b") true true unused_2 few_2

moved_2 : after q1 (OpensTransactional (codes "b") ReadWrite) ≡ q2
unfolding q1 q2
moved_2 i = record {
  kept = kept (written []) 1 (written ((1, new_owner Basic) ∷ [])) (written ((1, title (codes "a") 0) ∷ [])) 2 (insert_written {A = Session} ((1, session_a) ∷ []) tt 2 (session_b NoTransaction) tt i) (insert_written {A = Copies} ((1, no_copies) ∷ []) tt 2 no_copies tt i) 3 0 [];
  lists = lists (written []) [] [];
}

pub turn_2 : turn marks standard q1 (Says opens_b) ≡ q2
turn_2 = goes q1 q2 opens_b (OpensTransactional (codes "b") ReadWrite) effect_2 moved_2

-- ---- `begin t SERIALIZABLE`

unused_3 : is_in_use q2.kept (codes "t") ≡ false
unfolding q2
unused_3 = rw (entries_written {A = Session} ((1, session_a) ∷ (2, session_b NoTransaction) ∷ []) tt, entries_written {A = Title} ((1, title (codes "a") 0) ∷ []) tt) refl

few_3 : nat_le standard.transactions (transaction_count q2.kept) ≡ false
unfolding q2
few_3 = rw (entries_written {A = Owner} ((1, new_owner Basic) ∷ []) tt) refl

effect_3 : (decision marks standard q2.kept begins_t).effect ≡ Begins (codes "t") Serializable
unfolding begins_t
effect_3 = begun marks standard q2.kept (codes "t") true unused_3 few_3

moved_3 : after q2 (Begins (codes "t") Serializable) ≡ q3
unfolding q2 q3
moved_3 i = record {
  kept = kept (written []) 1 (insert_written {A = Owner} ((1, new_owner Basic) ∷ []) tt 2 (new_owner Serializable) tt i) (insert_written {A = Title} ((1, title (codes "a") 0) ∷ []) tt 2 (title (codes "t") 0) tt i) 3 (sessions NoTransaction) (copies no_copies no_copies) 3 0 [];
  lists = lists (written []) [] [];
}

pub turn_3 : turn marks standard q2 (Says begins_t) ≡ q3
turn_3 = goes q2 q3 begins_t (Begins (codes "t") Serializable) effect_3 moved_3

-- ---- `start b t`

named_4 : session_named q3.kept.sessions (codes "b") ≡ Some (2, session_b NoTransaction)
unfolding q3
named_4 = rw (entries_written {A = Session} ((1, session_a) ∷ (2, session_b NoTransaction) ∷ []) tt) refl

begun_4 : transaction_named q3.kept (codes "t") ≡ Some (owner_no 2)
unfolding q3
begun_4 = rw (entries_written {A = Title} ((1, title (codes "a") 0) ∷ (2, title (codes "t") 0) ∷ []) tt, get_written {A = Owner} ((1, new_owner Basic) ∷ (2, new_owner Serializable) ∷ []) tt 2) refl

effect_4 : (decision marks standard q3.kept starts_t).effect ≡ Associates (session_no 2) (Active (owner_no 2))
unfolding starts_t
effect_4 = started marks standard q3.kept (codes "b") (codes "t") (codes "b") 2 ReadWrite (owner_no 2) named_4 begun_4

moved_4 : after q3 (Associates (session_no 2) (Active (owner_no 2))) ≡ q4
unfolding q3 q4
moved_4 i = record {
  kept = kept (written []) 1 (written ((1, new_owner Basic) ∷ (2, new_owner Serializable) ∷ [])) (written ((1, title (codes "a") 0) ∷ (2, title (codes "t") 0) ∷ [])) 3
      (with_at_written {A = Session} ((1, session_a) ∷ (2, session_b NoTransaction) ∷ []) tt 2 (with_association (Active (owner_no 2))) (session_b NoTransaction) refl tt i) (copies no_copies no_copies) 3 0 [];
  lists = lists (written []) [] [];
}

pub turn_4 : turn marks standard q3 (Says starts_t) ≡ q4
turn_4 = goes q3 q4 starts_t (Associates (session_no 2) (Active (owner_no 2))) effect_4 moved_4

-- ---- `create b H`

abbrev owners_4 : List (ℕ × Owner)
owners_4 = (1, new_owner Basic) ∷ (2, new_owner Serializable) ∷ []

abbrev owners_5 : List (ℕ × Owner)
owners_5 = (1, new_owner Basic) ∷ (2, maker (new_owner Serializable) 1) ∷ []

abbrev active_t : List (ℕ × Session)
active_t = (1, session_a) ∷ (2, session_b (Active (owner_no 2))) ∷ []

abbrev actor_t : Actor
actor_t = record { number = owner_no 2; owner = new_owner Serializable }

named_5 : session_named q4.kept.sessions (codes "b") ≡ Some (2, session_b (Active (owner_no 2)))
unfolding q4
named_5 = rw (entries_written {A = Session} active_t tt) refl

acts_5 : actor_in q4.kept.owners (session_b (Active (owner_no 2))) ≡ Some actor_t
unfolding q4
acts_5 = rw (get_written {A = Owner} owners_4 tt 2) refl

limited_5 : (asking.creating marks q4.kept.next (session_b (Active (owner_no 2))) (codes "H") (record { column = 11; text = [] }) >>= within standard q4.kept.next (new_owner Serializable) (copies_of q4.kept (session_no 2))) ≡ Ok (obtaining (creating 1))
unfolding q4 marks
limited_5 = rw (get-empty {X = Option Object} nat_cmp 1, len-empty nat_cmp (Option Object), get_written {A = Copies} ((1, no_copies) ∷ (2, no_copies) ∷ []) tt 2) refl

taken_5 : step_of marks q4.kept.catalog (new_owner Serializable) (copies_of q4.kept (session_no 2)) (obtaining (creating 1)) ≡ made 1
unfolding marks
taken_5 = refl

free_5 : blocker q4.kept.owners (owner_no 2) (made 1).needs ≡ None
unfolding q4
free_5 = rw (entries_written {A = Owner} owners_4 tt, nothing_held) refl

effect_5 : (decision marks standard q4.kept creates_b).effect ≡ Steps (owner_no 2) (session_no 2) (made 1) (obtaining (creating 1))
unfolding creates_b
effect_5 =
    created marks standard q4.kept (codes "b") (codes "H") (record { column = 11; text = [] }) 2 (session_b (Active (owner_no 2))) actor_t (obtaining (creating 1)) (made 1) named_5
    (record { acts = acts_5; limited = limited_5; taken = taken_5; free = free_5 })

owners_after_5 : owners_after q4.kept (owner_no 2) (made 1) ≡ written owners_5
unfolding q4
owners_after_5 = with_at_written {A = Owner} owners_4 tt 2 (stepped (made 1)) (new_owner Serializable) refl tt

seen_5 : seen_in (written owners_5) q4.kept.sessions (session_no 2) (pid 1) ≡ Own (owner_no 2)
unfolding q4
seen_5 = rw (get_written {A = Session} active_t tt 2, get_written {A = Owner} owners_5 tt 2, get-insert {X = Option Object} nat_cmp_total empty 1 (Some mark) 1) refl

seated_5 : seated q4.kept.catalog (seen_in (owners_after q4.kept (owner_no 2) (made 1)) q4.kept.sessions (session_no 2)) (obtaining (creating 1)) (found 1) no_copies ≡ copy_of 1 Shared
seated_5 = ap (λ (owners : Owners). seated q4.kept.catalog (seen_in owners q4.kept.sessions (session_no 2)) (obtaining (creating 1)) (found 1) no_copies) owners_after_5 ∙ ap (λ (v : View). copy_of 1 (stand_in q4.kept.catalog (pid 1) v)) seen_5

left_5 : detached q4.kept.owners q4.kept.sessions (is_outdated (owner_no 2) (made 1)) (copies no_copies no_copies) ≡ copies no_copies no_copies
left_5 =
    leaving_two q4.kept.owners q4.kept.sessions (is_outdated (owner_no 2) (made 1)) no_copies no_copies no_copies no_copies
    (either_way (get q4.kept.sessions 1) no_copies) (either_way (get q4.kept.sessions 2) no_copies)

-- an owner's first object is obtained by the second session
second_obtains : (all : AllCopies) (a b c : Copies) (f : Copies → Copies) → all ≡ copies a b → f b ≡ c → with_at all 2 f ≡ copies a c
second_obtains all a b c f is gives =
    ap (λ (m : AllCopies). with_at m 2 f) is ∙ with_at_written {A = Copies} ((1, a) ∷ (2, b) ∷ []) tt 2 f b refl tt ∙ ap (λ (d : Copies). copies a d) gives

first_obtains : (all : AllCopies) (a b c : Copies) (f : Copies → Copies) → all ≡ copies a b → f a ≡ c → with_at all 1 f ≡ copies c b
first_obtains all a b c f is gives =
    ap (λ (m : AllCopies). with_at m 1 f) is ∙ with_at_written {A = Copies} ((1, a) ∷ (2, b) ∷ []) tt 1 f a refl tt ∙ ap (λ (d : Copies). copies d b) gives

copies_5 : copies_after q4.kept (owner_no 2) (session_no 2) (made 1) (obtaining (creating 1)) ≡ copies no_copies (copy_of 1 Shared)
unfolding q4
copies_5 =
    second_obtains (detached q4.kept.owners q4.kept.sessions (is_outdated (owner_no 2) (made 1)) q4.kept.copies) no_copies no_copies (copy_of 1 Shared)
    (seated q4.kept.catalog (seen_in (owners_after q4.kept (owner_no 2) (made 1)) q4.kept.sessions (session_no 2)) (obtaining (creating 1)) (found 1)) left_5 seated_5

titles_5 : with_at q4.kept.titles 2 one_more ≡ q5.kept.titles
unfolding q4 q5
titles_5 = with_at_written {A = Title} ((1, title (codes "a") 0) ∷ (2, title (codes "t") 0) ∷ []) tt 2 one_more (title (codes "t") 0) refl tt

kept_5 : moved q4.kept (Steps (owner_no 2) (session_no 2) (made 1) (obtaining (creating 1))) ≡ q5.kept
unfolding q4 q5
kept_5 i = kept (written []) 2 (owners_after_5 i) (titles_5 i) 3 (sessions (Active (owner_no 2))) (copies_5 i) 3 0 []

before_5 : traced q4.lists (owner_no 2) (new_owner Serializable) (made 1) ≡ traced_t
unfolding q4
before_5 = rw (entries_empty {A = Option Object}) refl

steps_5 : insert q4.lists.steps 2 (steps_of q4.lists 2 ++ made 1 ∷ []) ≡ written ((2, made 1 ∷ []) ∷ [])
unfolding q4
steps_5 = ap (λ (o : Option (List Step)). insert (written []) 2 (unwrap_or o [] ++ made 1 ∷ [])) (get_written {A = List Step} [] tt 2) ∙ insert_written {A = List Step} [] tt 2 (made 1 ∷ []) tt

there_5 : get q4.kept.owners 2 ≡ Some (new_owner Serializable)
unfolding q4
there_5 = get_written {A = Owner} owners_4 tt 2

lists_5 : grown q4.kept q4.lists (Steps (owner_no 2) (session_no 2) (made 1) (obtaining (creating 1))) ≡ q5.lists
unfolding q4 q5
lists_5 = with_step_there q4.kept q4.lists (owner_no 2) (made 1) (new_owner Serializable) there_5 ∙ (λ i. lists (steps_5 i) [] (before_5 i ∷ []))

pub turn_5 : turn marks standard q4 (Says creates_b) ≡ q5
turn_5 = goes q4 q5 creates_b (Steps (owner_no 2) (session_no 2) (made 1) (obtaining (creating 1))) effect_5 (λ i. record { kept = kept_5 i; lists = lists_5 i })

-- ---- `end b ok`

named_6 : session_named q5.kept.sessions (codes "b") ≡ Some (2, session_b (Active (owner_no 2)))
unfolding q5
named_6 = rw (entries_written {A = Session} active_t tt) refl

effect_6 : (decision marks standard q5.kept ends_b).effect ≡ Ends (session_no 2) (owner_no 2) false
unfolding ends_b
effect_6 = ended marks standard q5.kept (codes "b") (codes "b") 2 ReadWrite (owner_no 2) named_6

loose_6 : leaving q5.kept.owners q5.kept.sessions (λ t session body. is_session (session_no 2) t) 2 (copy_of 1 Shared) ≡ copy_of 1 Loose
unfolding q5
loose_6 = ap (λ (o : Option Session). given o (copy_of 1 Shared) (λ session. copy_of 1 Loose)) (get_written {A = Session} active_t tt 2)

copies_6 : detached q5.kept.owners q5.kept.sessions (λ t session body. is_session (session_no 2) t) (copies no_copies (copy_of 1 Shared)) ≡ copies no_copies (copy_of 1 Loose)
copies_6 =
    leaving_two q5.kept.owners q5.kept.sessions (λ t session body. is_session (session_no 2) t) no_copies (copy_of 1 Shared) no_copies (copy_of 1 Loose)
    (either_way (get q5.kept.sessions 1) no_copies) loose_6

moved_6 : after q5 (Ends (session_no 2) (owner_no 2) false) ≡ q6
unfolding q5 q6
moved_6 i = record {
  kept = kept (written []) 2 (written owners_5)
      (with_at_written {A = Title} ((1, title (codes "a") 0) ∷ (2, title (codes "t") 1) ∷ []) tt 2 (marked false) (title (codes "t") 1) refl tt i) 3
      (with_at_written {A = Session} active_t tt 2 (with_association (Ending (owner_no 2))) (session_b (Active (owner_no 2))) refl tt i) (copies_6 i) 3 0 [];
  lists = lists (written ((2, made 1 ∷ []) ∷ [])) [] (traced_t ∷ []);
}

pub turn_6 : turn marks standard q5 (Says ends_b) ≡ q6
turn_6 = goes q5 q6 ends_b (Ends (session_no 2) (owner_no 2) false) effect_6 moved_6

-- ---- `commit t`

abbrev owner_t : Owner
owner_t = maker (new_owner Serializable) 1

abbrev titles_6 : List (ℕ × Title)
titles_6 = (1, title (codes "a") 0) ∷ (2, title (codes "t") 1) ∷ []

abbrev ending_t : List (ℕ × Session)
ending_t = (1, session_a) ∷ (2, session_b (Ending (owner_no 2))) ∷ []

named_7 : transaction_named q6.kept (codes "t") ≡ Some (owner_no 2)
unfolding q6
named_7 = rw (entries_written {A = Title} titles_6 tt, get_written {A = Owner} owners_5 tt 2) refl

closed_7 : first_open q6.kept.sessions (owner_no 2) ≡ None
unfolding q6
closed_7 = rw (entries_written {A = Session} ending_t tt) refl

unmarked_7 : is_marked q6.kept (owner_no 2) ≡ false
unfolding q6
unmarked_7 = rw (get_written {A = Title} titles_6 tt 2) refl

there_7 : get q6.kept.owners 2 ≡ Some owner_t
unfolding q6
there_7 = get_written {A = Owner} owners_5 tt 2

net_7 : net q6.kept.catalog owner_t ≡ came 1 ∷ []
unfolding q6
net_7 = rw (one_entry {A = Option Object} 1 (Some mark), get_written {A = Object} [] tt 1) refl

one_is : over (written []) (came 1 ∷ []) ≡ one_mark
one_is = insert_written {A = Object} [] tt 1 mark tt

fits_7 : nat_lt standard.total (total marks (over q6.kept.catalog (came 1 ∷ []))) ≡ false
unfolding q6 marks
fits_7 = ap (λ (N : Catalog). nat_lt standard.total (total marks N)) one_is ∙ rw (entries_written {A = Object} ((1, mark) ∷ []) tt) refl

room_7 : is_over_full marks standard q6.kept.catalog owner_t ≡ false
room_7 = ap (λ (cs : List Change). nat_lt standard.total (total marks (over q6.kept.catalog cs))) net_7 ∙ fits_7

effect_7 : (decision marks standard q6.kept commits_t).effect ≡ Commits (owner_no 2)
unfolding commits_t
effect_7 = committed marks standard q6.kept (codes "t") (owner_no 2) owner_t named_7 closed_7 unmarked_7 there_7 room_7

title_7 : title_of q6.kept (owner_no 2) ≡ title (codes "t") 1
unfolding q6
title_7 = rw (get_written {A = Title} titles_6 tt 2) refl

settled_7 : settled q6.kept (owner_no 2) ≡ with_commit q6.kept (owner_no 2) (title (codes "t") 1) Serializable (came 1 ∷ [])
settled_7 =
    settled_there q6.kept (owner_no 2) owner_t there_7
    ∙ (λ i. with_commit q6.kept (owner_no 2) (title_7 i) Serializable (net_7 i))

copies_7 : detached q6.kept.owners q6.kept.sessions (λ s session body. is_in (owner_no 2) session) (detached q6.kept.owners q6.kept.sessions (is_settled (owner_no 2) (came 1 ∷ [])) (copies no_copies (copy_of 1 Loose))) ≡ copies no_copies (copy_of 1 Loose)
copies_7 =
    ap (detached q6.kept.owners q6.kept.sessions (λ s session body. is_in (owner_no 2) session))
    (leaving_two q6.kept.owners q6.kept.sessions (is_settled (owner_no 2) (came 1 ∷ [])) no_copies (copy_of 1 Loose) no_copies (copy_of 1 Loose)
    (either_way (get q6.kept.sessions 1) no_copies) (either_way (get q6.kept.sessions 2) (copy_of 1 Loose)))
    ∙ leaving_two q6.kept.owners q6.kept.sessions (λ s session body. is_in (owner_no 2) session) no_copies (copy_of 1 Loose) no_copies (copy_of 1 Loose)
    (either_way (get q6.kept.sessions 1) no_copies) (either_way (get q6.kept.sessions 2) (copy_of 1 Loose))

free_7 : each (λ s session. without_transaction (owner_no 2) session) (sessions (Ending (owner_no 2))) ≡ sessions NoTransaction
free_7 = each_two (λ s session. without_transaction (owner_no 2) session) session_a (session_b (Ending (owner_no 2)))

gone_7 : without_transaction_of (with_commit q6.kept (owner_no 2) (title (codes "t") 1) Serializable (came 1 ∷ [])) (owner_no 2) ≡ q7.kept
unfolding q6 q7
gone_7 i = kept (one_is i) 2 (remove_second {A = Owner} 1 2 (new_owner Basic) owner_t (λ e. absurd (omega (arith, e))) tt i) (remove_second {A = Title} 1 2 (title (codes "a") 0) (title (codes "t") 1) (λ e. absurd (omega (arith, e))) tt i) 3 (free_7 i) (copies_7 i) 3 1 after_t

kept_7 : moved q6.kept (Commits (owner_no 2)) ≡ q7.kept
kept_7 = ap (λ (k : Kept). without_transaction_of k (owner_no 2)) settled_7 ∙ gone_7

member_7 : member_of q6.kept q6.lists (owner_no 2) owner_t ≡ member_t
unfolding q6
member_7 = ap (λ (cs : List Change). record { name = name_of q6.kept (owner_no 2); level = Serializable; done = map answered_in (steps_of q6.lists 2); changes = cs }) net_7 ∙ rw (get_written {A = Title} titles_6 tt 2, get_written {A = List Step} ((2, made 1 ∷ []) ∷ []) tt 2) refl

lists_7 : grown q6.kept q6.lists (Commits (owner_no 2)) ≡ q7.lists
unfolding q6 q7
lists_7 =
    with_settled_there q6.kept q6.lists (owner_no 2) owner_t there_7
    ∙ (λ i. lists (remove_only {A = List Step} 2 (made 1 ∷ []) i) (with_member [] (member_7 i)) (traced_t ∷ []))

pub turn_7 : turn marks standard q6 (Says commits_t) ≡ q7
turn_7 = goes q6 q7 commits_t (Commits (owner_no 2)) effect_7 (λ i. record { kept = kept_7 i; lists = lists_7 i })

-- ---- `create a H`

abbrev free_b : List (ℕ × Session)
free_b = (1, session_a) ∷ (2, session_b NoTransaction) ∷ []

abbrev owner_a : Owner
owner_a = maker (new_owner Basic) 2

abbrev actor_a : Actor
actor_a = record { number = owner_no 1; owner = new_owner Basic }

named_8 : session_named q7.kept.sessions (codes "a") ≡ Some (1, session_a)
unfolding q7
named_8 = rw (entries_written {A = Session} free_b tt) refl

there_8 : get q7.kept.owners 1 ≡ Some (new_owner Basic)
unfolding q7
there_8 = get_written {A = Owner} ((1, new_owner Basic) ∷ []) tt 1

acts_8 : actor_in q7.kept.owners session_a ≡ Some actor_a
acts_8 = rw there_8 refl

limited_8 : (asking.creating marks q7.kept.next session_a (codes "H") (record { column = 11; text = [] }) >>= within standard q7.kept.next (new_owner Basic) (copies_of q7.kept (session_no 1))) ≡ Ok (obtaining (creating 2))
unfolding q7 marks
limited_8 = rw (get-empty {X = Option Object} nat_cmp 2, len-empty nat_cmp (Option Object), get_written {A = Copies} ((1, no_copies) ∷ (2, copy_of 1 Loose) ∷ []) tt 1) refl

taken_8 : step_of marks q7.kept.catalog (new_owner Basic) (copies_of q7.kept (session_no 1)) (obtaining (creating 2)) ≡ made 2
unfolding marks
taken_8 = refl

free_8 : blocker q7.kept.owners (owner_no 1) (made 2).needs ≡ None
unfolding q7
free_8 = rw (entries_written {A = Owner} ((1, new_owner Basic) ∷ []) tt) refl

effect_8 : (decision marks standard q7.kept creates_a).effect ≡ Steps (owner_no 1) (session_no 1) (made 2) (obtaining (creating 2))
unfolding creates_a
effect_8 =
    created marks standard q7.kept (codes "a") (codes "H") (record { column = 11; text = [] }) 1 session_a actor_a (obtaining (creating 2)) (made 2) named_8
    (record { acts = acts_8; limited = limited_8; taken = taken_8; free = free_8 })

owners_after_8 : owners_after q7.kept (owner_no 1) (made 2) ≡ written ((1, owner_a) ∷ [])
unfolding q7
owners_after_8 = with_at_written {A = Owner} ((1, new_owner Basic) ∷ []) tt 1 (stepped (made 2)) (new_owner Basic) refl tt

seen_8 : seen_in (written ((1, owner_a) ∷ [])) q7.kept.sessions (session_no 1) (pid 2) ≡ Own (owner_no 1)
unfolding q7
seen_8 = rw (get_written {A = Session} free_b tt 1, get_written {A = Owner} ((1, owner_a) ∷ []) tt 1, get-insert {X = Option Object} nat_cmp_total empty 2 (Some mark) 2) refl

seated_8 : seated q7.kept.catalog (seen_in (owners_after q7.kept (owner_no 1) (made 2)) q7.kept.sessions (session_no 1)) (obtaining (creating 2)) (found 2) no_copies ≡ copy_of 2 Shared
seated_8 = ap (λ (owners : Owners). seated q7.kept.catalog (seen_in owners q7.kept.sessions (session_no 1)) (obtaining (creating 2)) (found 2) no_copies) owners_after_8 ∙ ap (λ (v : View). copy_of 2 (stand_in q7.kept.catalog (pid 2) v)) seen_8

left_8 : detached q7.kept.owners q7.kept.sessions (is_outdated (owner_no 1) (made 2)) (copies no_copies (copy_of 1 Loose)) ≡ copies no_copies (copy_of 1 Loose)
left_8 =
    leaving_two q7.kept.owners q7.kept.sessions (is_outdated (owner_no 1) (made 2)) no_copies (copy_of 1 Loose) no_copies (copy_of 1 Loose)
    (either_way (get q7.kept.sessions 1) no_copies) (either_way (get q7.kept.sessions 2) (copy_of 1 Loose))

copies_8 : copies_after q7.kept (owner_no 1) (session_no 1) (made 2) (obtaining (creating 2)) ≡ copies (copy_of 2 Shared) (copy_of 1 Loose)
unfolding q7
copies_8 =
    first_obtains (detached q7.kept.owners q7.kept.sessions (is_outdated (owner_no 1) (made 2)) q7.kept.copies) no_copies (copy_of 1 Loose) (copy_of 2 Shared)
    (seated q7.kept.catalog (seen_in (owners_after q7.kept (owner_no 1) (made 2)) q7.kept.sessions (session_no 1)) (obtaining (creating 2)) (found 2)) left_8 seated_8

kept_8 : moved q7.kept (Steps (owner_no 1) (session_no 1) (made 2) (obtaining (creating 2))) ≡ q8.kept
unfolding q7 q8
kept_8 i =
    kept one_mark 3 (owners_after_8 i) (with_at_written {A = Title} ((1, title (codes "a") 0) ∷ []) tt 1 one_more (title (codes "a") 0) refl tt i) 3 (sessions NoTransaction) (copies_8 i) 3 1 after_t

before_8 : traced q7.lists (owner_no 1) (new_owner Basic) (made 2) ≡ traced_a
unfolding q7
before_8 = rw (entries_empty {A = Option Object}) refl

steps_8 : insert q7.lists.steps 1 (steps_of q7.lists 1 ++ made 2 ∷ []) ≡ written ((1, made 2 ∷ []) ∷ [])
unfolding q7
steps_8 = ap (λ (o : Option (List Step)). insert (written []) 1 (unwrap_or o [] ++ made 2 ∷ [])) (get_written {A = List Step} [] tt 1) ∙ insert_written {A = List Step} [] tt 1 (made 2 ∷ []) tt

lists_8 : grown q7.kept q7.lists (Steps (owner_no 1) (session_no 1) (made 2) (obtaining (creating 2))) ≡ q8.lists
unfolding q7 q8
lists_8 = with_step_there q7.kept q7.lists (owner_no 1) (made 2) (new_owner Basic) there_8 ∙ (λ i. lists (steps_8 i) (member_t ∷ []) (traced_t ∷ before_8 i ∷ []))

pub turn_8 : turn marks standard q7 (Says creates_a) ≡ q8
turn_8 = goes q7 q8 creates_a (Steps (owner_no 1) (session_no 1) (made 2) (obtaining (creating 2))) effect_8 (λ i. record { kept = kept_8 i; lists = lists_8 i })

-- ---- `flush a`

named_9 : session_named q8.kept.sessions (codes "a") ≡ Some (1, session_a)
unfolding q8
named_9 = rw (entries_written {A = Session} free_b tt) refl

there_9 : get q8.kept.owners 1 ≡ Some owner_a
unfolding q8
there_9 = get_written {A = Owner} ((1, owner_a) ∷ []) tt 1

net_9 : net q8.kept.catalog owner_a ≡ came 2 ∷ []
unfolding q8
net_9 = rw (one_entry {A = Option Object} 2 (Some mark), get_written {A = Object} ((1, mark) ∷ []) tt 2) refl

two_is : over one_mark (came 2 ∷ []) ≡ two_marks
two_is = insert_written {A = Object} ((1, mark) ∷ []) tt 2 mark tt

room_of_two : nat_lt standard.total (total marks two_marks) ≡ false
unfolding marks
room_of_two = rw (entries_written {A = Object} ((1, mark) ∷ (2, mark) ∷ []) tt) refl

fits_9 : nat_lt standard.total (total marks (over q8.kept.catalog (came 2 ∷ []))) ≡ false
unfolding q8
fits_9 = ap (λ (N : Catalog). nat_lt standard.total (total marks N)) two_is ∙ room_of_two

room_9 : is_over_full marks standard q8.kept.catalog owner_a ≡ false
room_9 = ap (λ (cs : List Change). nat_lt standard.total (total marks (over q8.kept.catalog cs))) net_9 ∙ fits_9

effect_9 : (decision marks standard q8.kept flushes_a).effect ≡ Flushes (owner_no 1)
unfolding flushes_a
effect_9 = flushed marks standard q8.kept (codes "a") (codes "a") 1 ReadWrite (owner_no 1) owner_a named_9 there_9 room_9

title_9 : title_of q8.kept (owner_no 1) ≡ title (codes "a") 1
unfolding q8
title_9 = rw (get_written {A = Title} ((1, title (codes "a") 1) ∷ []) tt 1) refl

settled_9 : settled q8.kept (owner_no 1) ≡ with_commit q8.kept (owner_no 1) (title (codes "a") 1) Basic (came 2 ∷ [])
settled_9 =
    settled_there q8.kept (owner_no 1) owner_a there_9
    ∙ (λ i. with_commit q8.kept (owner_no 1) (title_9 i) Basic (net_9 i))

loose_9 : leaving q8.kept.owners q8.kept.sessions (is_settled (owner_no 1) (came 2 ∷ [])) 1 (copy_of 2 Shared) ≡ copy_of 2 Loose
unfolding q8
loose_9 = rw (get_written {A = Session} free_b tt 1, get_written {A = Owner} ((1, owner_a) ∷ []) tt 1, get-insert {X = Option Object} nat_cmp_total empty 2 (Some mark) 2) refl

copies_9 : detached q8.kept.owners q8.kept.sessions (is_settled (owner_no 1) (came 2 ∷ [])) (copies (copy_of 2 Shared) (copy_of 1 Loose)) ≡ copies (copy_of 2 Loose) (copy_of 1 Loose)
copies_9 =
    leaving_two q8.kept.owners q8.kept.sessions (is_settled (owner_no 1) (came 2 ∷ [])) (copy_of 2 Shared) (copy_of 1 Loose) (copy_of 2 Loose) (copy_of 1 Loose) loose_9
    (either_way (get q8.kept.sessions 2) (copy_of 1 Loose))

emptied_9 : emptied (with_commit q8.kept (owner_no 1) (title (codes "a") 1) Basic (came 2 ∷ [])) (owner_no 1) ≡ q9.kept
unfolding q8 q9
emptied_9 i =
    kept (two_is i) 3 (with_at_written {A = Owner} ((1, owner_a) ∷ []) tt 1 (λ owner. new_owner owner.level) owner_a refl tt i) (with_at_written {A = Title} ((1, title (codes "a") 1) ∷ []) tt 1 unspent (title (codes "a") 1) refl tt i) 3
    (sessions NoTransaction) (copies_9 i) 3 2 after_a

kept_9 : moved q8.kept (Flushes (owner_no 1)) ≡ q9.kept
kept_9 = ap (λ (k : Kept). emptied k (owner_no 1)) settled_9 ∙ emptied_9

member_9 : member_of q8.kept q8.lists (owner_no 1) owner_a ≡ member_a
unfolding q8
member_9 = ap (λ (cs : List Change). record { name = name_of q8.kept (owner_no 1); level = Basic; done = map answered_in (steps_of q8.lists 1); changes = cs }) net_9 ∙ rw (get_written {A = Title} ((1, title (codes "a") 1) ∷ []) tt 1, get_written {A = List Step} ((1, made 2 ∷ []) ∷ []) tt 1) refl

lists_9 : grown q8.kept q8.lists (Flushes (owner_no 1)) ≡ q9.lists
unfolding q8 q9
lists_9 =
    with_settled_there q8.kept q8.lists (owner_no 1) owner_a there_9
    ∙ (λ i. lists (remove_only {A = List Step} 1 (made 2 ∷ []) i) (with_member (member_t ∷ []) (member_9 i)) (traced_t ∷ traced_a ∷ []))

pub turn_9 : turn marks standard q8 (Says flushes_a) ≡ q9
turn_9 = goes q8 q9 flushes_a (Flushes (owner_no 1)) effect_9 (λ i. record { kept = kept_9 i; lists = lists_9 i })

-- ---- `begin u SERIALIZABLE`

unused_10 : is_in_use q9.kept (codes "u") ≡ false
unfolding q9
unused_10 = rw (entries_written {A = Session} free_b tt, entries_written {A = Title} ((1, title (codes "a") 0) ∷ []) tt) refl

few_10 : nat_le standard.transactions (transaction_count q9.kept) ≡ false
unfolding q9
few_10 = rw (entries_written {A = Owner} ((1, new_owner Basic) ∷ []) tt) refl

effect_10 : (decision marks standard q9.kept begins_u).effect ≡ Begins (codes "u") Serializable
unfolding begins_u
effect_10 = begun marks standard q9.kept (codes "u") true unused_10 few_10

moved_10 : after q9 (Begins (codes "u") Serializable) ≡ q10
unfolding q9 q10
moved_10 i = record {
  kept = kept two_marks 3 (insert_written {A = Owner} ((1, new_owner Basic) ∷ []) tt 3 (new_owner Serializable) tt i) (insert_written {A = Title} ((1, title (codes "a") 0) ∷ []) tt 3 (title (codes "u") 0) tt i) 4 (sessions NoTransaction) (copies (copy_of 2 Loose) (copy_of 1 Loose)) 3 2 after_a;
  lists = lists (written []) (member_t ∷ member_a ∷ []) (traced_t ∷ traced_a ∷ []);
}

pub turn_10 : turn marks standard q9 (Says begins_u) ≡ q10
turn_10 = goes q9 q10 begins_u (Begins (codes "u") Serializable) effect_10 moved_10

-- ---- `start b u`

abbrev owners_10 : List (ℕ × Owner)
owners_10 = (1, new_owner Basic) ∷ (3, new_owner Serializable) ∷ []

abbrev titles_10 : List (ℕ × Title)
titles_10 = (1, title (codes "a") 0) ∷ (3, title (codes "u") 0) ∷ []

abbrev active_u : List (ℕ × Session)
active_u = (1, session_a) ∷ (2, session_b (Active (owner_no 3))) ∷ []

named_11 : session_named q10.kept.sessions (codes "b") ≡ Some (2, session_b NoTransaction)
unfolding q10
named_11 = rw (entries_written {A = Session} free_b tt) refl

begun_11 : transaction_named q10.kept (codes "u") ≡ Some (owner_no 3)
unfolding q10
begun_11 = rw (entries_written {A = Title} titles_10 tt, get_written {A = Owner} owners_10 tt 3) refl

effect_11 : (decision marks standard q10.kept starts_u).effect ≡ Associates (session_no 2) (Active (owner_no 3))
unfolding starts_u
effect_11 = started marks standard q10.kept (codes "b") (codes "u") (codes "b") 2 ReadWrite (owner_no 3) named_11 begun_11

moved_11 : after q10 (Associates (session_no 2) (Active (owner_no 3))) ≡ q11
unfolding q10 q11
moved_11 i = record {
  kept = kept two_marks 3 (written owners_10) (written titles_10) 4 (with_at_written {A = Session} free_b tt 2 (with_association (Active (owner_no 3))) (session_b NoTransaction) refl tt i) (copies (copy_of 2 Loose) (copy_of 1 Loose)) 3 2 after_a;
  lists = lists (written []) (member_t ∷ member_a ∷ []) (traced_t ∷ traced_a ∷ []);
}

pub turn_11 : turn marks standard q10 (Says starts_u) ≡ q11
turn_11 = goes q10 q11 starts_u (Associates (session_no 2) (Active (owner_no 3))) effect_11 moved_11

-- ---- `count b H`

abbrev actor_u : Actor
actor_u = record { number = owner_no 3; owner = new_owner Serializable }

named_12 : session_named q11.kept.sessions (codes "b") ≡ Some (2, session_b (Active (owner_no 3)))
unfolding q11
named_12 = rw (entries_written {A = Session} active_u tt) refl

there_12 : get q11.kept.owners 3 ≡ Some (new_owner Serializable)
unfolding q11
there_12 = get_written {A = Owner} owners_10 tt 3

acts_12 : actor_in q11.kept.owners (session_b (Active (owner_no 3))) ≡ Some actor_u
acts_12 = rw there_12 refl

limited_12 : (asking_of_home marks (codes "H") (λ h. Ask (Count h)) >>= within standard q11.kept.next (new_owner Serializable) (copies_of q11.kept (session_no 2))) ≡ Ok (only counting)
unfolding marks
limited_12 = refl

taken_12 : step_of marks q11.kept.catalog (new_owner Serializable) (copies_of q11.kept (session_no 2)) (only counting) ≡ told
unfolding q11 marks
taken_12 = rw (entries_empty {A = Option Object}, entries_written {A = Object} ((1, mark) ∷ (2, mark) ∷ []) tt) refl

free_12 : blocker q11.kept.owners (owner_no 3) told.needs ≡ None
unfolding q11
free_12 = rw (entries_written {A = Owner} owners_10 tt, nothing_held) refl

effect_12 : (decision marks standard q11.kept counts_b).effect ≡ Steps (owner_no 3) (session_no 2) told (only counting)
unfolding counts_b
effect_12 =
    counted marks standard q11.kept (codes "b") (codes "H") 2 (session_b (Active (owner_no 3))) actor_u (only counting) told named_12
    (record { acts = acts_12; limited = limited_12; taken = taken_12; free = free_12 })

left_12 : detached q11.kept.owners q11.kept.sessions (is_outdated (owner_no 3) told) (copies (copy_of 2 Loose) (copy_of 1 Loose)) ≡ copies (copy_of 2 Loose) (copy_of 1 Loose)
left_12 =
    leaving_two q11.kept.owners q11.kept.sessions (is_outdated (owner_no 3) told) (copy_of 2 Loose) (copy_of 1 Loose) (copy_of 2 Loose) (copy_of 1 Loose)
    (either_way (get q11.kept.sessions 1) (copy_of 2 Loose)) (either_way (get q11.kept.sessions 2) (copy_of 1 Loose))

copies_12 : copies_after q11.kept (owner_no 3) (session_no 2) told (only counting) ≡ copies (copy_of 2 Loose) (copy_of 1 Loose)
unfolding q11
copies_12 =
    second_obtains (detached q11.kept.owners q11.kept.sessions (is_outdated (owner_no 3) told) q11.kept.copies) (copy_of 2 Loose) (copy_of 1 Loose) (copy_of 1 Loose)
    (seated q11.kept.catalog (seen_in (owners_after q11.kept (owner_no 3) told) q11.kept.sessions (session_no 2)) (only counting) (Number 2)) left_12 refl

kept_12 : moved q11.kept (Steps (owner_no 3) (session_no 2) told (only counting)) ≡ q12.kept
unfolding q11 q12
kept_12 i =
    kept two_marks 3 (with_at_written {A = Owner} owners_10 tt 3 (stepped told) (new_owner Serializable) refl tt i) (with_at_written {A = Title} titles_10 tt 3 one_more (title (codes "u") 0) refl tt i) 4
    (sessions (Active (owner_no 3))) (copies_12 i) 3 2 after_a

trace_12 : traced_t ∷ traced_a ∷ traced q11.lists (owner_no 3) (new_owner Serializable) told ∷ [] ≡ trace
unfolding q11
trace_12 = rw (entries_empty {A = Option Object}) refl

steps_12 : insert q11.lists.steps 3 (steps_of q11.lists 3 ++ told ∷ []) ≡ written ((3, told ∷ []) ∷ [])
unfolding q11
steps_12 = ap (λ (o : Option (List Step)). insert (written []) 3 (unwrap_or o [] ++ told ∷ [])) (get_written {A = List Step} [] tt 3) ∙ insert_written {A = List Step} [] tt 3 (told ∷ []) tt

lists_12 : grown q11.kept q11.lists (Steps (owner_no 3) (session_no 2) told (only counting)) ≡ q12.lists
unfolding q11 q12
lists_12 = with_step_there q11.kept q11.lists (owner_no 3) told (new_owner Serializable) there_12 ∙ (λ i. lists (steps_12 i) (member_t ∷ member_a ∷ []) (trace_12 i))

pub turn_12 : turn marks standard q11 (Says counts_b) ≡ q12
turn_12 = goes q11 q12 counts_b (Steps (owner_no 3) (session_no 2) told (only counting)) effect_12 (λ i. record { kept = kept_12 i; lists = lists_12 i })

-- ---- `end b ok`

abbrev owners_12 : List (ℕ × Owner)
owners_12 = (1, new_owner Basic) ∷ (3, counter) ∷ []

abbrev titles_12 : List (ℕ × Title)
titles_12 = (1, title (codes "a") 0) ∷ (3, title (codes "u") 1) ∷ []

abbrev ending_u : List (ℕ × Session)
ending_u = (1, session_a) ∷ (2, session_b (Ending (owner_no 3))) ∷ []

named_13 : session_named q12.kept.sessions (codes "b") ≡ Some (2, session_b (Active (owner_no 3)))
unfolding q12
named_13 = rw (entries_written {A = Session} active_u tt) refl

effect_13 : (decision marks standard q12.kept ends_b).effect ≡ Ends (session_no 2) (owner_no 3) false
unfolding ends_b
effect_13 = ended marks standard q12.kept (codes "b") (codes "b") 2 ReadWrite (owner_no 3) named_13

copies_13 : detached q12.kept.owners q12.kept.sessions (λ t session body. is_session (session_no 2) t) (copies (copy_of 2 Loose) (copy_of 1 Loose)) ≡ copies (copy_of 2 Loose) (copy_of 1 Loose)
copies_13 =
    leaving_two q12.kept.owners q12.kept.sessions (λ t session body. is_session (session_no 2) t) (copy_of 2 Loose) (copy_of 1 Loose) (copy_of 2 Loose) (copy_of 1 Loose)
    (either_way (get q12.kept.sessions 1) (copy_of 2 Loose)) (either_way (get q12.kept.sessions 2) (copy_of 1 Loose))

moved_13 : after q12 (Ends (session_no 2) (owner_no 3) false) ≡ q13
unfolding q12 q13
moved_13 i = record {
  kept = kept two_marks 3 (written owners_12) (with_at_written {A = Title} titles_12 tt 3 (marked false) (title (codes "u") 1) refl tt i) 4
      (with_at_written {A = Session} active_u tt 2 (with_association (Ending (owner_no 3))) (session_b (Active (owner_no 3))) refl tt i) (copies_13 i) 3 2 after_a;
  lists = lists (written ((3, told ∷ []) ∷ [])) (member_t ∷ member_a ∷ []) trace;
}

pub turn_13 : turn marks standard q12 (Says ends_b) ≡ q13
turn_13 = goes q12 q13 ends_b (Ends (session_no 2) (owner_no 3) false) effect_13 moved_13

-- ---- `commit u`

named_14 : transaction_named q13.kept (codes "u") ≡ Some (owner_no 3)
unfolding q13
named_14 = rw (entries_written {A = Title} titles_12 tt, get_written {A = Owner} owners_12 tt 3) refl

closed_14 : first_open q13.kept.sessions (owner_no 3) ≡ None
unfolding q13
closed_14 = rw (entries_written {A = Session} ending_u tt) refl

unmarked_14 : is_marked q13.kept (owner_no 3) ≡ false
unfolding q13
unmarked_14 = rw (get_written {A = Title} titles_12 tt 3) refl

there_14 : get q13.kept.owners 3 ≡ Some counter
unfolding q13
there_14 = get_written {A = Owner} owners_12 tt 3

net_14 : net q13.kept.catalog counter ≡ []
net_14 = rw (entries_empty {A = Option Object}) refl

fits_14 : nat_lt standard.total (total marks (over q13.kept.catalog [])) ≡ false
unfolding q13
fits_14 = room_of_two

room_14 : is_over_full marks standard q13.kept.catalog counter ≡ false
room_14 = ap (λ (cs : List Change). nat_lt standard.total (total marks (over q13.kept.catalog cs))) net_14 ∙ fits_14

effect_14 : (decision marks standard q13.kept commits_u).effect ≡ Commits (owner_no 3)
unfolding commits_u
effect_14 = committed marks standard q13.kept (codes "u") (owner_no 3) counter named_14 closed_14 unmarked_14 there_14 room_14

title_14 : title_of q13.kept (owner_no 3) ≡ title (codes "u") 1
unfolding q13
title_14 = rw (get_written {A = Title} titles_12 tt 3) refl

settled_14 : settled q13.kept (owner_no 3) ≡ with_commit q13.kept (owner_no 3) (title (codes "u") 1) Serializable []
settled_14 = settled_there q13.kept (owner_no 3) counter there_14 ∙ (λ i. with_commit q13.kept (owner_no 3) (title_14 i) Serializable (net_14 i))

copies_14 : detached q13.kept.owners q13.kept.sessions (λ s session body. is_in (owner_no 3) session) (detached q13.kept.owners q13.kept.sessions (is_settled (owner_no 3) []) (copies (copy_of 2 Loose) (copy_of 1 Loose))) ≡ copies (copy_of 2 Loose) (copy_of 1 Loose)
copies_14 =
    ap (detached q13.kept.owners q13.kept.sessions (λ s session body. is_in (owner_no 3) session))
    (leaving_two q13.kept.owners q13.kept.sessions (is_settled (owner_no 3) []) (copy_of 2 Loose) (copy_of 1 Loose) (copy_of 2 Loose) (copy_of 1 Loose)
    (either_way (get q13.kept.sessions 1) (copy_of 2 Loose)) (either_way (get q13.kept.sessions 2) (copy_of 1 Loose)))
    ∙ leaving_two q13.kept.owners q13.kept.sessions (λ s session body. is_in (owner_no 3) session) (copy_of 2 Loose) (copy_of 1 Loose) (copy_of 2 Loose) (copy_of 1 Loose)
    (either_way (get q13.kept.sessions 1) (copy_of 2 Loose)) (either_way (get q13.kept.sessions 2) (copy_of 1 Loose))

free_14 : each (λ s session. without_transaction (owner_no 3) session) (sessions (Ending (owner_no 3))) ≡ sessions NoTransaction
free_14 = each_two (λ s session. without_transaction (owner_no 3) session) session_a (session_b (Ending (owner_no 3)))

gone_14 : without_transaction_of (with_commit q13.kept (owner_no 3) (title (codes "u") 1) Serializable []) (owner_no 3) ≡ q14.kept
unfolding q13 q14
gone_14 i =
    kept two_marks 3 (remove_second {A = Owner} 1 3 (new_owner Basic) counter (λ e. absurd (omega (arith, e))) tt i) (remove_second {A = Title} 1 3 (title (codes "a") 0) (title (codes "u") 1) (λ e. absurd (omega (arith, e))) tt i) 4
    (free_14 i) (copies_14 i) 3 3 after_u

kept_14 : moved q13.kept (Commits (owner_no 3)) ≡ q14.kept
kept_14 = ap (λ (k : Kept). without_transaction_of k (owner_no 3)) settled_14 ∙ gone_14

history_14 : with_member (member_t ∷ member_a ∷ []) (member_of q13.kept q13.lists (owner_no 3) counter) ≡ history
unfolding q13
history_14 =
    ap (λ (cs : List Change). with_member (member_t ∷ member_a ∷ []) (record { name = name_of q13.kept (owner_no 3); level = Serializable; done = map answered_in (steps_of q13.lists 3); changes = cs })) net_14
    ∙ rw (get_written {A = Title} titles_12 tt 3, get_written {A = List Step} ((3, told ∷ []) ∷ []) tt 3) refl

lists_14 : grown q13.kept q13.lists (Commits (owner_no 3)) ≡ q14.lists
unfolding q13 q14
lists_14 = with_settled_there q13.kept q13.lists (owner_no 3) counter there_14 ∙ (λ i. lists (remove_only {A = List Step} 3 (told ∷ []) i) (history_14 i) trace)

pub turn_14 : turn marks standard q13 (Says commits_u) ≡ q14
turn_14 = goes q13 q14 commits_u (Commits (owner_no 3)) effect_14 (λ i. record { kept = kept_14 i; lists = lists_14 i })
