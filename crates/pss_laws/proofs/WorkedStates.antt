-- The machine after each line of the run that is worked out.
use Rattle.std.proofs.Common.{ℕ, List, [], ◌∷◌, ◌++◌, Some, false}
use Rattle.std.specs.Prelude.{codes}
use Rattle.std.specs.Ordering.{nat_cmp}
use Rattle.std.specs.FinMap.{FinMap, empty, insert}
use Rattle.std.specs.FinSet as set
use Rattle.pss_base.specs.declared.pid.Pid.{Pid}
use Rattle.pss_base.specs.declared.owner.OwnerNo.{OwnerNo}
use Rattle.pss_base.specs.declared.session.SessionNo.{SessionNo}
use Rattle.pss_catalog.specs.Catalog.{Catalog}
use Rattle.pss_machine.specs.declared.lock.Mode.TheVariants.{S as Read, M as Many, X as Write}
use Rattle.pss_machine.specs.declared.level.Level.TheVariants.{Serializable, Basic}
use Rattle.pss_machine.specs.declared.session.Access.TheVariants.{ReadWrite}
use Rattle.pss_machine.specs.declared.session.Association.{Association}
use Rattle.pss_machine.specs.declared.session.Association.TheVariants.{NoTransaction, Active, Ending}
use Rattle.pss_machine.specs.declared.session.Kind.TheVariants as kind
use Rattle.pss_machine.specs.Needs.{object_need, extent_need}
use Rattle.pss_machine.specs.Operations.{Number}
use Rattle.pss_machine.specs.Owners.{Owner, Owners, new_owner, Step}
use Rattle.pss_machine.specs.Sessions.{Session, Sessions}
use Rattle.pss_machine.specs.Copies.{Stand, Loose, Shared, Copies, AllCopies, no_copies}
use Rattle.pss_machine.specs.Kept.{Kept, Title}
use Rattle.pss_machine.specs.Moving.{commit_text, last_64}
use Rattle.pss_machine.specs.Beside.{Member, Traced, Lists}
use Rattle.pss_machine.specs.Run.{Machine}
use Rattle.pss_laws.specs.Worked.{mark, mark_home, creating, counting, found, came, history, trace}
use Rattle.pss_laws.proofs.Written.{written}

-- ---- parts

abbrev pub owner_no : ℕ → OwnerNo
owner_no n = record { 0 = n }

abbrev pub session_no : ℕ → SessionNo
session_no n = record { 0 = n }

abbrev pub pid : ℕ → Pid
pid serial = record { home = 1; serial = serial }

abbrev pub session_a : Session
session_a = record { name = codes "a"; kind = kind.Basic (owner_no 1); access = ReadWrite; association = NoTransaction }

abbrev pub session_b : Association → Session
session_b association = record { name = codes "b"; kind = kind.Transactional; access = ReadWrite; association = association }

-- a session's only entry
abbrev pub copy_of : ℕ → Stand → Copies
copy_of serial stand = record { last = 1; entries = record { number = 1; pid = pid serial; count = 1; stand = stand } ∷ [] }

abbrev pub title : List ℕ → ℕ → Title
title name commands = record { name = name; failed = false; commands = commands }

-- the step that makes an object
abbrev pub made : ℕ → Step
made serial = record { op = creating serial; answer = found serial; needs = object_need Write serial ∷ extent_need Many mark_home ∷ []; own = came serial ∷ [] }

abbrev pub told : Step
told = record { op = counting; answer = Number 2; needs = extent_need Read mark_home ∷ []; own = [] }

-- an owner that made an object, and one that counted
abbrev pub maker : Owner → ℕ → Owner
maker owner serial = record { level = owner.level; locks = set.union owner.locks (set.from_list (made serial).needs); changes = insert owner.changes serial (Some mark) }

abbrev pub counter : Owner
counter = record { level = Serializable; locks = set.union set.empty (set.from_list told.needs); changes = empty }

abbrev pub sessions : Association → Sessions
sessions association = written ((1, session_a) ∷ (2, session_b association) ∷ [])

abbrev pub copies : Copies → Copies → AllCopies
copies a b = written ((1, a) ∷ (2, b) ∷ [])

abbrev pub one_mark : Catalog
one_mark = written ((1, mark) ∷ [])

abbrev pub two_marks : Catalog
two_marks = written ((1, mark) ∷ (2, mark) ∷ [])

-- the texts of the commits
abbrev pub text_t : List ℕ
text_t = commit_text (title (codes "t") 1) Serializable (came 1 ∷ [])

abbrev pub text_a : List ℕ
text_a = commit_text (title (codes "a") 1) Basic (came 2 ∷ [])

abbrev pub text_u : List ℕ
text_u = commit_text (title (codes "u") 1) Serializable []

abbrev pub after_t : List (List ℕ)
after_t = last_64 ([] ++ text_t ∷ [])

abbrev pub after_a : List (List ℕ)
after_a = last_64 (after_t ++ text_a ∷ [])

abbrev pub after_u : List (List ℕ)
after_u = last_64 (after_a ++ text_u ∷ [])

abbrev pub member_t : Member
member_t = record { name = codes "t"; level = Serializable; done = record { op = creating 1; answer = found 1 } ∷ []; changes = came 1 ∷ [] }

abbrev pub member_a : Member
member_a = record { name = codes "a"; level = Basic; done = record { op = creating 2; answer = found 2 } ∷ []; changes = came 2 ∷ [] }

abbrev pub traced_t : Traced
traced_t = record { owner = owner_no 2; level = Serializable; op = creating 1; answer = found 1; commits = 0; before = [] }

abbrev pub traced_a : Traced
traced_a = record { owner = owner_no 1; level = Basic; op = creating 2; answer = found 2; commits = 1; before = [] }

-- ---- all that is kept

abbrev pub kept : Catalog → ℕ → Owners → FinMap nat_cmp Title → ℕ → Sessions → AllCopies → ℕ → ℕ → List (List ℕ) → Kept
kept catalog next owners titles next_owner sessions copies next_session commits recent = record {
  catalog = catalog;
  next = next;
  owners = owners;
  titles = titles;
  next_owner = next_owner;
  sessions = sessions;
  copies = copies;
  next_session = next_session;
  commits = commits;
  recent = recent;
}

abbrev pub lists : FinMap nat_cmp (List Step) → List Member → List Traced → Lists
lists steps history trace = record { steps = steps; history = history; trace = trace }

-- ---- the states

unfoldable pub q0 : Machine
q0 = record { kept = kept (written []) 1 (written []) (written []) 1 (written []) (written []) 1 0 []; lists = lists (written []) [] [] }

unfoldable pub q1 : Machine
q1 = record {
  kept = kept (written []) 1 (written ((1, new_owner Basic) ∷ [])) (written ((1, title (codes "a") 0) ∷ [])) 2 (written ((1, session_a) ∷ [])) (written ((1, no_copies) ∷ [])) 2 0 [];
  lists = lists (written []) [] [];
}

unfoldable pub q2 : Machine
q2 = record {
  kept = kept (written []) 1 (written ((1, new_owner Basic) ∷ [])) (written ((1, title (codes "a") 0) ∷ [])) 2 (sessions NoTransaction) (copies no_copies no_copies) 3 0 [];
  lists = lists (written []) [] [];
}

unfoldable pub q3 : Machine
q3 = record {
  kept = kept (written []) 1 (written ((1, new_owner Basic) ∷ (2, new_owner Serializable) ∷ [])) (written ((1, title (codes "a") 0) ∷ (2, title (codes "t") 0) ∷ [])) 3 (sessions NoTransaction) (copies no_copies no_copies) 3 0 [];
  lists = lists (written []) [] [];
}

unfoldable pub q4 : Machine
q4 = record {
  kept = kept (written []) 1 (written ((1, new_owner Basic) ∷ (2, new_owner Serializable) ∷ [])) (written ((1, title (codes "a") 0) ∷ (2, title (codes "t") 0) ∷ [])) 3 (sessions (Active (owner_no 2))) (copies no_copies no_copies) 3 0 [];
  lists = lists (written []) [] [];
}

unfoldable pub q5 : Machine
q5 = record {
  kept = kept (written []) 2 (written ((1, new_owner Basic) ∷ (2, maker (new_owner Serializable) 1) ∷ [])) (written ((1, title (codes "a") 0) ∷ (2, title (codes "t") 1) ∷ [])) 3 (sessions (Active (owner_no 2))) (copies no_copies (copy_of 1 Shared)) 3 0 [];
  lists = lists (written ((2, made 1 ∷ []) ∷ [])) [] (traced_t ∷ []);
}

unfoldable pub q6 : Machine
q6 = record {
  kept = kept (written []) 2 (written ((1, new_owner Basic) ∷ (2, maker (new_owner Serializable) 1) ∷ [])) (written ((1, title (codes "a") 0) ∷ (2, title (codes "t") 1) ∷ [])) 3 (sessions (Ending (owner_no 2))) (copies no_copies (copy_of 1 Loose)) 3 0 [];
  lists = lists (written ((2, made 1 ∷ []) ∷ [])) [] (traced_t ∷ []);
}

unfoldable pub q7 : Machine
q7 = record {
  kept = kept one_mark 2 (written ((1, new_owner Basic) ∷ [])) (written ((1, title (codes "a") 0) ∷ [])) 3 (sessions NoTransaction) (copies no_copies (copy_of 1 Loose)) 3 1 after_t;
  lists = lists (written []) (member_t ∷ []) (traced_t ∷ []);
}

unfoldable pub q8 : Machine
q8 = record {
  kept = kept one_mark 3 (written ((1, maker (new_owner Basic) 2) ∷ [])) (written ((1, title (codes "a") 1) ∷ [])) 3 (sessions NoTransaction) (copies (copy_of 2 Shared) (copy_of 1 Loose)) 3 1 after_t;
  lists = lists (written ((1, made 2 ∷ []) ∷ [])) (member_t ∷ []) (traced_t ∷ traced_a ∷ []);
}

unfoldable pub q9 : Machine
q9 = record {
  kept = kept two_marks 3 (written ((1, new_owner Basic) ∷ [])) (written ((1, title (codes "a") 0) ∷ [])) 3 (sessions NoTransaction) (copies (copy_of 2 Loose) (copy_of 1 Loose)) 3 2 after_a;
  lists = lists (written []) (member_t ∷ member_a ∷ []) (traced_t ∷ traced_a ∷ []);
}

unfoldable pub q10 : Machine
q10 = record {
  kept = kept two_marks 3 (written ((1, new_owner Basic) ∷ (3, new_owner Serializable) ∷ [])) (written ((1, title (codes "a") 0) ∷ (3, title (codes "u") 0) ∷ [])) 4 (sessions NoTransaction) (copies (copy_of 2 Loose) (copy_of 1 Loose)) 3 2 after_a;
  lists = lists (written []) (member_t ∷ member_a ∷ []) (traced_t ∷ traced_a ∷ []);
}

unfoldable pub q11 : Machine
q11 = record {
  kept = kept two_marks 3 (written ((1, new_owner Basic) ∷ (3, new_owner Serializable) ∷ [])) (written ((1, title (codes "a") 0) ∷ (3, title (codes "u") 0) ∷ [])) 4 (sessions (Active (owner_no 3))) (copies (copy_of 2 Loose) (copy_of 1 Loose)) 3 2 after_a;
  lists = lists (written []) (member_t ∷ member_a ∷ []) (traced_t ∷ traced_a ∷ []);
}

unfoldable pub q12 : Machine
q12 = record {
  kept = kept two_marks 3 (written ((1, new_owner Basic) ∷ (3, counter) ∷ [])) (written ((1, title (codes "a") 0) ∷ (3, title (codes "u") 1) ∷ [])) 4 (sessions (Active (owner_no 3))) (copies (copy_of 2 Loose) (copy_of 1 Loose)) 3 2 after_a;
  lists = lists (written ((3, told ∷ []) ∷ [])) (member_t ∷ member_a ∷ []) trace;
}

unfoldable pub q13 : Machine
q13 = record {
  kept = kept two_marks 3 (written ((1, new_owner Basic) ∷ (3, counter) ∷ [])) (written ((1, title (codes "a") 0) ∷ (3, title (codes "u") 1) ∷ [])) 4 (sessions (Ending (owner_no 3))) (copies (copy_of 2 Loose) (copy_of 1 Loose)) 3 2 after_a;
  lists = lists (written ((3, told ∷ []) ∷ [])) (member_t ∷ member_a ∷ []) trace;
}

unfoldable pub q14 : Machine
q14 = record {
  kept = kept two_marks 3 (written ((1, new_owner Basic) ∷ [])) (written ((1, title (codes "a") 0) ∷ [])) 4 (sessions NoTransaction) (copies (copy_of 2 Loose) (copy_of 1 Loose)) 3 3 after_u;
  lists = lists (written []) history trace;
}
