-- An operation by itself: what it changes in a catalog, and what it answers. The first case that holds decides.
use Rattle.std.specs.Prelude.{ℕ, ◌==◌, List, [], ◌∷◌, length, take, find, Option, Some, None, Bool, not, nat_lt, if◌then◌else◌, slice_set}
use Rattle.std.specs.List.{slice_get, list_any, flat_map}
use Rattle.std.specs.FinMap.{get}
use Rattle.pss_base.specs.declared.pid.Pid.{Pid}
use Rattle.type_layout.specs.declared.home.HomeNo.{HomeNo}
use Rattle.type_layout.specs.declared.key.KeyNo.{KeyNo}
use Rattle.type_layout.specs.declared.schema.Schema.{Schema}
use Rattle.type_layout.specs.Types.{PlainValue, Ref}
use Rattle.type_layout.specs.Keys.{key_bytes}
use Rattle.type_layout.specs.Schemas.{given, descends, keys_at}
use Rattle.pss_catalog.specs.Catalog.{Object, Catalog, has, holders, references, object_spelling}
use Rattle.pss_machine.specs.Operations.{Question, FindKey, FindPid, FindShort, Exists, Get, Follow, Count, ListOf, PlainOp, Create, Set, Destroy, Ask, PlainAnswer, Done, Found, IsThere, Val, Number, Listing, NotFound, Gone, Nil, Duplicate, TooLarge}
use Rattle.pss_catalog.specs.Changes.{Change}
use Rattle.pss_machine.specs.Homes.{in_one_family, extent}

-- what an operation does
pub record Outcome : Type 0 where
  pub changes : List Change
  pub answer : PlainAnswer

abbrev pub answers : PlainAnswer → Outcome
answers a = record { changes = []; answer = a }

abbrev pub pid_at : ℕ → Object → Pid
pid_at serial object = record { home = object.home.0; serial = serial }

-- the object, where the catalog has it in the pid's home
abbrev pub object_of : Catalog → Pid → Option Object
object_of M p = given (get M p.serial) None (λ object. if object.home.0 == p.home then Some object else None)

-- the first of these objects that is not there
abbrev pub first_gone : Catalog → List Pid → Option Pid
first_gone M pids = find (λ q. not (has M q)) pids

-- a key of the object is held, with the same bytes, by one of another serial
abbrev pub is_taken : Schema → Catalog → ℕ → Object → KeyNo → Bool
is_taken S M serial object k = list_any (λ p. not (p.serial == serial)) (holders S M k (key_bytes S k object.values))

-- the first of the object's keys that is
abbrev pub first_taken : Schema → Catalog → ℕ → Object → Option KeyNo
first_taken S M serial object = find (is_taken S M serial object) (keys_at S object.home)

-- the object comes to be, unless a key is taken or it is too large
abbrev pub stored : Schema → Catalog → ℕ → Object → PlainAnswer → Outcome
stored S M serial object done =
    given (first_taken S M serial object)
    (if nat_lt 8000 (length (object_spelling S object)) then answers TooLarge else record { changes = record { serial = serial; state = Some object } ∷ []; answer = done })
    (λ k. answers (Duplicate k))

-- unless one of these objects is not there
abbrev pub unless_gone : Catalog → List Pid → Outcome → Outcome
unless_gone M pids outcome = given (first_gone M pids) outcome (λ q. answers (Gone q))

-- what is done with an object that is there
abbrev pub with_object : Catalog → Pid → (Object → Outcome) → Outcome
with_object M p f = given (object_of M p) (answers (Gone p)) f

-- the object with another value of a member
abbrev pub with_member : Object → ℕ → PlainValue → Object
with_member object member value = record { home = object.home; values = slice_set object.values member value }

-- where a member of an object leads; one that is no reference is not there
abbrev pub followed : Catalog → Pid → PlainValue → PlainAnswer
followed M p (Ref (Some q)) = if has M q then Found q else Gone q
followed M p (Ref None) = Nil
followed M p _ = Gone p

-- what is told of a member of an object, which is there where both are
abbrev pub member_told : Catalog → Pid → ℕ → (PlainValue → PlainAnswer) → PlainAnswer
member_told M p member tell = given (object_of M p) (Gone p) (λ object. given (slice_get object.values member) (Gone p) tell)

-- the first object of a home, or of those derived from it, that holds a key
abbrev pub found_by_key : Schema → Catalog → HomeNo → KeyNo → List ℕ → Option Pid
found_by_key S M h k bytes = find (λ p. descends S (record { 0 = p.home }) h) (holders S M k bytes)

abbrev pub told : Schema → Catalog → Question → PlainAnswer
told S M (FindKey h k bytes) = given (found_by_key S M h k bytes) NotFound Found
told S M (FindPid p) = if has M p then Found p else NotFound
told S M (FindShort h serial) = given (get M serial) NotFound (λ object. if in_one_family S object.home h then Found (pid_at serial object) else NotFound)
told S M (Exists p) = IsThere (has M p)
told S M (Get p member) = member_told M p member Val
told S M (Follow p member) = member_told M p member (followed M p)
told S M (Count h) = Number (length (extent S M h))
told S M (ListOf h) = Listing (length (extent S M h)) (take 256 (extent S M h))

abbrev pub alone : Schema → Catalog → PlainOp → Outcome
alone S M (Create serial object) = unless_gone M (flat_map references object.values) (stored S M serial object (Found (pid_at serial object)))
alone S M (Set p member value) = with_object M p (λ object. unless_gone M (references value) (stored S M p.serial (with_member object member value) Done))
alone S M (Destroy p) = with_object M p (λ object. record { changes = record { serial = p.serial; state = None } ∷ []; answer = Done })
alone S M (Ask question) = answers (told S M question)
