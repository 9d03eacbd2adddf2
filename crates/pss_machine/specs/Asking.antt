-- What a data command asks of the catalog, or why its words ask nothing. The first refusal that holds is the one.
use Rattle.std.specs.Prelude.{ℕ, List, [], ◌∷◌, Option, Some, None, Result, Ok, Err, Bool, true, false, if◌then◌else◌, slice_index_or, ok_or}
use Rattle.pss_base.specs.declared.pid.Pid.{Pid}
use Rattle.type_layout.specs.declared.home.HomeNo.{HomeNo}
use Rattle.type_layout.specs.declared.schema.Schema.{Schema}
use Rattle.type_layout.specs.Types.{PlainType, RefTo, PlainValue, PlainMember, Ref}
use Rattle.type_layout.specs.Keys.{chosen, key_members, value_bytes}
use Rattle.type_layout.specs.Schemas.{given, members_at}
use Rattle.pss_machine.specs.declared.command.Rest.{Rest}
use Rattle.pss_machine.specs.declared.reply.Reply.{Reply}
use Rattle.pss_machine.specs.declared.reply.Reply.TheVariants as reply
use Rattle.pss_machine.specs.Operations.{FindKey, FindShort, Exists, Get, Follow, PlainOp, Create, Set, Destroy, Ask}
use Rattle.pss_machine.specs.Homes.{home_of, member_at}
use Rattle.pss_machine.specs.Names.{home_named, key_named, factory_named, member_named}
use Rattle.pss_machine.specs.Values.{values_in, types_of, made_of}
use Rattle.pss_machine.specs.Sessions.{Session, is_read_only}
use Rattle.pss_machine.specs.Copies.{Entry, Copies, entry_numbered}

-- an operation, the entry that the command names, and whether the session obtains the object that is found
pub record Asked : Type 0 where
  pub op : PlainOp
  pub entry : Option ℕ
  pub obtains : Bool

-- the object that is found is obtained
abbrev pub obtaining : PlainOp → Asked
obtaining op = record { op = op; entry = None; obtains = true }

abbrev pub only : PlainOp → Asked
only op = record { op = op; entry = None; obtains = false }

-- a named entry is attached where the operation succeeds
abbrev pub by_entry : ℕ → PlainOp → Asked
by_entry n op = record { op = op; entry = Some n; obtains = false }

infixl 10 ◌>>=◌
-- what goes on where nothing was refused
abbrev pub ◌>>=◌ : {A B : Type 0} → Result A Reply → (A → Result B Reply) → Result B Reply
(Ok x) >>= next = next x
(Err refusal) >>= next = Err refusal

abbrev pub refused_where : {A : Type 0} → Bool → Reply → Result A Reply → Result A Reply
refused_where condition refusal next = if condition then Err refusal else next

-- the values of a line, or the column at fault
abbrev pub read_values : List PlainType → Rest → Result (List PlainValue) Reply
read_values types rest = by_result (values_in types rest)
  where
    by_result : Result (List PlainValue) ℕ → Result (List PlainValue) Reply
    by_result (Ok vs) = Ok vs
    by_result (Err column) = Err (reply.BadValue column)

abbrev pub read_home : Schema → List ℕ → Result HomeNo Reply
read_home S word = ok_or (home_named S word) reply.NoHome

abbrev pub read_entry : Copies → ℕ → Result Entry Reply
read_entry copies n = ok_or (entry_numbered copies n) reply.NoEntry

-- a member by its number
pub record Place : Type 0 where
  pub number : ℕ
  pub member : PlainMember

-- the member of a name in an object's home
abbrev pub read_member : Schema → Pid → List ℕ → Result Place Reply
read_member S pid word =
    ok_or (given (member_named S (home_of pid) word) None (λ i. given (member_at S (home_of pid) i) None (λ member. Some (record { number = i; member = member })))) reply.NoMember

-- the session may change objects
abbrev pub as_writer : {A : Type 0} → Session → Result A Reply → Result A Reply
as_writer session next = refused_where (is_read_only session) reply.ReadOnly next

abbrev pub is_reference : PlainType → Bool
is_reference (RefTo homes) = true
is_reference _ = false

-- ---- the commands

abbrev pub creating : Schema → ℕ → Session → List ℕ → Rest → Result Asked Reply
creating S next session home rest =
    read_home S home
    >>= λ h. read_values (types_of (members_at S h)) rest
    >>= λ vs. as_writer session (Ok (obtaining (Create next (record { home = h; values = vs }))))

abbrev pub making : Schema → ℕ → Session → List ℕ → List ℕ → Rest → Result Asked Reply
making S next session home factory rest =
    read_home S home
    >>= λ h. ok_or (factory_named S h factory) reply.NoFactory
    >>= λ f. read_values (types_of (chosen (members_at S h) f.members)) rest
    >>= λ vs. as_writer session (Ok (obtaining (Create next (record { home = h; values = made_of (members_at S h) f.members vs }))))

abbrev pub finding : Schema → List ℕ → List ℕ → Rest → Result PlainOp Reply
finding S home key rest =
    read_home S home
    >>= λ h. ok_or (key_named S h key) reply.NoKey
    >>= λ k. read_values (types_of (key_members S k)) rest
    >>= λ vs. Ok (Ask (FindKey h k (value_bytes S k vs)))

abbrev pub shortening : Schema → List ℕ → ℕ → Result Asked Reply
shortening S home serial = read_home S home >>= λ h. Ok (obtaining (Ask (FindShort h serial)))

abbrev pub asking_whether : Copies → ℕ → Result Asked Reply
asking_whether copies n = read_entry copies n >>= λ e. Ok (only (Ask (Exists e.pid)))

abbrev pub getting : Schema → Copies → ℕ → List ℕ → Result Asked Reply
getting S copies n word = read_entry copies n >>= λ e. read_member S e.pid word >>= λ place. Ok (by_entry n (Ask (Get e.pid place.number)))

-- the value of one member
abbrev pub read_value : PlainMember → Rest → Result PlainValue Reply
read_value member rest = read_values (member.type ∷ []) rest >>= λ vs. Ok (slice_index_or vs 0 (Ref None))

abbrev pub setting : Schema → Session → Copies → ℕ → List ℕ → Rest → Result Asked Reply
setting S session copies n word rest =
    read_entry copies n
    >>= λ e. read_member S e.pid word
    >>= λ place. read_value place.member rest
    >>= λ v. as_writer session (refused_where place.member.readonly reply.ReadOnly (Ok (by_entry n (Set e.pid place.number v))))

abbrev pub destroying : Session → Copies → ℕ → Result Asked Reply
destroying session copies n = read_entry copies n >>= λ e. as_writer session (Ok (only (Destroy e.pid)))

abbrev pub following : Schema → Copies → ℕ → List ℕ → Result Asked Reply
following S copies n word =
    read_entry copies n
    >>= λ e. read_member S e.pid word
    >>= λ place. if is_reference place.member.type then Ok (record { op = Ask (Follow e.pid place.number); entry = Some n; obtains = true }) else Err reply.NotRef

abbrev pub asking_of_home : Schema → List ℕ → (HomeNo → PlainOp) → Result Asked Reply
asking_of_home S home op = read_home S home >>= λ h. Ok (only (op h))
