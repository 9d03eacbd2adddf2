-- What commands come to where what they look up is there.
use Rattle.std.proofs.Common.{◌≡◌, ℕ, Bool, true, false, cond, List, [], ◌∷◌, Option, Some, None, refl, sym, ap, ◌∙◌}
use Rattle.std.specs.Prelude.{nat_le, Result, Ok, if◌then◌else◌}
use Rattle.std.specs.List.{list_any}
use Rattle.std.specs.Ordering.{eq_by_cmp, is_eq}
use Rattle.std.specs.Cmp.{tied_itself}
use Rattle.std.specs.FinSet as set
use Rattle.std.specs.FinSet.{contains-items, contains-empty}
use Rattle.std.specs.FinMap.{get, len}
use Rattle.pss_base.specs.declared.owner.OwnerNo.{OwnerNo}
use Rattle.pss_base.specs.declared.session.SessionNo.{SessionNo}
use Rattle.type_layout.specs.declared.schema.Schema.{Schema}
use Rattle.type_layout.specs.Schemas.{given}
use Rattle.pss_machine.specs.declared.limits.Limits.{Limits}
use Rattle.pss_machine.specs.declared.session.Access.{Access}
use Rattle.pss_machine.specs.declared.session.Association.TheVariants.{NoTransaction, Active}
use Rattle.pss_machine.specs.declared.session.Kind.TheVariants as kind
use Rattle.pss_machine.specs.declared.command.Rest.{Rest}
use Rattle.pss_machine.specs.declared.command.Command.TheVariants as command
use Rattle.pss_machine.specs.declared.reply.Reply.{Reply}
use Rattle.pss_machine.specs.declared.reply.Reply.TheVariants as reply
use Rattle.pss_machine.specs.Operations.{Count, Ask}
use Rattle.pss_machine.specs.declared.lock.Need.{Need}
use Rattle.pss_machine.specs.Needs.{clash, need_cmp, hold_up}
use Rattle.pss_machine.proofs.NeedSets.{need_total}
use Rattle.pss_laws.proofs.Logic.{unlike, or_no_left}
use Rattle.pss_machine.specs.Owners.{Owner, blocker, Step}
use Rattle.pss_machine.specs.Sessions.{Session, session_named, first_open}
use Rattle.pss_machine.specs.Kept.{Kept, transaction_named, transaction_count, is_in_use, copies_of, Actor, actor_in}
use Rattle.pss_machine.specs.Asking.{Asked, creating, asking_of_home, ◌>>=◌}
use Rattle.pss_machine.specs.Effects.{Effect, OpensBasic, OpensTransactional, Begins, Associates, Ends, Steps, Commits, Flushes, RollsBack, Decision, does, says}
use Rattle.pss_machine.specs.Stepping.{within, step_of, reply_to, unless_busy, decided, data_command}
use Rattle.pss_machine.specs.Deciding.{access_of, level_of, in_session, for_transaction, starting, ending, is_over_full, unless_full, is_marked, committing, flushing, decision}

-- what goes on where a thing is there
there : {A B : Type 0} (o : Option A) (x : A) (other : B) (f : A → B) → o ≡ Some x → given o other f ≡ f x
there o x other f is = ap (λ (o : Option _). given o other f) is

not_there : {A B : Type 0} (o : Option A) (other : B) (f : A → B) → o ≡ None → given o other f ≡ other
not_there o other f is = ap (λ (o : Option _). given o other f) is

-- neither of two refusals holds
neither : {A : Type 0} (a b : Bool) (x y z : A) → a ≡ false → b ≡ false → cond a x (cond b y z) ≡ z
neither a b x y z p q = ap (λ (c : Bool). cond c x (cond b y z)) p ∙ ap (λ (c : Bool). cond c y z) q

-- what an owner asks for and is granted
pub record Granted (S : Schema) (limits : Limits) (k : Kept) (s : SessionNo) (session : Session) (wanted : Result Asked Reply) (actor : Actor) (asked : Asked) (step : Step) : Type 0 where
  pub acts : actor_in k.owners session ≡ Some actor
  pub limited : (wanted >>= within limits k.next actor.owner (copies_of k s)) ≡ Ok asked
  pub taken : step_of S k.catalog actor.owner (copies_of k s) asked ≡ step
  pub free : blocker k.owners actor.number step.needs ≡ None

module _ (S : Schema) (limits : Limits) (k : Kept) where
  pub opened : (name : List ℕ) (tx write : Bool) → is_in_use k name ≡ false → nat_le limits.sessions (len k.sessions) ≡ false
      → (decision S limits k (command.OpenSession name tx write)).effect ≡ (if tx then OpensTransactional name (access_of write) else OpensBasic name (access_of write))
  opened name tx write unused few =
      ap (λ (d : Decision). d.effect)
      (neither (is_in_use k name) (nat_le limits.sessions (len k.sessions)) (says reply.Exists) (says reply.Sessions) (does (if tx then OpensTransactional name (access_of write) else OpensBasic name (access_of write)) reply.Done) unused few)

  pub begun : (name : List ℕ) (serializable : Bool) → is_in_use k name ≡ false → nat_le limits.transactions (transaction_count k) ≡ false
      → (decision S limits k (command.Begin name serializable)).effect ≡ Begins name (level_of serializable)
  begun name serializable unused few =
      ap (λ (d : Decision). d.effect)
      (neither (is_in_use k name) (nat_le limits.transactions (transaction_count k)) (says reply.Exists) (says reply.Transactions) (does (Begins name (level_of serializable)) reply.Done) unused few)

  -- the session of a name, by its number
  in_it : (name : List ℕ) (s : ℕ) (session : Session) (f : SessionNo → Session → Decision) → session_named k.sessions name ≡ Some (s, session) → in_session k name f ≡ f (record { 0 = s }) session
  in_it name s session f is = there (session_named k.sessions name) (s, session) (says reply.NoSession) (λ e. f (record { 0 = e.0 }) e.1) is

  pub started : (name t called : List ℕ) (s : ℕ) (access : Access) (n : OwnerNo) → session_named k.sessions name ≡ Some (s, record { name = called; kind = kind.Transactional; access = access; association = NoTransaction })
      → transaction_named k t ≡ Some n → (decision S limits k (command.Start name t)).effect ≡ Associates (record { 0 = s }) (Active n)
  started name t called s access n named begun =
      let session : Session = record { name = called; kind = kind.Transactional; access = access; association = NoTransaction } in
      ap (λ (d : Decision). d.effect)
      (in_it name s session (λ s session. for_transaction k t (starting k s session)) named
      ∙ there (transaction_named k t) n (says reply.NoTransaction) (starting k (record { 0 = s }) session) begun)

  pub ended : (name called : List ℕ) (s : ℕ) (access : Access) (n : OwnerNo) → session_named k.sessions name ≡ Some (s, record { name = called; kind = kind.Transactional; access = access; association = Active n })
      → (decision S limits k (command.End name true)).effect ≡ Ends (record { 0 = s }) n false
  ended name called s access n named =
      let session : Session = record { name = called; kind = kind.Transactional; access = access; association = Active n } in
      ap (λ (d : Decision). d.effect) (in_it name s session (λ s session. ending s session true) named)

  stepped : (s : SessionNo) (session : Session) (wanted : Result Asked Reply) (actor : Actor) (asked : Asked) (step : Step) → Granted S limits k s session wanted actor asked step
      → (data_command S limits k s session wanted).effect ≡ Steps actor.number s step asked
  stepped s session wanted actor asked step granted =
      ap (λ (d : Decision). d.effect)
      (there (actor_in k.owners session) actor (says reply.NoTx) (λ actor. decided S k s actor (wanted >>= within limits k.next actor.owner (copies_of k s))) granted.acts
      ∙ ap (decided S k s actor) granted.limited
      ∙ ap (unless_busy S k s actor.number asked) granted.taken
      ∙ not_there (blocker k.owners actor.number step.needs) (does (Steps actor.number s step asked) (reply_to S k (copies_of k s) asked step.answer)) _ granted.free)

  pub created : (name home : List ℕ) (values : Rest) (s : ℕ) (session : Session) (actor : Actor) (asked : Asked) (step : Step) → session_named k.sessions name ≡ Some (s, session)
      → Granted S limits k (record { 0 = s }) session (creating S k.next session home values) actor asked step → (decision S limits k (command.Create name home values)).effect ≡ Steps actor.number (record { 0 = s }) step asked
  created name home values s session actor asked step named granted =
      ap (λ (d : Decision). d.effect) (in_it name s session (λ s session. data_command S limits k s session (creating S k.next session home values)) named)
      ∙ stepped (record { 0 = s }) session (creating S k.next session home values) actor asked step granted

  pub counted : (name home : List ℕ) (s : ℕ) (session : Session) (actor : Actor) (asked : Asked) (step : Step) → session_named k.sessions name ≡ Some (s, session)
      → Granted S limits k (record { 0 = s }) session (asking_of_home S home (λ h. Ask (Count h))) actor asked step → (decision S limits k (command.Count name home)).effect ≡ Steps actor.number (record { 0 = s }) step asked
  counted name home s session actor asked step named granted =
      ap (λ (d : Decision). d.effect) (in_it name s session (λ s session. data_command S limits k s session (asking_of_home S home (λ h. Ask (Count h)))) named)
      ∙ stepped (record { 0 = s }) session (asking_of_home S home (λ h. Ask (Count h))) actor asked step granted

  -- an owner that is there, and has room
  has_room : (n : OwnerNo) (owner : Owner) (effect : Effect) → get k.owners n.0 ≡ Some owner → is_over_full S limits k.catalog owner ≡ false → unless_full S limits k n effect ≡ does effect reply.Done
  has_room n owner effect is room =
      there (get k.owners n.0) owner (says reply.Done) (λ owner. if is_over_full S limits k.catalog owner then says reply.Full else does effect reply.Done) is
      ∙ ap (λ (b : Bool). if b then says reply.Full else does effect reply.Done) room

  pub committed : (t : List ℕ) (n : OwnerNo) (owner : Owner) → transaction_named k t ≡ Some n → first_open k.sessions n ≡ None → is_marked k n ≡ false → get k.owners n.0 ≡ Some owner → is_over_full S limits k.catalog owner ≡ false
      → (decision S limits k (command.Commit t)).effect ≡ Commits n
  committed t n owner named none unmarked is room =
      ap (λ (d : Decision). d.effect)
      (there (transaction_named k t) n (says reply.NoTransaction) (committing S limits k) named
      ∙ not_there (first_open k.sessions n) _ (λ session. says (reply.StillOpen session.name)) none
      ∙ ap (λ (b : Bool). if b then does (RollsBack n) reply.RolledBack else unless_full S limits k n (Commits n)) unmarked
      ∙ has_room n owner (Commits n) is room)

  pub flushed : (name called : List ℕ) (s : ℕ) (access : Access) (n : OwnerNo) (owner : Owner) → session_named k.sessions name ≡ Some (s, record { name = called; kind = kind.Basic n; access = access; association = NoTransaction })
      → get k.owners n.0 ≡ Some owner → is_over_full S limits k.catalog owner ≡ false → (decision S limits k (command.Flush name)).effect ≡ Flushes n
  flushed name called s access n owner named is room =
      let session : Session = record { name = called; kind = kind.Basic n; access = access; association = NoTransaction } in
      ap (λ (d : Decision). d.effect) (in_it name s session (λ s session. flushing S limits k session) named ∙ has_room n owner (Flushes n) is room)

-- nothing is held up by an owner that has locked nothing
pub nothing_held : (wanted : List Need) → hold_up set.empty wanted ≡ false
nothing_held wanted = by_items (set.items set.empty) (λ x. sym (contains-items set.empty x) ∙ contains-empty need_cmp x)
  where
    by_items : (xs : List Need) → ((x : Need) → list_any (eq_by_cmp need_cmp x) xs ≡ false) → list_any (λ x. list_any (clash x) wanted) xs ≡ false
    by_items [] none = refl
    by_items (x ∷ xs) none = unlike (sym (or_no_left (eq_by_cmp need_cmp x x) (list_any (eq_by_cmp need_cmp x) xs) (none x)) ∙ ap is_eq (tied_itself need_total x))
