-- What a data command comes to: by the limits, and by the locks of others.
use Rattle.std.proofs.Common.{◌≡◌, ℕ, ◌==◌, ◌&&◌, ◌-◌, ◌^◌, Bool, true, false, not, List, [], ◌∷◌, Option, Some, None, IsSome, refl, sym, ap, ◌∙◌}
use Rattle.std.specs.Prelude.{nat_le, length, find, unwrap_or, Result, Ok, Err, if◌then◌else◌}
use Rattle.std.specs.List.{list_any}
use Rattle.std.specs.Option.{option_map}
use Rattle.std.specs.FinMap.{get, len, entries}
use Rattle.std.specs.FinSet.{items}
use Rattle.pss_base.specs.declared.pid.Pid.{Pid}
use Rattle.pss_base.specs.declared.owner.OwnerNo.{OwnerNo}
use Rattle.pss_base.specs.declared.session.SessionNo.{SessionNo}
use Rattle.type_layout.specs.declared.schema.Schema.{Schema}
use Rattle.type_layout.specs.declared.home.HomeNo.{HomeNo}
use Rattle.type_layout.specs.declared.value.Value.{Value}
use Rattle.type_layout.specs.Types.{PlainValue}
use Rattle.type_layout.specs.Schemas.{given}
use Rattle.pss_machine.specs.declared.lock.Need.{Need}
use Rattle.pss_machine.specs.declared.limits.Limits.{Limits}
use Rattle.pss_machine.specs.declared.reply.Reply.{Reply}
use Rattle.pss_machine.specs.declared.reply.Reply.TheVariants as reply
use Rattle.pss_machine.specs.declared.operation.Op.{Op}
use Rattle.pss_machine.specs.declared.operation.Op.TheVariants as operation
use Rattle.pss_machine.specs.Operations.{PlainOp, Create, Set, Destroy, Ask, Busy, plain_op}
use Rattle.pss_machine.specs.Needs.{Locks, clash, hold_up}
use Rattle.pss_machine.specs.Owners.{Owner, Owners, blocker, has_changed}
use Rattle.pss_machine.specs.Sessions.{Session}
use Rattle.pss_machine.specs.Copies.{Copies, no_copies}
use Rattle.pss_machine.specs.Entries.{AreOrderly}
use Rattle.pss_machine.specs.Kept.{Kept, Actor, actor_in, copies_of, name_of}
use Rattle.pss_machine.specs.Asking.{Asked, ◌>>=◌, refused_where}
use Rattle.pss_machine.specs.Effects.{Steps, does, says}
use Rattle.pss_machine.specs.Stepping.{changes_further, is_create, within, step_of, reply_to, decided, data_command}
use Rattle.pss_machine.proofs.Logic.{none_some, same_some}
use Rattle.pss_copies.specs.Seats.{Attends}
use Rattle.connector_parts.specs.declared.parts.Parts.{Parts}
use Rattle.connector_parts.specs.Stands.{IsAt}
use Rattle.connector_parts.proofs.Bounds.{in_order_at}
use Rattle.data_calls.specs.Asking.{changed_in}

-- ---- the limits

module _ (limits : Limits) (next : ℕ) (owner : Owner) (copies : Copies) (asked : Asked) where
  pub within_is : (a b c : Bool) → (changes_further owner asked.op && nat_le limits.changes (len owner.changes)) ≡ a → (is_create asked.op && next == 2 ^ 64 - 1) ≡ b → (asked.obtains && nat_le limits.entries (length copies.entries)) ≡ c
      → within limits next owner copies asked ≡ refused_where a reply.Many (refused_where b reply.Serials (refused_where c reply.Entries (Ok asked)))
  within_is a b c first second third =
      ap (λ (t : Bool). refused_where t reply.Many (refused_where (is_create asked.op && next == 2 ^ 64 - 1) reply.Serials (refused_where (asked.obtains && nat_le limits.entries (length copies.entries)) reply.Entries (Ok asked)))) first
      ∙ ap (λ (t : Bool). refused_where a reply.Many (refused_where t reply.Serials (refused_where (asked.obtains && nat_le limits.entries (length copies.entries)) reply.Entries (Ok asked)))) second
      ∙ ap (λ (t : Bool). refused_where a reply.Many (refused_where b reply.Serials (refused_where t reply.Entries (Ok asked)))) third

  pub is_many : (changes_further owner asked.op && nat_le limits.changes (len owner.changes)) ≡ true → within limits next owner copies asked ≡ Err reply.Many
  is_many first = within_is true (is_create asked.op && next == 2 ^ 64 - 1) (asked.obtains && nat_le limits.entries (length copies.entries)) first refl refl

  pub is_last : (changes_further owner asked.op && nat_le limits.changes (len owner.changes)) ≡ false → (is_create asked.op && next == 2 ^ 64 - 1) ≡ true → within limits next owner copies asked ≡ Err reply.Serials
  is_last first second = within_is false true (asked.obtains && nat_le limits.entries (length copies.entries)) first second refl

  pub is_full : (changes_further owner asked.op && nat_le limits.changes (len owner.changes)) ≡ false → (is_create asked.op && next == 2 ^ 64 - 1) ≡ false → (asked.obtains && nat_le limits.entries (length copies.entries)) ≡ true
      → within limits next owner copies asked ≡ Err reply.Entries
  is_full first second third = within_is false false true first second third

  pub is_within : (changes_further owner asked.op && nat_le limits.changes (len owner.changes)) ≡ false → (is_create asked.op && next == 2 ^ 64 - 1) ≡ false → (asked.obtains && nat_le limits.entries (length copies.entries)) ≡ false
      → within limits next owner copies asked ≡ Ok asked
  is_within first second third = within_is false false false first second third

-- what it changes, by the serial of what it changes
pub further_some : (owner : Owner) (op : PlainOp) (serial : ℕ) → Some serial ≡ changed_in op → not (has_changed owner serial) ≡ changes_further owner op
further_some owner (Create n object) serial is = ap (λ (s : ℕ). not (has_changed owner s)) (same_some is)
further_some owner (Set p member value) serial is = ap (λ (s : ℕ). not (has_changed owner s)) (same_some is)
further_some owner (Destroy p) serial is = ap (λ (s : ℕ). not (has_changed owner s)) (same_some is)
further_some owner (Ask question) serial is = absurd (none_some (sym is))

pub further_none : (owner : Owner) (op : PlainOp) → None ≡ changed_in op → false ≡ changes_further owner op
further_none owner (Create n object) is = absurd (none_some is)
further_none owner (Set p member value) is = absurd (none_some is)
further_none owner (Destroy p) is = absurd (none_some is)
further_none owner (Ask question) is = refl

-- an operation of another kind changes no object
pub changed_none : (o : Op) → ((serial : ℕ) (home : HomeNo) (values : List PlainValue) → o ≡ operation.Create serial home values → ⊥) → ((p : Pid) (member : ℕ) (value : Value) → o ≡ operation.Set p member value → ⊥)
    → ((p : Pid) → o ≡ operation.Destroy p → ⊥) → None ≡ changed_in (plain_op o)
changed_none (operation.Create serial home values) creates sets destroys = absurd (creates serial home values refl)
changed_none (operation.FindKey home key bytes) creates sets destroys = refl
changed_none (operation.FindPid p) creates sets destroys = refl
changed_none (operation.FindShort home serial) creates sets destroys = refl
changed_none (operation.Exists p) creates sets destroys = refl
changed_none (operation.Get p member) creates sets destroys = refl
changed_none (operation.Set p member value) creates sets destroys = absurd (sets p member value refl)
changed_none (operation.Destroy p) creates sets destroys = absurd (destroys p refl)
changed_none (operation.Follow p member) creates sets destroys = refl
changed_none (operation.Count home) creates sets destroys = refl
changed_none (operation.List home) creates sets destroys = refl

-- the entries of a session that is there
pub entries_counted : (c : Parts) (k : Kept) → IsAt c k → (s : SessionNo) → IsSome (get k.copies s.0) → (n : ℕ)
    → ((j : Kept) (copies : Copies) → get j.copies s.0 ≡ Some copies → AreOrderly copies → Attends j c.attended → n ≡ length copies.entries) → n ≡ length (copies_of k s).entries
entries_counted c k at s there n counted = by (get k.copies s.0) refl there
  where
    by : (o : Option Copies) → get k.copies s.0 ≡ o → IsSome o → n ≡ length (copies_of k s).entries
    by None is some = absurd (cc)
    by (Some copies) is some = counted k copies is (in_order_at c k at s.0 copies is) at.stands.attended ∙ ap (λ (o : Option Copies). length (unwrap_or o no_copies).entries) (sym is)

-- ---- what it comes to

module _ (S : Schema) (limits : Limits) (k : Kept) (s : SessionNo) (session : Session) (n : OwnerNo) (owner : Owner) (acts : actor_in k.owners session ≡ Some (record { number = n; owner = owner })) where
  asked_of : (told : Result Asked Reply) → data_command S limits k s session told ≡ decided S k s (record { number = n; owner = owner }) (told >>= within limits k.next owner (copies_of k s))
  asked_of told = ap (λ o. given o (says reply.NoTx) (λ (actor : Actor). decided S k s actor (told >>= within limits k.next actor.owner (copies_of k s)))) acts

  -- the words ask nothing
  pub refused : (told : Result Asked Reply) (why : Reply) → told ≡ Err why → data_command S limits k s session told ≡ says why
  refused told why is = asked_of told ∙ ap (λ (t : Result Asked Reply). decided S k s (record { number = n; owner = owner }) (t >>= within limits k.next owner (copies_of k s))) is

  -- they ask too much
  pub beyond : (asked : Asked) (why : Reply) → within limits k.next owner (copies_of k s) asked ≡ Err why → data_command S limits k s session (Ok asked) ≡ says why
  beyond asked why is = asked_of (Ok asked) ∙ ap (decided S k s (record { number = n; owner = owner })) is

  module _ (asked : Asked) (limited : within limits k.next owner (copies_of k s) asked ≡ Ok asked) where
    may_step : data_command S limits k s session (Ok asked)
        ≡ given (blocker k.owners n (step_of S k.catalog owner (copies_of k s) asked).needs) (does (Steps n s (step_of S k.catalog owner (copies_of k s) asked) asked) (reply_to S k (copies_of k s) asked (step_of S k.catalog owner (copies_of k s) asked).answer))
        (λ b. says (reply_to S k (copies_of k s) asked (Busy b)))
    may_step = asked_of (Ok asked) ∙ ap (decided S k s (record { number = n; owner = owner })) limited

    -- another owner holds the step up
    pub held_up : (b : OwnerNo) → blocker k.owners n (step_of S k.catalog owner (copies_of k s) asked).needs ≡ Some b → data_command S limits k s session (Ok asked) ≡ says (reply.Busy (name_of k b))
    held_up b is =
        may_step
        ∙ ap (λ o. given o (does (Steps n s (step_of S k.catalog owner (copies_of k s) asked) asked) (reply_to S k (copies_of k s) asked (step_of S k.catalog owner (copies_of k s) asked).answer)) (λ b. says (reply_to S k (copies_of k s) asked (Busy b)))) is

    -- the step is taken
    pub is_taken : blocker k.owners n (step_of S k.catalog owner (copies_of k s) asked).needs ≡ None
        → data_command S limits k s session (Ok asked) ≡ does (Steps n s (step_of S k.catalog owner (copies_of k s) asked) asked) (reply_to S k (copies_of k s) asked (step_of S k.catalog owner (copies_of k s) asked).answer)
    is_taken is =
        may_step
        ∙ ap (λ o. given o (does (Steps n s (step_of S k.catalog owner (copies_of k s) asked) asked) (reply_to S k (copies_of k s) asked (step_of S k.catalog owner (copies_of k s) asked).answer)) (λ b. says (reply_to S k (copies_of k s) asked (Busy b)))) is

-- ---- nothing is needed

none_clash : (locks : List Need) → list_any (λ x. list_any (clash x) []) locks ≡ false
none_clash [] = refl
none_clash (x ∷ locks) = none_clash locks

-- who needs nothing is held up by nobody
pub free : (owners : Owners) (n : OwnerNo) → blocker owners n [] ≡ None
free owners n = ap (option_map {U = OwnerNo} (λ (e : ℕ × Owner). record { 0 = e.0 })) (none (entries owners))
  where
    neither : (b : Bool) (locks : Locks) → (not b && hold_up locks []) ≡ false
    neither true locks = refl
    neither false locks = none_clash (items locks)

    none : (es : List (ℕ × Owner)) → find (λ e. not (e.0 == n.0) && hold_up e.1.locks []) es ≡ None
    none [] = refl
    none (e ∷ es) = ap (λ (b : Bool). if b then Some e else find (λ e. not (e.0 == n.0) && hold_up e.1.locks []) es) (neither (e.0 == n.0) e.1.locks) ∙ none es
