-- What commands come to at the limits of the program.
use Rattle.std.proofs.Common.{◌≡◌, ℕ, ◌-◌, ◌==◌, Bool, true, false, not, ◌&&◌, List, length, Some, None, refl, ap, ◌∙◌}
use Rattle.std.specs.Prelude.{Result, Ok, Err, is_some, nat_le, nat_lt, ◌^◌, if◌then◌else◌}
use Rattle.std.specs.FinMap.{get, len}
use Rattle.pss_base.specs.declared.owner.OwnerNo.{OwnerNo}
use Rattle.pss_base.specs.declared.session.SessionNo.{SessionNo}
use Rattle.type_layout.specs.declared.schema.Schema.{Schema}
use Rattle.type_layout.specs.Schemas.{given}
use Rattle.pss_catalog.specs.Catalog.{total}
use Rattle.pss_catalog.specs.Changes.{over}
use Rattle.pss_machine.specs.declared.limits.Limits.{Limits}
use Rattle.pss_machine.specs.declared.session.Kind.{Kind}
use Rattle.pss_machine.specs.declared.session.Kind.TheVariants.{Basic}
use Rattle.pss_machine.specs.declared.command.Command.{Command}
use Rattle.pss_machine.specs.declared.command.Command.TheVariants as command
use Rattle.pss_machine.specs.declared.reply.Reply.{Reply}
use Rattle.pss_machine.specs.declared.reply.Reply.TheVariants as reply
use Rattle.pss_machine.specs.Limits.{standard}
use Rattle.pss_machine.specs.Operations.{FindPid, Count, ListOf, PlainOp, Create, Set, Destroy, Ask}
use Rattle.pss_machine.specs.Commands.{data_session}
use Rattle.pss_machine.specs.Owners.{Owner, net}
use Rattle.pss_machine.specs.Sessions.{Session, session_named, first_open}
use Rattle.pss_machine.specs.Kept.{Kept, Actor, copies_of, transaction_named}
use Rattle.pss_machine.specs.Asking.{Asked, refused_where, obtaining, only, creating, making, finding, shortening, asking_whether, getting, setting, destroying, following, asking_of_home, ◌>>=◌}
use Rattle.pss_machine.specs.Effects.{Effect, Commits, Flushes, RollsBack, does, says}
use Rattle.pss_machine.specs.Stepping.{changes_further, is_create, within, decided, data_command}
use Rattle.pss_machine.specs.Deciding.{in_session, is_marked, unless_full, committing, flushing, decision}
use Rattle.pss_machine.specs.AtLimits.{asks_for, IsAsked, BelowAllLimits, ManyAt256, serial_to_change, NoFurtherAt256, AgainAt256, SerialsAtLast, EntriesAt65535, CommitsAt67108864, FullAt67108865, FlushesAt67108864, FlushFullAt67108865}
use Rattle.pss_machine.proofs.Logic.{none_some, same_some}

-- ---- data commands

module _ (S : Schema) (limits : Limits) (k : Kept) (s : SessionNo) (session : Session) (r : Result Asked Reply) (name : List ℕ) (named : session_named k.sessions name ≡ Some (s.0, session)) where
  in_is : (word : List ℕ) (asked : SessionNo → Session → Result Asked Reply) → Some word ≡ Some name → Some (asked s session) ≡ Some r
      → in_session k word (λ s session. data_command S limits k s session (asked s session)) ≡ data_command S limits k s session r
  in_is word asked same words =
      ap (λ o. given o (says reply.NoSession) (λ e. data_command S limits k (record { 0 = e.0 }) e.1 (asked (record { 0 = e.0 }) e.1))) (ap (session_named k.sessions) (same_some same) ∙ named)
      ∙ ap (data_command S limits k s session) (same_some words)

  pub decision_asks : (command : Command) → data_session command ≡ Some name → asks_for S k s session command ≡ Some r → decision S limits k command ≡ data_command S limits k s session r
  decision_asks (command.Create word home values) = in_is word (λ s session. creating S k.next session home values)
  decision_asks (command.Make word home factory values) = in_is word (λ s session. making S k.next session home factory values)
  decision_asks (command.Find word home key values) = in_is word (λ s session. finding S home key values >>= λ op. Ok (obtaining op))
  decision_asks (command.FindRef word home key values) = in_is word (λ s session. finding S home key values >>= λ op. Ok (only op))
  decision_asks (command.Pid word pid) = in_is word (λ s session. Ok (obtaining (Ask (FindPid pid))))
  decision_asks (command.Short word home serial) = in_is word (λ s session. shortening S home serial)
  decision_asks (command.Exists word n) = in_is word (λ s session. asking_whether (copies_of k s) n)
  decision_asks (command.Get word n member) = in_is word (λ s session. getting S (copies_of k s) n member)
  decision_asks (command.Set word n member value) = in_is word (λ s session. setting S session (copies_of k s) n member value)
  decision_asks (command.Destroy word n) = in_is word (λ s session. destroying session (copies_of k s) n)
  decision_asks (command.Follow word n member) = in_is word (λ s session. following S (copies_of k s) n member)
  decision_asks (command.Count word home) = in_is word (λ s session. asking_of_home S home (λ h. Ask (Count h)))
  decision_asks (command.List word home) = in_is word (λ s session. asking_of_home S home (λ h. Ask (ListOf h)))
  decision_asks command = λ word words. absurd (none_some word)

-- what was asked goes on within the limits
asked_is : (S : Schema) (k : Kept) (command : Command) (s : SessionNo) (actor : Actor) (asked : Asked) → IsAsked S k command s actor asked
    → decision S standard k command ≡ decided S k s actor (within standard k.next actor.owner (copies_of k s) asked)
asked_is S k command s actor asked is =
    decision_asks S standard k s is.session (Ok asked) is.name is.named command is.in_session is.words
    ∙ ap (λ o. given o (says reply.NoTx) (λ actor. decided S k s actor (within standard k.next actor.owner (copies_of k s) asked))) is.acts

-- the limits by numbers alone
abbrev table : Bool → ℕ → Bool → ℕ → Bool → ℕ → Asked → Result Asked Reply
table further changed creates next obtains entries asked =
    refused_where (further && nat_le 256 changed) reply.Many (refused_where (creates && next == 2 ^ 64 - 1) reply.Serials (refused_where (obtains && nat_le 65535 entries) reply.Entries (Ok asked)))

below_all : (further creates obtains : Bool) (asked : Asked) → table further 255 creates 18446744073709551614 obtains 65534 asked ≡ Ok asked
below_all true true true asked = refl
below_all true true false asked = refl
below_all true false true asked = refl
below_all true false false asked = refl
below_all false true true asked = refl
below_all false true false asked = refl
below_all false false true asked = refl
below_all false false false asked = refl

at_serials : (further obtains : Bool) (entries : ℕ) (asked : Asked) → table further 255 true 18446744073709551615 obtains entries asked ≡ Err reply.Serials
at_serials true obtains entries asked = refl
at_serials false obtains entries asked = refl

at_entries : (further creates : Bool) (asked : Asked) → table further 255 creates 18446744073709551614 true 65535 asked ≡ Err reply.Entries
at_entries true true asked = refl
at_entries true false asked = refl
at_entries false true asked = refl
at_entries false false asked = refl

pub below_limits : BelowAllLimits
below_limits S k command s actor asked is changed next entries =
    asked_is S k command s actor asked is
    ∙ ap (decided S k s actor) ((λ i. table (changes_further actor.owner asked.op) (changed i) (is_create asked.op) (next i) asked.obtains (entries i) asked) ∙ below_all (changes_further actor.owner asked.op) (is_create asked.op) asked.obtains asked)

pub many_at : ManyAt256
many_at S k command s actor asked is further changed =
    asked_is S k command s actor asked is
    ∙ ap (decided S k s actor) (λ i. table (further i) (changed i) (is_create asked.op) k.next asked.obtains (length (copies_of k s).entries) asked)

-- by whether its owner has changed the object
further_is : (owner : Owner) (op : PlainOp) (serial : ℕ) → serial_to_change op ≡ Some serial → changes_further owner op ≡ not (is_some (get owner.changes serial))
further_is owner (Create n object) serial e = ap (λ n. not (is_some (get owner.changes n))) (same_some e)
further_is owner (Set p member value) serial e = ap (λ n. not (is_some (get owner.changes n))) (same_some e)
further_is owner (Destroy p) serial e = ap (λ n. not (is_some (get owner.changes n))) (same_some e)
further_is owner (Ask question) serial e = absurd (none_some e)

pub no_further_at : NoFurtherAt256
no_further_at S k command s actor asked is serial changes unchanged changed =
    many_at S k command s actor asked is (further_is actor.owner asked.op serial changes ∙ ap (λ o. not (is_some o)) unchanged) changed

again_all : (changed : ℕ) (creates obtains : Bool) (asked : Asked) → table false changed creates 18446744073709551614 obtains 65534 asked ≡ Ok asked
again_all changed true true asked = refl
again_all changed true false asked = refl
again_all changed false true asked = refl
again_all changed false false asked = refl

pub again_at : AgainAt256
again_at S k command s actor asked is serial changes has next entries =
    asked_is S k command s actor asked is
    ∙ ap (decided S k s actor)
    ((λ i. table (again i) (len actor.owner.changes) (is_create asked.op) (next i) asked.obtains (entries i) asked) ∙ again_all (len actor.owner.changes) (is_create asked.op) asked.obtains asked)
  where
    again : changes_further actor.owner asked.op ≡ false
    again = further_is actor.owner asked.op serial changes ∙ ap not has

pub serials_at : SerialsAtLast
serials_at S k command s actor asked is creates changed next =
    asked_is S k command s actor asked is
    ∙ ap (decided S k s actor) ((λ i. table (changes_further actor.owner asked.op) (changed i) (creates i) (next i) asked.obtains (length (copies_of k s).entries) asked) ∙ at_serials (changes_further actor.owner asked.op) asked.obtains (length (copies_of k s).entries) asked)

pub entries_at : EntriesAt65535
entries_at S k command s actor asked is obtains changed next entries =
    asked_is S k command s actor asked is
    ∙ ap (decided S k s actor) ((λ i. table (changes_further actor.owner asked.op) (changed i) (is_create asked.op) (next i) (obtains i) (entries i) asked) ∙ at_entries (changes_further actor.owner asked.op) (is_create asked.op) asked)

-- ---- commits

-- by the octets that the objects would take
full_is : (S : Schema) (k : Kept) (n : OwnerNo) (owner : Owner) (effect : Effect) (octets : ℕ) → get k.owners n.0 ≡ Some owner → total S (over k.catalog (net k.catalog owner)) ≡ octets
    → unless_full S standard k n effect ≡ (if nat_lt 67108864 octets then says reply.Full else does effect reply.Done)
full_is S k n owner effect octets there is =
    ap (λ o. given o (says reply.Done) (λ owner. if nat_lt 67108864 (total S (over k.catalog (net k.catalog owner))) then says reply.Full else does effect reply.Done)) there
    ∙ ap (λ octets. if nat_lt 67108864 octets then says reply.Full else does effect reply.Done) is

commit_is : (S : Schema) (k : Kept) (t : List ℕ) (n : OwnerNo) → transaction_named k t ≡ Some n → first_open k.sessions n ≡ None → is_marked k n ≡ false → decision S standard k (command.Commit t) ≡ unless_full S standard k n (Commits n)
commit_is S k t n named none unmarked =
    ap (λ o. given o (says reply.NoTransaction) (committing S standard k)) named
    ∙ ap (λ o. given o (if is_marked k n then does (RollsBack n) reply.RolledBack else unless_full S standard k n (Commits n)) (λ session. says (reply.StillOpen session.name))) none
    ∙ ap (λ b. if b then does (RollsBack n) reply.RolledBack else unless_full S standard k n (Commits n)) unmarked

flush_is : (S : Schema) (k : Kept) (name : List ℕ) (s : SessionNo) (session : Session) (n : OwnerNo) → session_named k.sessions name ≡ Some (s.0, session) → session.kind ≡ Basic n → decision S standard k (command.Flush name) ≡ unless_full S standard k n (Flushes n)
flush_is S k name s session n named kind =
    ap (λ o. given o (says reply.NoSession) (λ e. flushing S standard k e.1)) named
    ∙ ap (λ (x : Kind). flushing S standard k (record { name = session.name; kind = x; access = session.access; association = session.association })) kind

pub commits_at : CommitsAt67108864
commits_at S k t n owner named none unmarked there octets = commit_is S k t n named none unmarked ∙ full_is S k n owner (Commits n) 67108864 there octets

pub full_at : FullAt67108865
full_at S k t n owner named none unmarked there octets = commit_is S k t n named none unmarked ∙ full_is S k n owner (Commits n) 67108865 there octets

pub flushes_at : FlushesAt67108864
flushes_at S k name s session n owner named kind there octets = flush_is S k name s session n named kind ∙ full_is S k n owner (Flushes n) 67108864 there octets

pub flush_full_at : FlushFullAt67108865
flush_full_at S k name s session n owner named kind there octets = flush_is S k name s session n named kind ∙ full_is S k n owner (Flushes n) 67108865 there octets
