-- Commits that are made ready for what a machine keeps.
use Rattle.std.proofs.Common.{◌≡◌, ◌<◌, List, map, Option, Some, None, Bool, true, false, refl, sym, ap, ◌∙◌, subst}
use Rattle.std.specs.Prelude.{◌↔◌, not, nat_lt, IfSome}
use Rattle.std.specs.Option.{option_map}
use Rattle.std.specs.FinMap.{get}
use Rattle.std.proofs.lemmas.Bool.{lt-ltb, ltb-true}
use Rattle.pss_base.specs.declared.owner.OwnerNo.{OwnerNo}
use Rattle.pss_base.specs.declared.session.SessionNo.{SessionNo}
use Rattle.type_layout.specs.declared.schema.Schema.{Schema}
use Rattle.type_layout.specs.Schemas.{given}
use Rattle.pss_catalog.specs.Catalog.{total}
use Rattle.pss_catalog.specs.Changes.{over}
use Rattle.storage_home.specs.declared.change.Change.{Change}
use Rattle.pss_machine.specs.Owners.{Owner, net}
use Rattle.pss_machine.specs.Kept.{Kept, Title}
use Rattle.pss_machine.specs.Sessions.{first_open}
use Rattle.pss_machine.proofs.Logic.{none_some}
use Rattle.pss_session.specs.Meaning.{Meaning}
use Rattle.pss_session.specs.Meaning as standing
use Rattle.pss_machine.specs.Deciding.{is_over_full, is_marked}
use Rattle.owner_titles.specs.declared.called.Called.{Called}
use Rattle.owner_titles.specs.Meaning.{Meaning as Titles, AreTitles, title_of}
use Rattle.owner_accounts.specs.declared.commits.Commit.{Commit}
use Rattle.owner_accounts.specs.Accounts.{AreAccounts}
use Rattle.owner_accounts.specs.Commits.{MayPrepare, IsPrepared}
use Rattle.pss_copies.specs.Settling.{AreOf, HasAmong}
use Rattle.connector_parts.specs.declared.parts.Parts.{Parts}
use Rattle.connector_parts.specs.Stands.{Stands, StayAs}
use Rattle.commit_calls.specs.declared.ready.Ready.{Ready}
use Rattle.commit_calls.specs.Ready.{pid_of, pids_in, own_in, MayMakeReady, IsReady}
use Rattle.commit_calls.specs.Commits.{IsCalled}
use Rattle.commit_calls.proofs.Pids.{pids_of_net}
use Rattle.commit_calls.proofs.Outcomes.{Opened, opened_is, none_opened}

-- ---- what is asked

abbrev pub may_prepare : (c : Parts) (n : OwnerNo) → MayMakeReady c n → MayPrepare c.schema c.accounts n c.limits.total
may_prepare c n m = record { by = record { limits = c.limits; kept = m.kept; reached = m.at.reached; are = m.at.stands.accounts; owner = m.owner; there = m.there }; limit_is = refl }

-- under the same schema
pub may_prepare_as : (c : Parts) (n : OwnerNo) (S : Schema) → S ≡ c.schema → MayMakeReady c n → MayPrepare S c.accounts n c.limits.total
may_prepare_as c n S same m = subst (λ T. MayPrepare T c.accounts n c.limits.total) (sym same) (may_prepare c n m)

-- ---- what is told

module _ (c : Parts) (n : OwnerNo) (S : Schema) (same : S ≡ c.schema) (m : MayMakeReady c n) where
  full_as : (A : Type 0) → ((p : MayPrepare S c.accounts n c.limits.total) → A ↔ (c.limits.total < total S (over p.by.kept.catalog (net p.by.kept.catalog p.by.owner)))) → A ↔ (c.limits.total < total c.schema (over m.kept.catalog (net m.kept.catalog m.owner)))
  full_as A h = subst (λ T. (p : MayPrepare T c.accounts n c.limits.total) → A ↔ (c.limits.total < total T (over p.by.kept.catalog (net p.by.kept.catalog p.by.owner)))) same h (may_prepare c n m)

  -- nothing was made ready
  pub is_full : (o : Option Commit) → o ≡ None → ((p : MayPrepare S c.accounts n c.limits.total) → (o ≡ None) ↔ (c.limits.total < total S (over p.by.kept.catalog (net p.by.kept.catalog p.by.owner)))) → false ≡ not (is_over_full c.schema c.limits m.kept.catalog m.owner)
  is_full o is h = sym (ap not (lt-ltb c.limits.total (total c.schema (over m.kept.catalog (net m.kept.catalog m.owner))) ((full_as (o ≡ None) h).0 is)))

  -- a commit was
  pub has_room : (o : Option Commit) (commit : Commit) → o ≡ Some commit → ((p : MayPrepare S c.accounts n c.limits.total) → (o ≡ None) ↔ (c.limits.total < total S (over p.by.kept.catalog (net p.by.kept.catalog p.by.owner)))) → true ≡ not (is_over_full c.schema c.limits m.kept.catalog m.owner)
  has_room o commit is h = by (nat_lt c.limits.total (total c.schema (over m.kept.catalog (net m.kept.catalog m.owner)))) refl
    where
      by : (b : Bool) → nat_lt c.limits.total (total c.schema (over m.kept.catalog (net m.kept.catalog m.owner))) ≡ b → true ≡ not b
      by false less = refl
      by true less = absurd (none_some (sym ((full_as (o ≡ None) h).1 (ltb-true c.limits.total (total c.schema (over m.kept.catalog (net m.kept.catalog m.owner))) less)) ∙ is))

  -- and its objects are these
  pub ready_as : (d : Parts) (ready : Ready) → d.schema ≡ c.schema → (o : Option Commit) → o ≡ Some ready.commit → IfSome o (λ commit. (p : MayPrepare S c.accounts n c.limits.total) → IsPrepared S d.accounts p.by.kept n commit) → AreAccounts c.schema d.accounts m.kept
      → (changes : List Change) → changes ≡ ready.commit.changes → pids_in ready.pids ≡ map pid_of changes → ((S : Schema) (k : Kept) (o : Owner) → AreAccounts S d.accounts k → get k.owners n.0 ≡ Some o → AreOf k.catalog (net k.catalog o) (map pid_of changes) → HasAmong o (own_in ready.pids)) → IsReady d m.kept n ready
  ready_as d ready stays o is h are changes they_are pids own =
      let prepared = subst (λ (q : Option Commit). IfSome q (λ commit. (p : MayPrepare S c.accounts n c.limits.total) → IsPrepared S d.accounts p.by.kept n commit)) is h in
      let p = subst (λ T. (p : MayPrepare T c.accounts n c.limits.total) → IsPrepared T d.accounts p.by.kept n ready.commit) same prepared (may_prepare c n m) in
      let of_net = subst (λ cs. AreOf m.kept.catalog (net m.kept.catalog p.owner) (map pid_of cs)) (sym they_are) (pids_of_net c.schema c.limits m.kept m.at.reached n p.owner p.there ready.commit.changes p.homes) in
      record {
        owner = p.owner;
        there = p.there;
        commit = subst (λ T. IsPrepared T d.accounts m.kept n ready.commit) (sym stays) p;
        pids = subst (AreOf m.kept.catalog (net m.kept.catalog p.owner)) (sym pids) of_net;
        own = own c.schema m.kept p.owner are p.there of_net;
      }

-- what was made ready
pub ready_of : (c d : Parts) (n : OwnerNo) (o : Option Ready) (ready : Ready) → o ≡ Some ready → IfSome o (λ (r : Ready). (m : MayMakeReady c n) → IsReady d m.kept n r) → (m : MayMakeReady c n) → IsReady d m.kept n ready
ready_of c d n o ready is h = subst (λ (q : Option Ready). IfSome q (λ (r : Ready). (m : MayMakeReady c n) → IsReady d m.kept n r)) is h

-- ---- titles

-- whether an owner is marked is told by its title
pub marked_told : (k : Kept) (titles : Titles) → AreTitles titles k → (n : OwnerNo) (o : Option Called) → o ≡ get titles.called n.0 → given o false (λ c. c.failed) ≡ is_marked k n
marked_told k titles are n o is = mapped o ∙ ap (λ (q : Option Called). given (option_map title_of q) false (λ t. t.failed)) is ∙ ap (λ (q : Option Title). given q false (λ t. t.failed)) (sym (are.titles n.0))
  where
    mapped : (q : Option Called) → given q false (λ c. c.failed) ≡ given (option_map title_of q) false (λ t. t.failed)
    mapped None = refl
    mapped (Some c) = refl

-- ---- what stays

pub stay_on : (a b c : Parts) → StayAs a b → StayAs b c → StayAs a c
stay_on a b c first second = record { schema = second.schema ∙ first.schema; limits = second.limits ∙ first.limits }

-- ---- sessions

-- a session that is first of those open is there
abbrev pub called_is : (c : Parts) (k : Kept) → Stands c k → (n : OwnerNo) (s : SessionNo) → Opened k n s → IsCalled c s
called_is c k stands n s opened = record { session = opened.session; there = ap (λ m. get m s.0) stands.attended.sessions ∙ opened.there }

-- as the sessions tell
pub opened_at : (c : Parts) (k : Kept) → Stands c k → (m : Meaning) → m ≡ c.attended.sessions → (n : OwnerNo) (s : SessionNo) → Some s ≡ standing.first_open m n → Opened k n s
opened_at c k stands m is n s first = opened_is m k n s (ap (λ (x : Meaning). x.sessions) is ∙ stands.attended.sessions) first

pub closed_at : (c : Parts) (k : Kept) → Stands c k → (m : Meaning) → m ≡ c.attended.sessions → (n : OwnerNo) → None ≡ standing.first_open m n → first_open k.sessions n ≡ None
closed_at c k stands m is n none = none_opened m k n (ap (λ (x : Meaning). x.sessions) is ∙ stands.attended.sessions) none
