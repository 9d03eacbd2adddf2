-- The objects of changes.
use Rattle.std.proofs.Common.{ℕ, ◌≡◌, ◌==◌, false, List, [], ◌∷◌, map, Option, Some, None, sym, ap, ◌∙◌}
use Rattle.std.specs.FinMap.{get}
use Rattle.std.proofs.lemmas.Bool.{eq-eqb}
use Rattle.pss_base.specs.declared.pid.Pid.{Pid}
use Rattle.pss_base.specs.declared.owner.OwnerNo.{OwnerNo}
use Rattle.type_layout.specs.declared.home.HomeNo.{HomeNo}
use Rattle.type_layout.specs.declared.schema.Schema.{Schema}
use Rattle.type_layout.specs.Schemas.{given}
use Rattle.pss_catalog.specs.Catalog.{Object, Catalog, IsGiven}
use Rattle.pss_catalog.specs.Changes.{Change as Step}
use Rattle.storage_home.specs.declared.change.Change.{Change}
use Rattle.pss_machine.specs.declared.limits.Limits.{Limits}
use Rattle.pss_machine.specs.Owners.{Owner, net}
use Rattle.pss_machine.specs.Kept.{Kept}
use Rattle.pss_laws.specs.Storable.{EachChange, MayBecome}
use Rattle.pss_laws.proofs.Storing.{net_each}
use Rattle.owner_view.specs.Net.{home_left, AreNet}
use Rattle.owner_accounts.specs.Reached.{IsReached}
use Rattle.owner_accounts.proofs.Runs.{fine_at, keeping_at}
use Rattle.owner_view.specs.States.{AreValued}
use Rattle.pss_copies.specs.Settling.{AreOf, HasAmong}
use Rattle.commit_calls.specs.Ready.{pid_of}

-- each is of the home in which its object was committed, and is where it does not go
of_changes : (S : Schema) (M : Catalog) (next : ℕ) (ds : List Step) (cs : List Change) → AreNet S M ds cs → EachChange (λ d. IsGiven next d.serial × MayBecome S next M d.serial d.state) ds → AreOf M ds (map pid_of cs)
of_changes S M next [] [] net each = tt
of_changes S M next [] (c ∷ cs) net each = absurd net
of_changes S M next (d ∷ ds) [] net each = absurd net
of_changes S M next (d ∷ ds) (c ∷ cs) net each = (net.0.serial, λ x there. by x there d.state each.0.1 ∙ sym net.0.home, λ x stays. sym (ap (λ o. home_left o (get M d.serial)) stays) ∙ sym net.0.home, of_changes S M next ds cs net.1 each.1)
  where
    by : (x : Object) → get M d.serial ≡ Some x → (o : Option Object) → MayBecome S next M d.serial o → x.home.0 ≡ home_left o (get M d.serial)
    by x there None may = sym (ap (home_left None) there)
    by x there (Some object) may = ap (λ (h : HomeNo). h.0) (may.1 x there)

-- so are the objects of an owner's net changes, where a run has come
pub pids_of_net : (S : Schema) (limits : Limits) (k : Kept) → IsReached S limits k → (n : OwnerNo) (owner : Owner) → get k.owners n.0 ≡ Some owner → (cs : List Change) → AreNet S k.catalog (net k.catalog owner) cs → AreOf k.catalog (net k.catalog owner) (map pid_of cs)
pids_of_net S limits k reached n owner there cs are =
    let fine = fine_at S limits k reached in
    of_changes S k.catalog k.next (net k.catalog owner) cs are (net_each S k.next k.catalog owner fine.catalog (fine.views n.0 owner there) ((keeping_at S limits k reached).homes n.0 owner there))

-- each object to which changes give a value is among those that have one
pub valued_among : (owner : Owner) (pids : List Pid) → AreValued owner.changes pids → HasAmong owner pids
valued_among owner pids are pid x gave of = are.all pid ∙ ap (λ state. given state false (λ s. given s false (λ (y : Object). y.home.0 == pid.home))) gave ∙ eq-eqb x.home.0 pid.home of
