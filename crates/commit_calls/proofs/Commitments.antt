-- What commits and flushes leave stored, as the machine has it.
use Rattle.std.proofs.Common.{ℕ, suc, ◌≡◌, inl, inr, ◌<◌, ◌≤◌, Bool, true, false, List, [], ◌∷◌, map, length, Option, Some, None, IfSome, refl, sym, ap, ◌∙◌, subst, arith}
use Rattle.std.specs.Prelude.{not, nat_lt, Result, Ok, Err, IfErr}
use Rattle.std.specs.FinMap.{get}
use Rattle.std.specs.List.{AllByRecursion}
use Rattle.std.proofs.lemmas.Bool.{lt-ltb}
use Rattle.pss_base.specs.Causes.{HasCauseIf}
use Rattle.pss_base.specs.declared.owner.OwnerNo.{OwnerNo}
use Rattle.pss_disk.specs.Moments.{Moment, Through}
use Rattle.pss_disk.proofs.Passing.{none_came}
use Rattle.type_layout.specs.declared.schema.Schema.{Schema}
use Rattle.type_layout.specs.Schemas.{given}
use Rattle.pss_catalog.specs.Catalog.{Catalog, total}
use Rattle.pss_catalog.specs.Changes.{Change as Step, over}
use Rattle.page_format.specs.Objects.{IsRightPut}
use Rattle.page_store.specs.Stores.{AllHave}
use Rattle.storage_home.specs.declared.change.Change.{Change}
use Rattle.storage_home.specs.Applied.{AreChanges}
use Rattle.pss_recovery.specs.declared.parts.Parts.{Parts as Store}
use Rattle.pss_recovery.specs.Loading.{most_octets}
use Rattle.pss_recovery.specs.Mounted.{IsMounted, StandsEither}
use Rattle.pss_machine.specs.declared.limits.Limits.{Limits}
use Rattle.pss_machine.specs.Owners.{Owner, net}
use Rattle.pss_machine.specs.Kept.{Kept}
use Rattle.pss_machine.specs.Deciding.{is_over_full, unless_full}
use Rattle.pss_machine.specs.declared.reply.Reply.TheVariants as reply
use Rattle.pss_machine.specs.Effects.{Effect, Stays, OpensBasic, OpensTransactional, ClosesBasic, ClosesTransactional, Begins, Associates, Ends, Holds, Steps, Commits, Flushes, RollsBack, Decision, says}
use Rattle.pss_machine.specs.Moving.{moved, with_commit, title_of}
use Rattle.pss_machine.proofs.Logic.{same_some, true_false}
use Rattle.commit_calls.specs.declared.settling.Way.{Way}
use Rattle.commit_calls.specs.declared.settling.Way.TheVariants.{Commit, Flush}
use Rattle.commit_calls.specs.Ways.{effect_of}
use Rattle.pss_laws.specs.Storable.{NothingOrStorable}
use Rattle.owner_view.specs.Net.{AreNet}
use Rattle.pss_laws.proofs.Storing.{owners_storable}
use Rattle.owner_accounts.specs.Reached.{IsReached}
use Rattle.owner_accounts.specs.Commits.{IsPrepared}
use Rattle.connector_parts.specs.declared.parts.Parts.{Parts}
use Rattle.connector_parts.specs.Stands.{StayAs}
use Rattle.commit_calls.specs.declared.ready.Ready.{Ready}
use Rattle.commit_calls.specs.Ready.{IsReady, MayMakeReady}
use Rattle.commit_calls.specs.Storing.{StoresNet, Made, Came}
use Rattle.commit_calls.proofs.Outcomes.{is_not, unless_is}
use Rattle.commit_saving.specs.Saving.{IfTold, Leaves, MaySave, StoresNothing, changed_by, put_of, saved_by, saved_next}
use Rattle.commit_saving.proofs.Savings.{leaves_net, right_all, same_length}
use Rattle.commit_saving.proofs.Stored.{some_under}

-- ---- the machine's part

-- whoever commits: these are its net changes
module _ (k : Kept) (n : OwnerNo) (owner : Owner) (there : get k.owners n.0 ≡ Some owner) where
  changed_is : changed_by k n ≡ net k.catalog owner
  changed_is = ap (λ (o : Option Owner). given o [] (λ owner. net k.catalog owner)) there

  settled_catalog : (given (get k.owners n.0) k (λ owner. with_commit k n (title_of k n) owner.level (net k.catalog owner))).catalog ≡ over k.catalog (net k.catalog owner)
  settled_catalog = ap (λ (o : Option Owner). (given o k (λ owner. with_commit k n (title_of k n) owner.level (net k.catalog owner))).catalog) there

  pub commits_catalog : (moved k (Commits n)).catalog ≡ over k.catalog (net k.catalog owner)
  commits_catalog = settled_catalog

  pub flushes_catalog : (moved k (Flushes n)).catalog ≡ over k.catalog (net k.catalog owner)
  flushes_catalog = settled_catalog

commits_net : (k : Kept) (n : OwnerNo) (owner : Owner) → get k.owners n.0 ≡ Some owner → StoresNet k owner (Commits n)
commits_net k n owner there = record { catalog = commits_catalog k n owner there; saved = λ saved. ap (saved_next saved k.next) (changed_is k n owner there) }

flushes_net : (k : Kept) (n : OwnerNo) (owner : Owner) → get k.owners n.0 ≡ Some owner → StoresNet k owner (Flushes n)
flushes_net k n owner there = record { catalog = flushes_catalog k n owner there; saved = λ saved. ap (saved_next saved k.next) (changed_is k n owner there) }

pub way_net : (w : Way) (k : Kept) (n : OwnerNo) (owner : Owner) → get k.owners n.0 ≡ Some owner → StoresNet k owner (effect_of w n)
way_net Commit k n owner there = commits_net k n owner there
way_net Flush k n owner there = flushes_net k n owner there

-- as many changes, so the same is stored
same_saved : (S : Schema) (M : Catalog) (saved next : ℕ) (cs : List Change) (ds : List Step) → AreChanges S M cs ds → saved_next saved next cs ≡ saved_next saved next ds
same_saved S M saved next [] [] are = refl
same_saved S M saved next [] (d ∷ ds) are = absurd are
same_saved S M saved next (c ∷ cs) [] are = absurd are
same_saved S M saved next (c ∷ cs) (d ∷ ds) are = refl

-- what stores nothing leaves the next serial that is stored
unsaved : (k : Kept) (saved : ℕ) (e : Effect) → StoresNothing k e → saved_by k saved e ≡ saved
unsaved k saved Stays nothing = refl
unsaved k saved (OpensBasic name access) nothing = refl
unsaved k saved (OpensTransactional name access) nothing = refl
unsaved k saved (ClosesBasic s n) nothing = refl
unsaved k saved (ClosesTransactional s) nothing = refl
unsaved k saved (Begins name level) nothing = refl
unsaved k saved (Associates s association) nothing = refl
unsaved k saved (Ends s n failed) nothing = refl
unsaved k saved (Holds s copies) nothing = refl
unsaved k saved (Steps n s step asked) nothing = refl
unsaved k saved (Commits n) nothing = ap (saved_next saved k.next) nothing
unsaved k saved (Flushes n) nothing = ap (saved_next saved k.next) nothing
unsaved k saved (RollsBack n) nothing = refl

-- a next serial that some change would store is not one above it
none_of : {T : Type 0} (next : ℕ) (xs : List T) → saved_next (suc next) next xs ≡ suc next → xs ≡ []
none_of next [] is = refl
none_of next (x ∷ xs) is = (let never : ⊥ = omega (arith, is) in absurd never)

-- ---- what is ready

pub storable_at : (S : Schema) (limits : Limits) (k : Kept) → IsReached S limits k → (n : ℕ) (owner : Owner) → get k.owners n ≡ Some owner → NothingOrStorable S limits.changes k.next k.catalog (net k.catalog owner)
storable_at S limits k r n owner there =
    subst (λ (j : Kept). NothingOrStorable S limits.changes j.next j.catalog (net j.catalog owner)) (sym r.is)
    (owners_storable S limits r.catalog r.next r.lines r.sound r.total r.good n owner (subst (λ (j : Kept). get j.owners n ≡ Some owner) r.is there))

not_true : (b : Bool) → true ≡ not b → b ≡ false
not_true true e = absurd (true_false refl e)
not_true false e = refl

at_most : (limit sum : ℕ) → nat_lt limit sum ≡ false → sum ≤ limit
at_most limit sum e = omega (arith, λ (less : limit < sum). true_false (lt-ltb limit sum less) e)

module _ (c d : Parts) (n : OwnerNo) (m : MayMakeReady c n) (ready : Ready) (is : IsReady d m.kept n ready) (stay : StayAs c d) where
  abbrev k : Kept
  k = m.kept

  abbrev S : Schema
  S = c.schema

  abbrev ds : List Step
  ds = net k.catalog m.owner

  prepared : IsPrepared c.schema d.accounts k n ready.commit
  prepared = subst (λ (T : Schema). IsPrepared T d.accounts k n ready.commit) stay.schema is.commit

  same_owner : prepared.owner ≡ m.owner
  same_owner = same_some (sym prepared.there ∙ m.there)

  changes_are : AreChanges S k.catalog ready.commit.changes ds
  changes_are = subst (λ (o : Owner). AreChanges S k.catalog ready.commit.changes (net k.catalog o)) same_owner prepared.changes

  net_are : AreNet S k.catalog ds ready.commit.changes
  net_are = subst (λ (o : Owner). AreNet S k.catalog (net k.catalog o) ready.commit.changes) same_owner prepared.homes

  storable : NothingOrStorable S c.limits.changes k.next k.catalog ds
  storable = storable_at S c.limits k m.at.reached n.0 m.owner m.there

  few : c.limits.changes ≤ 256
  few = m.at.limited.changes

  right : NothingOrStorable S c.limits.changes k.next k.catalog ds → AllByRecursion IsRightPut (map put_of ready.commit.changes)
  right (inl none) = none_right ready.commit.changes ds changes_are none
    where
      none_right : (cs : List Change) (es : List Step) → AreChanges S k.catalog cs es → es ≡ [] → AllByRecursion IsRightPut (map put_of cs)
      none_right [] es are none = tt
      none_right (x ∷ cs) [] are none = absurd are
      none_right (x ∷ cs) (e ∷ es) are none = absurd cc
  right (inr some) = right_all S k.catalog k.next ready.commit.changes ds changes_are net_are some.each

  short : NothingOrStorable S c.limits.changes k.next k.catalog ds → length ds ≤ 256
  short (inl none) = subst (λ (es : List Step). length es ≤ 256) (sym none) (omega arith)
  short (inr some) = omega (arith, some.few, few)

  -- memory knows that it may be stored
  pub may_save : (store : Store) → store.next ≤ k.next → MaySave store k.next ready.commit.changes
  may_save store behind = record { few = omega (arith, length_is, short storable); each = right storable; later = behind }
    where
      length_of : (cs : List Change) → length (map put_of cs) ≡ length cs
      length_of [] = refl
      length_of (x ∷ cs) = ap (λ (n : ℕ). suc n) (length_of cs)

      length_is : length ready.commit.changes ≡ length ds
      length_is = sym (length_of ready.commit.changes) ∙ same_length S k.catalog ready.commit.changes ds changes_are

  module _ (room : true ≡ not (is_over_full c.schema c.limits k.catalog m.owner)) where
    bounded : total S (over k.catalog ds) ≤ most_octets
    bounded = (let most = at_most c.limits.total (total S (over k.catalog ds)) (not_true (is_over_full c.schema c.limits k.catalog m.owner) room) in omega (arith, most, m.at.limited.total))

    leaves : (saved : ℕ) → saved ≤ k.next → Leaves S k.catalog saved k.next ready.commit.changes (over k.catalog ds)
    leaves saved later = leaves_net S k.catalog c.limits.changes saved k.next few later ready.commit.changes ds changes_are net_are storable bounded

    module _ (e : Effect) (net_is : StoresNet k m.owner e) (store : Store) (behind : store.next ≤ k.next) where
      -- what is mounted has a next serial that was given
      under : (saved : ℕ) (octets : List ℕ) → IsMounted S k.catalog saved store octets → saved ≤ k.next
      under saved octets mounted = omega (arith, behind, mounted.next_)

      pub saved_is : (saved : ℕ) → saved_next saved k.next ready.commit.changes ≡ saved_by k saved e
      saved_is saved = same_saved S k.catalog saved k.next ready.commit.changes ds changes_are ∙ sym (net_is.saved saved)

      -- where nothing is stored, there are no changes
      pub unchanged : StoresNothing k e → ready.commit.changes ≡ []
      unchanged nothing = none_of k.next ready.commit.changes (saved_is (suc k.next) ∙ unsaved k (suc k.next) e nothing)

      pub becomes : (after : Store) (old new : Option (List ℕ))
          → ((M N : Catalog) (saved : ℕ) → Leaves S M saved k.next ready.commit.changes N → IfSome old (λ octets. IsMounted S M saved store octets → IfTold new (IsMounted S N (saved_next saved k.next ready.commit.changes) after)))
          → (saved : ℕ) → IfSome old (λ octets. IsMounted S k.catalog saved store octets → IfTold new (IsMounted S (moved k e).catalog (saved_by k saved e) after))
      becomes after old new made saved =
          subst (λ (N : Catalog). IfSome old (λ octets. IsMounted S k.catalog saved store octets → IfTold new (IsMounted S N (saved_by k saved e) after))) (sym net_is.catalog)
          (subst (λ (last : ℕ). IfSome old (λ octets. IsMounted S k.catalog saved store octets → IfTold new (IsMounted S (over k.catalog ds) last after))) (saved_is saved)
          (some_under old (saved ≤ k.next) (IsMounted S k.catalog saved store) (λ octets. IfTold new (IsMounted S (over k.catalog ds) (saved_next saved k.next ready.commit.changes) after)) (under saved) (λ later. made k.catalog (over k.catalog ds) saved (leaves saved later))))

      pub passes : (old : Option (List ℕ)) (x y : List Moment)
          → ((M N : Catalog) (saved : ℕ) → Leaves S M saved k.next ready.commit.changes N → IfSome old (λ octets. IsMounted S M saved store octets → Through x y (AllHave (StandsEither S M saved N (saved_next saved k.next ready.commit.changes)))))
          → (saved : ℕ) → IfSome old (λ octets. IsMounted S k.catalog saved store octets → Through x y (AllHave (StandsEither S k.catalog saved (moved k e).catalog (saved_by k saved e))))
      passes old x y came saved =
          subst (λ (N : Catalog). IfSome old (λ octets. IsMounted S k.catalog saved store octets → Through x y (AllHave (StandsEither S k.catalog saved N (saved_by k saved e))))) (sym net_is.catalog)
          (subst (λ (last : ℕ). IfSome old (λ octets. IsMounted S k.catalog saved store octets → Through x y (AllHave (StandsEither S k.catalog saved (over k.catalog ds) last)))) (saved_is saved)
          (some_under old (saved ≤ k.next) (IsMounted S k.catalog saved store) (λ octets. Through x y (AllHave (StandsEither S k.catalog saved (over k.catalog ds) (saved_next saved k.next ready.commit.changes)))) (under saved)
          (λ later. came k.catalog (over k.catalog ds) saved (leaves saved later))))

-- ---- as the calls tell it

module _ (c d : Parts) (n : OwnerNo) (m : MayMakeReady c n) (ready : Ready) (is : IsReady d m.kept n ready) (stay : StayAs c d) (next : ℕ) (next_is : next ≡ m.kept.next) (store : Store) (behind : store.next ≤ c.accounts.next) where
  below : store.next ≤ m.kept.next
  below = omega (arith, behind, m.at.stands.accounts.next)

  as_ready : (P : ℕ → List Change → Type 0) → P next ready.commit.changes → P m.kept.next ready.commit.changes
  as_ready P = subst (λ (x : ℕ). P x ready.commit.changes) next_is

  pub may_save_as : MaySave store next ready.commit.changes
  may_save_as = subst (λ (x : ℕ). MaySave store x ready.commit.changes) (sym next_is) (may_save c d n m ready is stay store below)

  module _ (room : true ≡ not (is_over_full c.schema c.limits m.kept.catalog m.owner)) (e : Effect) (net_is : StoresNet m.kept m.owner e) where
    effect_is : (unless_full c.schema c.limits m.kept n e).effect ≡ e
    effect_is = ap (λ (x : Decision). x.effect) (unless_is c.schema c.limits m.kept n m.owner e false m.there (not_true (is_over_full c.schema c.limits m.kept.catalog m.owner) room))

    pub becomes_as : (after : Store) (old new : Option (List ℕ)) → Made store after old new next ready.commit.changes → (saved : ℕ)
        → IfSome old (λ octets. IsMounted c.schema m.kept.catalog saved store octets → IfTold new (IsMounted c.schema (moved m.kept (unless_full c.schema c.limits m.kept n e).effect).catalog (saved_by m.kept saved (unless_full c.schema c.limits m.kept n e).effect) after))
    becomes_as after old new made saved =
        subst (λ (f : Effect). IfSome old (λ octets. IsMounted c.schema m.kept.catalog saved store octets → IfTold new (IsMounted c.schema (moved m.kept f).catalog (saved_by m.kept saved f) after))) (sym effect_is)
        (becomes c d n m ready is stay room e net_is store below after old new (as_ready (Made store after old new) made c.schema) saved)

    pub passes_as : (old : Option (List ℕ)) (x y : List Moment) → Came store old x y next ready.commit.changes → (saved : ℕ)
        → IfSome old (λ octets. IsMounted c.schema m.kept.catalog saved store octets → Through x y (AllHave (StandsEither c.schema m.kept.catalog saved (moved m.kept (unless_full c.schema c.limits m.kept n e).effect).catalog (saved_by m.kept saved (unless_full c.schema c.limits m.kept n e).effect))))
    passes_as old x y came saved =
        subst (λ (f : Effect). IfSome old (λ octets. IsMounted c.schema m.kept.catalog saved store octets → Through x y (AllHave (StandsEither c.schema m.kept.catalog saved (moved m.kept f).catalog (saved_by m.kept saved f))))) (sym effect_is)
        (passes c d n m ready is stay room e net_is store below old x y (as_ready (Came store old x y) came c.schema) saved)

    pub unchanged_as : StoresNothing m.kept (unless_full c.schema c.limits m.kept n e).effect → ready.commit.changes ≡ []
    unchanged_as nothing = unchanged c d n m ready is stay room e net_is store below (subst (StoresNothing m.kept) effect_is nothing)

    pub next_as : (last : ℕ) → last ≡ saved_next store.next next ready.commit.changes → last ≡ saved_by m.kept store.next (unless_full c.schema c.limits m.kept n e).effect
    next_as last is_next =
        as_ready (λ x l. last ≡ saved_next store.next x l) is_next ∙ saved_is c d n m ready is stay room e net_is store below store.next ∙ ap (saved_by m.kept store.next) (sym effect_is)

-- ---- where nothing is stored

-- an effect that changes no object and stores nothing
pub record KeepsStored (k : Kept) (e : Effect) : Type 0 where
  pub catalog : (moved k e).catalog ≡ k.catalog
  pub saved : (saved : ℕ) → saved_by k saved e ≡ saved

module _ (S : Schema) (k : Kept) (e : Effect) (nothing : KeepsStored k e) (store : Store) where
  pub becomes_same : (o : Option (List ℕ)) (saved : ℕ) → IfSome o (λ octets. IsMounted S k.catalog saved store octets → IfTold o (IsMounted S (moved k e).catalog (saved_by k saved e) store))
  becomes_same None saved = tt
  becomes_same (Some c) saved = λ mounted.
      (c, refl, subst (λ (N : Catalog). IsMounted S N (saved_by k saved e) store c) (sym nothing.catalog) (subst (λ (last : ℕ). IsMounted S k.catalog last store c) (sym (nothing.saved saved)) mounted))

  pub passes_none : (o : Option (List ℕ)) (x : List Moment) (saved : ℕ) → IfSome o (λ octets. IsMounted S k.catalog saved store octets → Through x x (AllHave (StandsEither S k.catalog saved (moved k e).catalog (saved_by k saved e))))
  passes_none None x saved = tt
  passes_none (Some c) x saved = λ mounted. none_came x (AllHave (StandsEither S k.catalog saved (moved k e).catalog (saved_by k saved e)))

pub stays_nothing : (k : Kept) → KeepsStored k Stays
stays_nothing k = record { catalog = refl; saved = λ saved. refl }

pub rolls_nothing : (k : Kept) (n : OwnerNo) → KeepsStored k (RollsBack n)
rolls_nothing k n = record { catalog = refl; saved = λ saved. refl }

-- the same of a decision that is equal
pub nothing_as : (k : Kept) (x y : Decision) → x ≡ y → KeepsStored k y.effect → KeepsStored k x.effect
nothing_as k x y same = subst (λ (d : Decision). KeepsStored k d.effect) (sym same)

-- where the objects would weigh too much, nothing is stored
pub full_nothing : (S : Schema) (limits : Limits) (k : Kept) (n : OwnerNo) (owner : Owner) (e : Effect) → get k.owners n.0 ≡ Some owner → false ≡ not (is_over_full S limits k.catalog owner) → KeepsStored k (unless_full S limits k n e).effect
full_nothing S limits k n owner e there over =
    nothing_as k (unless_full S limits k n e) (says reply.Full) (unless_is S limits k n owner e true there (is_not false (is_over_full S limits k.catalog owner) true over refl)) (stays_nothing k)

-- ---- results

-- no moment came
pub nothing_came : (o : Option (List ℕ)) (A : List ℕ → Type 0) (P : Moment → Type 0) (x : List Moment) → IfSome o (λ octets. A octets → Through x x P)
nothing_came None A P x = tt
nothing_came (Some c) A P x = λ a. none_came x P

-- no fault, and no cause
pub no_cause : (n : ℕ) → HasCauseIf n n false
no_cause n = record { later = omega arith; rose = λ is. absurd (true_false is refl); kept = λ is. refl }

pub if_err : {T E : Type 0} (P Q : E → Type 0) (r : Result T E) → ((e : E) → P e → Q e) → IfErr r P → IfErr r Q
if_err P Q (Ok t) f is = tt
if_err P Q (Err e) f is = f e is
