-- Values that are read are of their members' types.
use Rattle.std.proofs.Common.{◌≡◌, ℕ, ◌≤◌, List, [], ◌∷◌, ◌++◌, Option, Some, None, refl, sym, ap, ◌∙◌, subst}
use Rattle.std.specs.List.{slice_get}
use Rattle.std.specs.Ordering.{nat_cmp}
use Rattle.std.specs.FinMap.{get, get-empty}
use Rattle.pss_base.specs.declared.pid.Pid.{Pid}
use Rattle.pss_base.specs.declared.owner.OwnerNo.{OwnerNo}
use Rattle.type_layout.specs.declared.schema.Schema.{Schema}
use Rattle.type_layout.specs.declared.home.HomeNo.{HomeNo}
use Rattle.type_layout.specs.Types.{PlainValue, PlainMember}
use Rattle.type_layout.specs.Values.{Of, IsRecord}
use Rattle.type_layout.specs.Sound.{IsSoundSchema}
use Rattle.type_layout.specs.Schemas.{given, members_at}
use Rattle.type_layout.proofs.Keyed.{member_of}
use Rattle.pss_catalog.specs.Catalog.{Object, Catalog, IsGood}
use Rattle.pss_machine.specs.declared.limits.Limits.{Limits}
use Rattle.pss_machine.specs.Operations.{Get, Ask, Val, Gone}
use Rattle.pss_machine.specs.Homes.{home_of, member_at}
use Rattle.pss_machine.specs.Alone.{object_of, alone}
use Rattle.pss_machine.specs.Copies.{Copies, no_copies, values_at, detached}
use Rattle.pss_machine.specs.Kept.{Kept}
use Rattle.pss_machine.specs.Effects.{Effect, Stays, OpensBasic, OpensTransactional, ClosesBasic, ClosesTransactional, Begins, Associates, Ends, Holds, Steps, Commits, Flushes, RollsBack}
use Rattle.pss_machine.specs.Deciding.{decision}
use Rattle.pss_machine.specs.Moving.{moved, settled, with_commit, title_of, is_settled, is_in, is_session, is_outdated, seen_in, owners_after, seated}
use Rattle.pss_machine.specs.Owners.{net}
use Rattle.pss_machine.specs.Run.{Said, Silent, Says, Wrong, Machine, first, turn, run}
use Rattle.pss_machine.proofs.Cases.{of_given}
use Rattle.pss_machine.proofs.Running.{run_append}
use Rattle.pss_machine.proofs.Logic.{none_some, same_some}
use Rattle.pss_laws.proofs.Fine.{AllFine, all_fine}
use Rattle.pss_laws.proofs.Footprint.{object_there}
use Rattle.pss_laws.proofs.Living.{home_of_it}
use Rattle.pss_laws.proofs.Naming.{Goes, goes}
use Rattle.pss_laws.proofs.Stands.{AllFrom, seated_from, detached_all, with_all, put_all, left_all}

-- ---- what a session's own copies have

-- a record of the object's home
abbrev pub IsRecordOf : Schema → Pid → List PlainValue → Type 0
IsRecordOf S pid values = IsRecord (members_at S (home_of pid)) values

-- an object that is there has a record of its home
pub seen_record : (S : Schema) (next : ℕ) (M : Catalog) → AllFine S next M → (pid : Pid) (x : Object) → object_of M pid ≡ Some x → IsRecord (members_at S (home_of pid)) x.values
seen_record S next M fine pid x there =
    let number : x.home.0 ≡ pid.home = home_of_it M pid x there in
    let home : x.home ≡ home_of pid = ap (λ (n : ℕ). record { 0 = n }) number in
    subst (λ (h : HomeNo). IsRecord (members_at S h) x.values) home (fine pid.serial x (object_there M pid x there)).fits

committed_record : (S : Schema) (next : ℕ) (M : Catalog) → AllFine S next M → (pid : Pid) (values : List PlainValue) → values_at M pid ≡ Some values → IsRecord (members_at S (home_of pid)) values
committed_record S next M fine pid values = by (object_of M pid) refl
  where
    by : (o : Option Object) → object_of M pid ≡ o → given o None (λ object. Some object.values) ≡ Some values → IsRecord (members_at S (home_of pid)) values
    by None is e = absurd (none_some e)
    by (Some x) is e = subst (IsRecord (members_at S (home_of pid))) (same_some e) (seen_record S next M fine pid x is)

module _ (S : Schema) (limits : Limits) (k : Kept) (fine : AllFine S k.next k.catalog) (from : AllFrom (IsRecordOf S) k.copies) where
  settled_from : (n : OwnerNo) → AllFrom (IsRecordOf S) (settled k n).copies
  settled_from n =
      of_given (λ (j : Kept). AllFrom (IsRecordOf S) j.copies) (get k.owners n.0) k (λ owner. with_commit k n (title_of k n) owner.level (net k.catalog owner)) from
      (λ owner e. detached_all (IsRecordOf S) k.owners k.sessions (is_settled n (net k.catalog owner)) k.copies from)

  effect_from : (effect : Effect) → Goes S limits k (IsRecordOf S) from effect → AllFrom (IsRecordOf S) (moved k effect).copies
  effect_from Stays go = from
  effect_from (OpensBasic name access) go = put_all (IsRecordOf S) k.copies k.next_session no_copies tt from
  effect_from (OpensTransactional name access) go = put_all (IsRecordOf S) k.copies k.next_session no_copies tt from
  effect_from (ClosesBasic s n) go = left_all (IsRecordOf S) k.copies s.0 from
  effect_from (ClosesTransactional s) go = left_all (IsRecordOf S) k.copies s.0 from
  effect_from (Begins name level) go = from
  effect_from (Associates s association) go = from
  effect_from (Ends s n failed) go = detached_all (IsRecordOf S) k.owners k.sessions (λ t session body. is_session s t) k.copies from
  effect_from (Holds s copies) go = put_all (IsRecordOf S) k.copies s.0 copies go from
  effect_from (Steps n s step asked) go =
      with_all (IsRecordOf S) (detached k.owners k.sessions (is_outdated n step) k.copies) s.0 (seated k.catalog (seen_in (owners_after k n step) k.sessions s) asked step.answer)
      (λ copies one. seated_from (IsRecordOf S) k.catalog (committed_record S k.next k.catalog fine) (seen_in (owners_after k n step) k.sessions s) asked step.answer copies one)
      (detached_all (IsRecordOf S) k.owners k.sessions (is_outdated n step) k.copies from)
  effect_from (Commits n) go = detached_all (IsRecordOf S) (settled k n).owners (settled k n).sessions (λ s session body. is_in n session) (settled k n).copies (settled_from n)
  effect_from (Flushes n) go = settled_from n
  effect_from (RollsBack n) go = detached_all (IsRecordOf S) k.owners k.sessions (λ s session body. is_in n session) k.copies from

module _ (S : Schema) (limits : Limits) (M : Catalog) (next : ℕ) (sound : IsSoundSchema S) (total : limits.total ≤ 67108864) (good : IsGood S M next) where
  abbrev Records : Machine → Type 0
  Records q = AllFrom (IsRecordOf S) q.kept.copies

  turn_records : (xs : List Said) (y : Said) → Records (run S limits (first M next) xs) → Records (turn S limits (run S limits (first M next) xs) y)
  turn_records xs Silent h = h
  turn_records xs (Wrong column) h = h
  turn_records xs (Says command) h =
      let q = run S limits (first M next) xs in
      effect_from S limits q.kept (all_fine S limits M next xs sound total good).catalog h (decision S limits q.kept command).effect (goes S limits q.kept (IsRecordOf S) h command)

  run_records : (ys xs : List Said) → Records (run S limits (first M next) xs) → Records (run S limits (run S limits (first M next) xs) ys)
  run_records [] xs h = h
  run_records (y ∷ ys) xs h =
      let one : run S limits (first M next) (xs ++ y ∷ []) ≡ turn S limits (run S limits (first M next) xs) y = run_append S limits (first M next) xs (y ∷ []) in
      subst (λ (q : Machine). Records (run S limits q ys)) one (run_records ys (xs ++ y ∷ []) (subst Records (sym one) (turn_records xs y h)))

  pub copies_are_records : (lines : List Said) → AllFrom (IsRecordOf S) (run S limits (first M next) lines).kept.copies
  copies_are_records lines = run_records lines [] (λ s copies e. absurd (none_some (sym (get-empty {X = Copies} nat_cmp s) ∙ e)))

-- ---- values

pub value_in : (S : Schema) (pid : Pid) (values : List PlainValue) (i : ℕ) (v : PlainValue) → IsRecord (members_at S (home_of pid)) values → slice_get values i ≡ Some v → (m : PlainMember) → member_at S (home_of pid) i ≡ Some m → Of m.type v
value_in S pid values i v is there m at = member_of (members_at S (home_of pid)) values is i m v at there

-- a value that the catalog tells
pub told_value : (S : Schema) (next : ℕ) (M : Catalog) → AllFine S next M → (pid : Pid) (i : ℕ) (v : PlainValue) → (alone S M (Ask (Get pid i))).answer ≡ Val v → (m : PlainMember) → member_at S (home_of pid) i ≡ Some m → Of m.type v
told_value S next M fine pid i v told m at = by (object_of M pid) refl told
  where
    by_value : (x : Object) → object_of M pid ≡ Some x → (o : Option PlainValue) → slice_get x.values i ≡ o → given o (Gone pid) Val ≡ Val v → Of m.type v
    by_value x there None is e = absurd (cc)
    by_value x there (Some w) is e = (let same : w ≡ v = cc in subst (Of m.type) same (value_in S pid x.values i w (seen_record S next M fine pid x there) is m at))

    by : (o : Option Object) → object_of M pid ≡ o → given o (Gone pid) (λ object. given (slice_get object.values i) (Gone pid) Val) ≡ Val v → Of m.type v
    by None is e = absurd (cc)
    by (Some x) is e = by_value x is (slice_get x.values i) refl e
