-- What owners changed may be stored.
use Rattle.std.proofs.Common.{ℕ, suc, ◌≡◌, inl, inr, ◌+◌, ◌<◌, ◌≤◌, List, [], ◌∷◌, map, length, Option, Some, None, IfSome, IsSome, refl, sym, ap, ◌∙◌, subst, arith}
use Rattle.std.specs.FinMap.{get}
use Rattle.std.specs.List.{AllByRecursion}
use Rattle.type_layout.specs.declared.home.HomeNo.{HomeNo}
use Rattle.type_layout.specs.declared.schema.Schema.{Schema}
use Rattle.pss_catalog.specs.Catalog.{Object, Catalog, IsGiven, total}
use Rattle.pss_catalog.specs.Changes.{Change as Step, over}
use Rattle.storage_home.specs.declared.change.Change.{Change}
use Rattle.storage_home.specs.Applied.{AreChanges, IsChange, IsState}
use Rattle.page_format.specs.Objects.{HasRecord, IsRightPut}
use Rattle.pss_recovery.specs.Loading.{RefersBelow, most_octets}
use Rattle.pss_recovery.specs.Replaying.{AreMade, IsChanged, IsMade, Rise}
use Rattle.pss_machine.proofs.Logic.{none_some}
use Rattle.pss_laws.specs.Storable.{AreStorable, EachChange, MayBecome, NothingOrStorable, RiseFrom}
use Rattle.owner_view.specs.Net.{AreNet, IsNet, home_left}
use Rattle.commit_saving.specs.Saving.{Leaves, body_for, put_of}

-- ---- one change

module _ (S : Schema) (M : Catalog) (next : ℕ) (c : Change) (d : Step) (is : IsChange S M c d) (net : IsNet S M d c) (may : IsGiven next d.serial × MayBecome S next M d.serial d.state) where
  serial_is : get M c.put.serial ≡ get M d.serial
  serial_is = ap (get M) is.step_is.0

  -- the home is that of the object that is there
  home_of : (state : Option Object) → MayBecome S next M d.serial state → (old : Option Object) → get M d.serial ≡ old → home_left state old ≡ c.put.home → IfSome old (λ object. object.home.0 ≡ c.put.home)
  home_of state may None at left = tt
  home_of None may (Some old) at left = left
  home_of (Some object) may (Some old) at left = ap (λ (h : HomeNo). h.0) (may.1 old at) ∙ left

  -- what goes is there
  there_of : (bytes : Option (List ℕ)) (state : Option Object) → IsState S c.put.home bytes state → MayBecome S next M d.serial state → bytes ≡ None → IsSome (get M d.serial)
  there_of None None of_state may none = may
  there_of None (Some object) of_state may none = absurd of_state
  there_of (Some bytes) state of_state may none = absurd (none_some (sym none))

  short_of : (bytes : Option (List ℕ)) (state : Option Object) → IsState S c.put.home bytes state → MayBecome S next M d.serial state → IfSome bytes (λ octets. length octets ≤ 8000)
  short_of None state of_state may = tt
  short_of (Some bytes) None of_state may = absurd of_state
  short_of (Some bytes) (Some object) of_state may = subst (λ (octets : List ℕ). length octets ≤ 8000) (sym of_state.2) may.0.short

  refers_of : (state : Option Object) → MayBecome S next M d.serial state → IfSome state (RefersBelow next)
  refers_of None may = tt
  refers_of (Some object) may = may.0.targets

  pub made_of : IsMade S M next c.put d
  made_of = record {
    step_ = is.step_is;
    home = subst (λ (old : Option Object). IfSome old (λ object. object.home.0 ≡ c.put.home)) (sym serial_is) (home_of d.state may.1 (get M d.serial) refl (sym net.home));
    there = λ none. subst IsSome (sym serial_is) (there_of c.put.bytes d.state is.step_is.1 may.1 none);
    short = short_of c.put.bytes d.state is.step_is.1 may.1;
    refers = refers_of d.state may.1;
  }

  right_of : (bytes : Option (List ℕ)) (state : Option Object) → IsState S c.put.home bytes state → MayBecome S next M d.serial state → IfSome bytes HasRecord
  right_of None state of_state may = tt
  right_of (Some bytes) None of_state may = absurd of_state
  right_of (Some bytes) (Some object) of_state may = subst HasRecord (sym of_state.2) (record { some = omega arith; most = may.0.short })

  pub right_put : IsRightPut c.put
  right_put = right_of c.put.bytes d.state is.step_is.1 may.1

-- ---- all changes

module _ (S : Schema) (M : Catalog) (next : ℕ) where
  pub made_all : (cs : List Change) (ds : List Step) → AreChanges S M cs ds → AreNet S M ds cs → EachChange (λ d. IsGiven next d.serial × MayBecome S next M d.serial d.state) ds → AreMade S M next (map put_of cs) ds
  made_all [] [] are net each = tt
  made_all [] (d ∷ ds) are net each = absurd are
  made_all (c ∷ cs) [] are net each = absurd are
  made_all (c ∷ cs) (d ∷ ds) are net each = (made_of S M next c d are.0 net.0 each.0, made_all cs ds are.1 net.1 each.1)

  pub right_all : (cs : List Change) (ds : List Step) → AreChanges S M cs ds → AreNet S M ds cs → EachChange (λ d. IsGiven next d.serial × MayBecome S next M d.serial d.state) ds → AllByRecursion IsRightPut (map put_of cs)
  right_all [] ds are net each = tt
  right_all (c ∷ cs) [] are net each = absurd are
  right_all (c ∷ cs) (d ∷ ds) are net each = (right_put S M next c d are.0 net.0 each.0, right_all cs ds are.1 net.1 each.1)

  -- the serials rise behind one, where those that are given from a number on are above it
  rise_all : (cs : List Change) (ds : List Step) (last low : ℕ) → ((s : ℕ) → 0 < s → low ≤ s → last < s) → AreChanges S M cs ds → RiseFrom low ds → EachChange (λ d. IsGiven next d.serial × MayBecome S next M d.serial d.state) ds → Rise last next (map put_of cs)
  rise_all [] ds last low above are rise each = tt
  rise_all (c ∷ cs) [] last low above are rise each = absurd are
  rise_all (c ∷ cs) (d ∷ ds) last low above are rise each =
      let same : c.put.serial ≡ d.serial = are.0.step_is.0 in (
        subst (λ (s : ℕ). last < s) (sym same) (above d.serial each.0.0.0 rise.0),
        subst (λ (s : ℕ). s < next) (sym same) each.0.0.1,
        rise_all cs ds c.put.serial (d.serial + 1) (λ s some low. omega (arith, low, same)) are.1 rise.1 each.1,
      )

-- as many changes as steps
pub same_length : (S : Schema) (M : Catalog) (cs : List Change) (ds : List Step) → AreChanges S M cs ds → length (map put_of cs) ≡ length ds
same_length S M [] [] are = refl
same_length S M [] (d ∷ ds) are = absurd are
same_length S M (c ∷ cs) [] are = absurd are
same_length S M (c ∷ cs) (d ∷ ds) are = ap (λ (n : ℕ). suc n) (same_length S M cs ds are.1)

-- ---- all of a commit

module _ (S : Schema) (M : Catalog) (most saved next : ℕ) (few : most ≤ 256) (later : saved ≤ next) where
  changed_some : (cs : List Change) (ds : List Step) → AreChanges S M cs ds → AreNet S M ds cs → AreStorable S most next M ds → total S (over M ds) ≤ most_octets → IsChanged S M saved (body_for next cs) (over M ds)
  changed_some cs ds are net storable bounded =
      let same = same_length S M cs ds are in
      record {
        some = omega (arith, same, storable.some);
        few = omega (arith, same, storable.few, few);
        later = later;
        rise = rise_all S M next cs ds 0 0 (λ s some low. some) are storable.rise storable.each;
        steps = ds;
        made = made_all S M next cs ds are net storable.each;
        result = refl;
        unique = storable.unique;
        bounded = bounded;
      }

  -- a commit of an owner's net changes makes the catalog of them
  pub leaves_net : (cs : List Change) (ds : List Step) → AreChanges S M cs ds → AreNet S M ds cs → NothingOrStorable S most next M ds → total S (over M ds) ≤ most_octets → Leaves S M saved next cs (over M ds)
  leaves_net [] [] are net may bounded = refl
  leaves_net [] (d ∷ ds) are net may bounded = absurd are
  leaves_net (c ∷ cs) [] are net may bounded = absurd are
  leaves_net (c ∷ cs) (d ∷ ds) are net (inl none) bounded = absurd cc
  leaves_net (c ∷ cs) (d ∷ ds) are net (inr storable) bounded = changed_some (c ∷ cs) (d ∷ ds) are net storable bounded
