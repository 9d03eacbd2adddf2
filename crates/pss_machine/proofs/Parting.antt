-- No two owners' locks clash, turn by turn.
use Rattle.std.proofs.Common.{arith, ◌≡◌, ℕ, Bool, true, false, cond, not, ◌==◌, ◌&&◌, List, [], ◌∷◌, Option, Some, None, refl, sym, ap, ◌∙◌, inl, inr, subst}
use Rattle.std.specs.Prelude.{◌⊎◌, ◌||◌, IsTrue, find}
use Rattle.std.specs.List.{list_any}
use Rattle.std.specs.Option.{option_map}
use Rattle.std.specs.Ordering.{nat_cmp, eq_by_cmp}
use Rattle.std.specs.Cmp.{nat_eq_equiv, Equal-is}
use Rattle.std.specs.Cmp.Lexicographic.{nat_list_eq_equiv}
use Rattle.std.specs.FinMap as finite
use Rattle.std.specs.FinMap.{get, insert, remove, get-empty, entries, get-entries}
use Rattle.std.specs.FinSet as set
use Rattle.std.specs.FinSet.{contains, contains-union, contains-from_list, contains-items, contains-empty}
use Rattle.pss_base.specs.declared.owner.OwnerNo.{OwnerNo}
use Rattle.pss_machine.specs.declared.lock.Resource.{Resource}
use Rattle.pss_machine.specs.declared.lock.Resource.TheVariants as resource
use Rattle.pss_machine.specs.declared.lock.Mode.{Mode}
use Rattle.pss_machine.specs.declared.lock.Mode.TheVariants.{S as Read, M as Many, X as Write}
use Rattle.pss_machine.specs.declared.lock.Need.{Need}
use Rattle.pss_machine.specs.Needs.{need_cmp, same_resource, go_together, clash, hold_up}
use Rattle.pss_machine.specs.Owners.{Owner, Owners, new_owner, blocker, Step, stepped}
use Rattle.type_layout.specs.declared.schema.Schema.{Schema}
use Rattle.pss_machine.specs.declared.limits.Limits.{Limits}
use Rattle.pss_machine.specs.declared.level.Level.{Level}
use Rattle.pss_machine.specs.declared.level.Level.TheVariants.{Basic}
use Rattle.pss_machine.specs.Kept.{Kept}
use Rattle.pss_machine.specs.Effects.{Effect, Stays, OpensBasic, OpensTransactional, ClosesBasic, ClosesTransactional, Begins, Associates, Ends, Holds, Steps, Commits, Flushes, RollsBack}
use Rattle.pss_machine.specs.Deciding.{decision}
use Rattle.pss_machine.specs.Moving.{moved}
use Rattle.pss_machine.specs.Run.{Said, Silent, Says, Wrong, Machine, first, turn, run}
use Rattle.pss_machine.specs.Allowed.{May}
use Rattle.pss_machine.specs.Owning.{LocksAreAlwaysApart}
use Rattle.pss_machine.proofs.Allowing.{decision_right}
use Rattle.pss_machine.proofs.Telling.{settled_kept}
use Rattle.pss_machine.specs.Maps.{with_at}
use Rattle.pss_machine.proofs.Maps.{tied, same_or_apart, insert_here, insert_apart, remove_here, remove_apart, with_here, with_apart}
use Rattle.std.proofs.lemmas.Bool.{eqb-true}
use Rattle.pss_machine.proofs.NeedSets.{need_total, need_apart}

-- ---- a clash is one from both sides

number_back : (a b : ℕ) → (a == b) ≡ (b == a)
number_back a b = nat_eq_equiv.symm a b

same_back : (a b : Resource) → same_resource a b ≡ same_resource b a
same_back (resource.Object s) (resource.Object t) = number_back s t
same_back (resource.Key k bytes) (resource.Key l other) = λ i. number_back k l i && nat_list_eq_equiv.symm bytes other i
same_back (resource.Extent g) (resource.Extent h) = number_back g h
same_back (resource.Object s) (resource.Key l other) = refl
same_back (resource.Object s) (resource.Extent h) = refl
same_back (resource.Key k bytes) (resource.Object t) = refl
same_back (resource.Key k bytes) (resource.Extent h) = refl
same_back (resource.Extent g) (resource.Object t) = refl
same_back (resource.Extent g) (resource.Key l other) = refl

together_back : (a b : Mode) → go_together a b ≡ go_together b a
together_back Read Read = refl
together_back Read Many = refl
together_back Read Write = refl
together_back Many Read = refl
together_back Many Many = refl
together_back Many Write = refl
together_back Write Read = refl
together_back Write Many = refl
together_back Write Write = refl

pub clash_back : (x y : Need) → clash x y ≡ clash y x
clash_back x y = (λ i. same_back x.resource y.resource i && not (together_back x.mode y.mode i))

-- ---- what is found in lists

-- where none of the needs passes, one that is among them does not
none_among : (test : Need → Bool) (x : Need) (xs : List Need) → list_any test xs ≡ false → list_any (eq_by_cmp need_cmp x) xs ≡ true → test x ≡ false
none_among test x [] none there = absurd cc
none_among test x (w ∷ ws) none there = by_head (eq_by_cmp need_cmp x w) refl there (test w) refl none (none_among test x ws)
  where
    by_head : (t : Bool) → eq_by_cmp need_cmp x w ≡ t → (t || list_any (eq_by_cmp need_cmp x) ws) ≡ true → (b : Bool) → test w ≡ b → (b || list_any test ws) ≡ false
        → (list_any test ws ≡ false → list_any (eq_by_cmp need_cmp x) ws ≡ true → test x ≡ false) → test x ≡ false
    by_head t tie there true is none rest = absurd cc
    by_head false tie there false is none rest = rest none there
    by_head true tie there false is none rest = ap test (need_apart x w ((Equal-is (need_cmp x w)).0 tie)) ∙ is

none_passes : {A : Type 0} (test : ℕ × A → Bool) (q : ℕ) (x : A) (es : List (ℕ × A)) → find test es ≡ None → finite.find nat_cmp q es ≡ Some x → test (q, x) ≡ false
none_passes test q x [] none there = absurd cc
none_passes {A} test q x (e ∷ es) none there = by_head (eq_by_cmp nat_cmp q e.0) refl there (test e) refl none (none_passes test q x es)
  where
    by_head : (t : Bool) → eq_by_cmp nat_cmp q e.0 ≡ t → cond t (Some e.1) (finite.find nat_cmp q es) ≡ Some x → (b : Bool) → test e ≡ b → cond b (Some e) (find test es) ≡ None
        → (find test es ≡ None → finite.find nat_cmp q es ≡ Some x → test (q, x) ≡ false) → test (q, x) ≡ false
    by_head t tie there true is none rest = absurd cc
    by_head false tie there false is none rest = rest none there
    by_head true tie there false is none rest =
        let key : q ≡ e.0 = tied q e.0 tie in
        let thing : x ≡ e.1 = grind arith in
        (λ i. test (key i, thing i)) ∙ is

-- ---- all owners

abbrev pub Apart : Owners → Type 0
Apart owners =
    (m n : ℕ) (a b : Owner) (x y : Need) → get owners m ≡ Some a → get owners n ≡ Some b → (m ≡ n → ⊥) → IsTrue (contains a.locks x) → IsTrue (contains b.locks y) → clash x y ≡ false

-- each lock was there before
abbrev Less : Owners → Owners → Type 0
Less fewer owners = (m : ℕ) (a : Owner) (x : Need) → get fewer m ≡ Some a → IsTrue (contains a.locks x) → (b : Owner) × (get owners m ≡ Some b) × IsTrue (contains b.locks x)

apart_less : (fewer owners : Owners) → Less fewer owners → Apart owners → Apart fewer
apart_less fewer owners less apart m n a b x y at_m at_n differ has_x has_y =
    let one = less m a x at_m has_x in
    let other = less n b y at_n has_y in
    apart m n one.0 other.0 x y one.1 other.1 differ one.2 other.2

lockless : (level : Level) (x : Need) → contains (new_owner level).locks x ≡ false
lockless level x = contains-empty need_cmp x

module _ (owners : Owners) where
  new_less : (n : ℕ) (level : Level) → Less (insert owners n (new_owner level)) owners
  new_less n level m a x there has = by_place (same_or_apart m n)
    where
      by_place : ((m ≡ n) ⊎ (m ≡ n → ⊥)) → (b : Owner) × (get owners m ≡ Some b) × IsTrue (contains b.locks x)
      by_place (inl same) =
          let is : Some (new_owner level) ≡ Some a = sym (insert_here owners n (new_owner level)) ∙ ap (get (insert owners n (new_owner level))) (sym same) ∙ there in
          let owner : new_owner level ≡ a = grind arith in
          absurd (true_false (sym (subst (λ (o : Owner). contains o.locks x ≡ false) owner (lockless level x)) ∙ has))
        where
          true_false : false ≡ true → ⊥
          true_false e = cc
      by_place (inr apart) = (a, sym (insert_apart owners n (new_owner level) m apart) ∙ there, has)

  gone_less : (n : ℕ) → Less (remove owners n) owners
  gone_less n m a x there has = by_place (same_or_apart m n)
    where
      by_place : ((m ≡ n) ⊎ (m ≡ n → ⊥)) → (b : Owner) × (get owners m ≡ Some b) × IsTrue (contains b.locks x)
      by_place (inl same) = absurd (none_some (sym (remove_here owners n) ∙ ap (get (remove owners n)) (sym same) ∙ there))
        where
          none_some : None ≡ Some a → ⊥
          none_some e = cc
      by_place (inr apart) = (a, sym (remove_apart owners n m apart) ∙ there, has)

  emptied_less : (n : ℕ) → Less (with_at owners n (λ owner. new_owner owner.level)) owners
  emptied_less n m a x there has = by_place (same_or_apart m n)
    where
      by_old : (o : Option Owner) → option_map (λ (owner : Owner). new_owner owner.level) o ≡ Some a → ⊥
      by_old None e = cc
      by_old (Some owner) e =
          let is : new_owner owner.level ≡ a = grind arith in
          true_false (sym (subst (λ (o : Owner). contains o.locks x ≡ false) is (lockless owner.level x)) ∙ has)
        where
          true_false : false ≡ true → ⊥
          true_false e = cc

      by_place : ((m ≡ n) ⊎ (m ≡ n → ⊥)) → (b : Owner) × (get owners m ≡ Some b) × IsTrue (contains b.locks x)
      by_place (inl same) = absurd (by_old (get owners n) (sym (with_here owners n (λ owner. new_owner owner.level)) ∙ ap (get (with_at owners n (λ owner. new_owner owner.level))) (sym same) ∙ there))
      by_place (inr apart) = (a, sym (with_apart owners n (λ owner. new_owner owner.level) m apart) ∙ there, has)

  -- what holds up no other clashes with no lock of another
  pub unblocked : (n : OwnerNo) (wanted : List Need) → blocker owners n wanted ≡ None → (m : ℕ) (b : Owner) (y w : Need) → (m ≡ n.0 → ⊥) → get owners m ≡ Some b → IsTrue (contains b.locks y) → list_any (eq_by_cmp need_cmp w) wanted ≡ true → clash y w ≡ false
  unblocked n wanted free m b y w differ there has among =
      let none : find (λ e. not (e.0 == n.0) && hold_up e.1.locks wanted) (entries owners) ≡ None = unmapped (find (λ e. not (e.0 == n.0) && hold_up e.1.locks wanted) (entries owners)) free in
      let passes : (not (m == n.0) && hold_up b.locks wanted) ≡ false = none_passes (λ e. not (e.0 == n.0) && hold_up e.1.locks wanted) m b (entries owners) none (sym (get-entries owners m) ∙ there) in
      let held : hold_up b.locks wanted ≡ false = only_second (m == n.0) (hold_up b.locks wanted) (λ same. differ (eqb-true m n.0 same)) passes in
      none_among (clash y) w wanted (none_among (λ x. list_any (clash x) wanted) y (set.items b.locks) held (sym (contains-items b.locks y) ∙ has)) among
    where
      unmapped : (o : Option (ℕ × Owner)) → option_map {U = OwnerNo} (λ e. record { 0 = e.0 }) o ≡ None → o ≡ None
      unmapped None e = refl
      unmapped (Some x) e = absurd cc

      only_second : (s h : Bool) → (s ≡ true → ⊥) → (not s && h) ≡ false → h ≡ false
      only_second true h differ e = absurd (differ refl)
      only_second false h differ e = e

  takes_apart : (n : OwnerNo) (step : Step) → blocker owners n step.needs ≡ None → Apart owners → Apart (with_at owners n.0 (stepped step))
  takes_apart n step free apart m q a b x y at_m at_q differ has_x has_y = by_places (same_or_apart m n.0) (same_or_apart q n.0)
    where
      elsewhere : (p : ℕ) (c : Owner) → (p ≡ n.0 → ⊥) → get (with_at owners n.0 (stepped step)) p ≡ Some c → get owners p ≡ Some c
      elsewhere p c away there = sym (with_apart owners n.0 (stepped step) p away) ∙ there

      -- a lock of the owner that took the step, and one of another
      one_side : (p : ℕ) (c d : Owner) (u v : Need) → get owners p ≡ Some d → (p ≡ n.0 → ⊥) → get (with_at owners n.0 (stepped step)) n.0 ≡ Some c → IsTrue (contains c.locks u) → IsTrue (contains d.locks v) → clash v u ≡ false
      one_side p c d u v at_p away at_n has_u has_v = by_old (get owners n.0) refl (sym (with_here owners n.0 (stepped step)) ∙ at_n)
        where
          by_lock : (old : Owner) → get owners n.0 ≡ Some old → (r : Bool) → contains old.locks u ≡ r → (r || list_any (eq_by_cmp need_cmp u) step.needs) ≡ true → clash v u ≡ false
          by_lock old there true is e = apart p n.0 d old v u at_p there away has_v is
          by_lock old there false is e = unblocked n step.needs free p d v u away at_p has_v e

          by_old : (o : Option Owner) → get owners n.0 ≡ o → option_map (stepped step) o ≡ Some c → clash v u ≡ false
          by_old None there e = absurd cc
          by_old (Some old) there e =
              let is : stepped step old ≡ c = grind arith in
              let has : contains (stepped step old).locks u ≡ true = subst (λ (o : Owner). contains o.locks u ≡ true) (sym is) has_u in
              by_lock old there (contains old.locks u) refl
              (ap (λ b. contains old.locks u || b) (sym (contains-from_list need_total step.needs u)) ∙ sym (contains-union need_total old.locks (set.from_list step.needs) u) ∙ has)

      by_places : ((m ≡ n.0) ⊎ (m ≡ n.0 → ⊥)) → ((q ≡ n.0) ⊎ (q ≡ n.0 → ⊥)) → clash x y ≡ false
      by_places (inl here) (inl there) = absurd (differ (here ∙ sym there))
      by_places (inl here) (inr away) =
          clash_back x y
          ∙ one_side q a b x y (elsewhere q b away at_q) away (ap (get (with_at owners n.0 (stepped step))) (sym here) ∙ at_m) has_x has_y
      by_places (inr away) (inl here) = one_side m b a y x (elsewhere m a away at_m) away (ap (get (with_at owners n.0 (stepped step))) (sym here) ∙ at_q) has_y has_x
      by_places (inr away) (inr off) = apart m q a b x y (elsewhere m a away at_m) (elsewhere q b off at_q) differ has_x has_y

-- ---- turns

effect_apart : (S : Schema) (limits : Limits) (k : Kept) → Apart k.owners → (effect : Effect) → May S limits k effect → Apart (moved k effect).owners
effect_apart S limits k a Stays may = a
effect_apart S limits k a (OpensBasic name access) may = apart_less (insert k.owners k.next_owner (new_owner Basic)) k.owners (new_less k.owners k.next_owner Basic) a
effect_apart S limits k a (OpensTransactional name access) may = a
effect_apart S limits k a (ClosesBasic s n) may = apart_less (remove k.owners n.0) k.owners (gone_less k.owners n.0) a
effect_apart S limits k a (ClosesTransactional s) may = a
effect_apart S limits k a (Begins name level) may = apart_less (insert k.owners k.next_owner (new_owner level)) k.owners (new_less k.owners k.next_owner level) a
effect_apart S limits k a (Associates s association) may = a
effect_apart S limits k a (Ends s n failed) may = a
effect_apart S limits k a (Holds s copies) may = a
effect_apart S limits k a (Steps n s step asked) may = takes_apart k.owners n step may.free a
effect_apart S limits k a (Commits n) may =
    subst (λ owners. Apart (remove owners n.0)) (sym (settled_kept k n).0) (apart_less (remove k.owners n.0) k.owners (gone_less k.owners n.0) a)
effect_apart S limits k a (Flushes n) may =
    subst (λ owners. Apart (with_at owners n.0 (λ owner. new_owner owner.level))) (sym (settled_kept k n).0)
    (apart_less (with_at k.owners n.0 (λ owner. new_owner owner.level)) k.owners (emptied_less k.owners n.0) a)
effect_apart S limits k a (RollsBack n) may = apart_less (remove k.owners n.0) k.owners (gone_less k.owners n.0) a

pub turn_apart : (S : Schema) (limits : Limits) (q : Machine) (x : Said) → Apart q.kept.owners → Apart (turn S limits q x).kept.owners
turn_apart S limits q Silent a = a
turn_apart S limits q (Wrong column) a = a
turn_apart S limits q (Says command) a = effect_apart S limits q.kept a (decision S limits q.kept command).effect (decision_right S limits q.kept command)

run_apart : (S : Schema) (limits : Limits) (lines : List Said) (q : Machine) → Apart q.kept.owners → Apart (run S limits q lines).kept.owners
run_apart S limits [] q a = a
run_apart S limits (x ∷ lines) q a = run_apart S limits lines (turn S limits q x) (turn_apart S limits q x a)

none_some : {A : Type 0} {x : A} → None ≡ Some x → ⊥
none_some e = cc

pub always_apart : LocksAreAlwaysApart
always_apart S limits M next lines = run_apart S limits lines (first M next) (λ m n a b x y at_m at_n differ has_x has_y. absurd (none_some (sym (get-empty nat_cmp m) ∙ at_m)))
