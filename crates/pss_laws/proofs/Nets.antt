-- An owner's changes as a list, its view after a step, and its net changes.
use Rattle.std.proofs.Common.{◌≡◌, ℕ, Bool, true, false, cond, not, ◌==◌, ◌&&◌, List, [], ◌∷◌, map, Option, Some, None, refl, sym, ap, ◌∙◌, arith}
use Rattle.std.specs.Prelude.{filter, T, is_some, ◌||◌, unwrap_or}
use Rattle.std.specs.Ordering.{nat_cmp, eq_by_cmp, is_lt}
use Rattle.std.specs.Cmp.{nat_cmp_total}
use Rattle.std.specs.FinMap as finite
use Rattle.std.specs.FinMap.{get, insert, entries, empty, get-empty, get-entries, entries_sorted, is_sorted, get-insert, same_map, nat_cmp-IsAntisymmetric}
use Rattle.std.specs.FinMap.Entries.{below_all}
use Rattle.std.proofs.lemmas.Bool.{eqb-true, eq-eqb}
use Rattle.std.proofs.lemmas.Bool.Decides.{nat_tests, Decides-int_eq}
use Rattle.std.proofs.lemmas.Slice.Eq.{bytes_eq-Decides}
use Rattle.pss_base.specs.declared.pid.Pid.{Pid}
use Rattle.type_layout.specs.Types.{PlainValue, Int, Character, Truth, Ordinal, Text, Items, Parts, Ref, PlainValues, no_values, value_and, values_of}
use Rattle.type_layout.specs.Schemas.{given}
use Rattle.pss_catalog.specs.Catalog.{Object, Catalog}
use Rattle.pss_catalog.specs.Changes.{Change, over, last_state}
use Rattle.pss_catalog.proofs.Uniqueness.{found_over}
use Rattle.pss_machine.specs.Changes.{Changes, with_changes, change_of, listed}
use Rattle.pss_machine.specs.Same.{same_truth, same_pid, same_reference, same_value, same_values, same_state}
use Rattle.pss_machine.specs.declared.level.Level.{Level}
use Rattle.pss_machine.specs.Owners.{Owner, new_owner, view, net, Step, stepped}
use Rattle.pss_machine.proofs.Maps.{tie}
use Rattle.pss_laws.specs.Within.{is_changed}
use Rattle.pss_laws.proofs.Logic.{unlike, and_left, and_right, or_no_left, or_no_right}
use Rattle.pss_laws.proofs.Overs.{unchanged}

abbrev Entries : Type 0
Entries = List (ℕ × Option Object)

first : (a b : Bool) → T (a && b) → T a
first true b p = tt
first false b p = p

second : (a b : Bool) → T (a && b) → T b
second true b p = p
second false b p = absurd p

turned : (a b : ℕ) → (a == b) ≡ (b == a)
turned a b = by_both (a == b) refl (b == a) refl
  where
    by_both : (x : Bool) → (a == b) ≡ x → (y : Bool) → (b == a) ≡ y → x ≡ y
    by_both true p true q = refl
    by_both false p false q = refl
    by_both true p false q = unlike (sym q ∙ eq-eqb b a (sym (eqb-true a b p)))
    by_both false p true q = unlike (sym p ∙ eq-eqb a b (sym (eqb-true b a q)))

below_missed : (x t : ℕ) (es : Entries) → (t == x) ≡ true → T (below_all nat_cmp x es) → finite.find nat_cmp t es ≡ None
below_missed x t [] e h = refl
below_missed x t (y ∷ es) e h =
    let lower : T (is_lt (nat_cmp x y.0)) = first _ _ h in
    let apart : eq_by_cmp nat_cmp t y.0 ≡ false = grind (arith, nat_tests) in
    rw apart (below_missed x t es e (second _ _ h))

-- ---- changes by serial

last_entries : (t : ℕ) (es : Entries) → T (is_sorted nat_cmp es) → last_state (map change_of es) t ≡ finite.find nat_cmp t es
last_entries t [] h = refl
last_entries t (e ∷ es) h = ap (λ o. given o (cond (e.0 == t) (Some e.1) None) Some) (last_entries t es (second _ _ h)) ∙ by_place (t == e.0) refl ∙ ap (λ (b : Bool). cond b (Some e.1) (finite.find nat_cmp t es)) (sym (tie t e.0))
  where
    none_behind : (t == e.0) ≡ true → finite.find nat_cmp t es ≡ None
    none_behind p = below_missed e.0 t es p (first (below_all nat_cmp e.0 es) (is_sorted nat_cmp es) h)

    all_same : (o : Option (Option Object)) → given o None Some ≡ o
    all_same None = refl
    all_same (Some x) = refl

    by_place : (b : Bool) → (t == e.0) ≡ b → given (finite.find nat_cmp t es) (cond (e.0 == t) (Some e.1) None) Some ≡ cond b (Some e.1) (finite.find nat_cmp t es)
    by_place true p = ap (λ o. given o (cond (e.0 == t) (Some e.1) None) Some) (none_behind p) ∙ ap (λ (b : Bool). cond b (Some e.1) None) (turned e.0 t ∙ p)
    by_place false p = ap (λ (b : Bool). given (finite.find nat_cmp t es) (cond b (Some e.1) None) Some) (turned e.0 t ∙ p) ∙ all_same (finite.find nat_cmp t es)

pub last_listed : (c : Changes) (t : ℕ) → last_state (listed c) t ≡ get c t
last_listed c t = last_entries t (entries c) (entries_sorted c) ∙ sym (get-entries c t)

-- what is changed has a last state
pub changed_last : (cs : List Change) (t : ℕ) → is_changed cs t ≡ is_some (last_state cs t)
changed_last [] t = refl
changed_last (c ∷ cs) t = ap (λ (b : Bool). (c.serial == t) || b) (changed_last cs t) ∙ by_both (c.serial == t) (last_state cs t)
  where
    by_both : (b : Bool) (o : Option (Option Object)) → (b || is_some o) ≡ is_some (given o (cond b (Some c.state) None) Some)
    by_both true None = refl
    by_both true (Some x) = refl
    by_both false None = refl
    by_both false (Some x) = refl

pub found_changes : (cs : List Change) (c : Changes) (t : ℕ) → get (with_changes c cs) t ≡ given (last_state cs t) (get c t) Some
found_changes [] c t = refl
found_changes (x ∷ xs) c t =
    found_changes xs (insert c x.serial x.state) t
    ∙ ap (λ o. given (last_state xs t) o Some) (get-insert nat_cmp_total c x.serial x.state t ∙ ap (λ (b : Bool). cond b (Some x.state) (get c t)) (tie t x.serial ∙ turned t x.serial))
    ∙ by_both (last_state xs t) (x.serial == t)
  where
    by_both : (o : Option (Option Object)) (b : Bool) → given o (cond b (Some x.state) (get c t)) Some ≡ given (given o (cond b (Some x.state) None) Some) (get c t) Some
    by_both None true = refl
    by_both None false = refl
    by_both (Some s) b = refl

pub same_over : (M : Catalog) (N : Catalog) → ((t : ℕ) → get M t ≡ get N t) → M ≡ N
same_over M N alike = same_map nat_cmp_total nat_cmp-IsAntisymmetric M N alike

-- the view after a step
pub view_stepped : (M : Catalog) (owner : Owner) (step : Step) → view M (stepped step owner) ≡ over (view M owner) step.own
view_stepped M owner step = same_over _ _ (λ t.
    found_over M (listed (with_changes owner.changes step.own)) t
    ∙ ap (λ o. unwrap_or o (get M t)) (last_listed (with_changes owner.changes step.own) t ∙ found_changes step.own owner.changes t)
    ∙ by_last t (last_state step.own t)
    ∙ ap (unwrap_or (last_state step.own t)) (ap (λ o. unwrap_or o (get M t)) (sym (last_listed owner.changes t)) ∙ sym (found_over M (listed owner.changes) t))
    ∙ sym (found_over (view M owner) step.own t))
  where
    by_last : (t : ℕ) (o : Option (Option Object)) → unwrap_or (given o (get owner.changes t) Some) (get M t) ≡ unwrap_or o (unwrap_or (get owner.changes t) (get M t))
    by_last t None = refl
    by_last t (Some x) = refl

-- a new owner has the catalog in view
pub view_new : (M : Catalog) (level : Level) → view M (new_owner level) ≡ M
view_new M level = same_over _ _ (λ t. found_over M (listed empty) t ∙ ap (λ o. unwrap_or o (get M t)) (last_listed empty t ∙ get-empty nat_cmp t))

pub changed_none : (t : ℕ) → is_changed (listed empty) t ≡ false
changed_none t = changed_last (listed empty) t ∙ ap is_some (last_listed empty t ∙ get-empty nat_cmp t)

-- ---- states that are the same

truth_is : (a b : Bool) → same_truth a b ≡ true → a ≡ b
truth_is true b e = sym e
truth_is false true e = unlike e
truth_is false false e = refl

pid_is : (p q : Pid) → same_pid p q ≡ true → p ≡ q
pid_is p q e =
    let h : p.home ≡ q.home = eqb-true p.home q.home (and_left _ _ e) in
    let s : p.serial ≡ q.serial = eqb-true p.serial q.serial (and_right _ _ e) in
    λ i. record { home = h i; serial = s i }

reference_is : (p q : Option Pid) → same_reference p q ≡ true → p ≡ q
reference_is None None e = refl
reference_is None (Some q) e = unlike e
reference_is (Some p) None e = unlike e
reference_is (Some p) (Some q) e = ap Some (pid_is p q e)

mutual
  value_is : (v w : PlainValue) → same_value v w ≡ true → v ≡ w
  value_is (Int a) (Int b) e = ap Int ((Decides-int_eq a b).0 e)
  value_is (Character a) (Character b) e = ap Character (eqb-true a b e)
  value_is (Truth a) (Truth b) e = ap Truth (truth_is a b e)
  value_is (Ordinal a) (Ordinal b) e = ap Ordinal (eqb-true a b e)
  value_is (Text a) (Text b) e = ap Text ((bytes_eq-Decides a b).0 e)
  value_is (Items a) (Items b) e = ap Items (values_are a b e)
  value_is (Parts a) (Parts b) e = ap Parts (values_are a b e)
  value_is (Ref a) (Ref b) e = ap Ref (reference_is a b e)
  value_is _ _ e = unlike e

  values_are : (v w : PlainValues) → same_values v w ≡ true → v ≡ w
  values_are no_values no_values e = refl
  values_are no_values (value_and w ws) e = unlike e
  values_are (value_and v vs) no_values e = unlike e
  values_are (value_and v vs) (value_and w ws) e =
      let head : v ≡ w = value_is v w (and_left _ _ e) in
      let rest : vs ≡ ws = values_are vs ws (and_right _ _ e) in
      λ i. value_and (head i) (rest i)

record_is : (v w : List PlainValue) → same_values (values_of v) (values_of w) ≡ true → v ≡ w
record_is [] [] e = refl
record_is [] (w ∷ ws) e = unlike e
record_is (v ∷ vs) [] e = unlike e
record_is (v ∷ vs) (w ∷ ws) e =
    let head : v ≡ w = value_is v w (and_left _ _ e) in
    let rest : vs ≡ ws = record_is vs ws (and_right _ _ e) in
    λ i. head i ∷ rest i

pub state_is : (a b : Option Object) → same_state a b ≡ true → a ≡ b
state_is None None e = refl
state_is None (Some b) e = unlike e
state_is (Some a) None e = unlike e
state_is (Some a) (Some b) e =
    let h : a.home.0 ≡ b.home.0 = eqb-true a.home.0 b.home.0 (and_left _ _ e) in
    let r : a.values ≡ b.values = record_is a.values b.values (and_right _ _ e) in
    λ i. Some (record { home = record { 0 = h i }; values = r i })

-- ---- the net changes do what all changes do

module _ (M : Catalog) where
  abbrev differs : Change → Bool
  differs c = not (same_state c.state (get M c.serial))

  none_differs : (t : ℕ) (cs : List Change) → is_changed cs t ≡ false → is_changed (filter differs cs) t ≡ false
  none_differs t [] e = refl
  none_differs t (c ∷ cs) e = by_test (differs c) (none_differs t cs (or_no_right (c.serial == t) (is_changed cs t) e))
    where
      by_test : (b : Bool) → is_changed (filter differs cs) t ≡ false → is_changed (cond b (c ∷ filter differs cs) (filter differs cs)) t ≡ false
      by_test false ih = ih
      by_test true ih = rw (or_no_left (c.serial == t) (is_changed cs t) e) ih

  net_last : (t : ℕ) (es : Entries) → T (is_sorted nat_cmp es) → unwrap_or (last_state (filter differs (map change_of es)) t) (get M t) ≡ unwrap_or (last_state (map change_of es) t) (get M t)
  net_last t [] h = refl
  net_last t (e ∷ es) h = by_both (same_state e.1 (get M e.0)) refl (e.0 == t) refl (net_last t es (second _ _ h))
    where
      none_later : (e.0 == t) ≡ true → is_changed (map change_of es) t ≡ false
      none_later p =
          changed_last (map change_of es) t
          ∙ ap is_some (last_entries t es (second (below_all nat_cmp e.0 es) (is_sorted nat_cmp es) h) ∙ below_missed e.0 t es (turned t e.0 ∙ p) (first (below_all nat_cmp e.0 es) (is_sorted nat_cmp es) h))

      by_both : (a : Bool) → same_state e.1 (get M e.0) ≡ a → (b : Bool) → (e.0 == t) ≡ b → unwrap_or (last_state (filter differs (map change_of es)) t) (get M t) ≡ unwrap_or (last_state (map change_of es) t) (get M t)
          → unwrap_or (last_state (cond (not a) (change_of e ∷ filter differs (map change_of es)) (filter differs (map change_of es))) t) (get M t) ≡ unwrap_or (given (last_state (map change_of es) t) (cond (e.0 == t) (Some e.1) None) Some) (get M t)
      by_both true same true p ih =
          ih
          ∙ ap (λ o. unwrap_or o (get M t)) (unchanged (map change_of es) t (none_later p))
          ∙ ap (get M) (sym (eqb-true e.0 t p)) ∙ sym (state_is e.1 (get M e.0) same)
          ∙ sym (ap (λ o. unwrap_or (given o (cond (e.0 == t) (Some e.1) None) Some) (get M t)) (unchanged (map change_of es) t (none_later p)) ∙ ap (λ (b : Bool). unwrap_or (cond b (Some e.1) None) (get M t)) p)
      by_both true same false p ih = ih ∙ sym (ap (λ (b : Bool). unwrap_or (given (last_state (map change_of es) t) (cond b (Some e.1) None) Some) (get M t)) p ∙ by_last (last_state (map change_of es) t))
        where
          by_last : (o : Option (Option Object)) → unwrap_or (given o None Some) (get M t) ≡ unwrap_or o (get M t)
          by_last None = refl
          by_last (Some x) = refl
      by_both false same true p ih =
          ap (λ o. unwrap_or (given o (cond (e.0 == t) (Some e.1) None) Some) (get M t)) (unchanged (filter differs (map change_of es)) t (none_differs t (map change_of es) (none_later p)) ∙ sym (unchanged (map change_of es) t (none_later p)))
      by_both false same false p ih =
          ap (λ (b : Bool). unwrap_or (given (last_state (filter differs (map change_of es)) t) (cond b (Some e.1) None) Some) (get M t)) p
          ∙ by_last (last_state (filter differs (map change_of es)) t) ∙ ih ∙ sym (by_last (last_state (map change_of es) t))
          ∙ sym (ap (λ (b : Bool). unwrap_or (given (last_state (map change_of es) t) (cond b (Some e.1) None) Some) (get M t)) p)
        where
          by_last : (o : Option (Option Object)) → unwrap_or (given o None Some) (get M t) ≡ unwrap_or o (get M t)
          by_last None = refl
          by_last (Some x) = refl

pub over_net : (M : Catalog) (owner : Owner) → over M (net M owner) ≡ view M owner
over_net M owner = same_over _ _ (λ t. found_over M (net M owner) t ∙ net_last M t (entries owner.changes) (entries_sorted owner.changes) ∙ sym (found_over M (listed owner.changes) t))
