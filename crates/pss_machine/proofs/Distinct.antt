-- Each thing once.
use Rattle.std.proofs.Common.{arith, ◌≡◌, ◌<◌, Bool, true, false, not, ◌&&◌, List, [], ◌∷◌, ◌++◌, length, refl, sym, ap, ◌∙◌}
use Rattle.std.specs.Prelude.{◌||◌, if◌then◌else◌, filter, fold, cond}
use Rattle.std.specs.List.{list_any}
use Rattle.std.proofs.lemmas.Bool.{eqb-true, eq-eqb}
use Rattle.pss_base.specs.declared.pid.Pid.{Pid}
use Rattle.type_layout.specs.Sound.{are_distinct}
use Rattle.pss_machine.specs.declared.session.View.{View}
use Rattle.pss_machine.specs.declared.session.View.TheVariants.{Committed, Own, Kept}
use Rattle.pss_machine.specs.Maps.{with_new, distinct}
use Rattle.pss_machine.specs.Same.{same_pid}
use Rattle.pss_machine.specs.Copies.{Body, same_view, same_body}
use Rattle.pss_machine.specs.Entries.{BodiesAreAlwaysRight}

true_false : {b : Bool} → b ≡ true → b ≡ false → ⊥
true_false t f = cc

-- a test that tells the same things
module _ {A : Type 0} (same : A → A → Bool) (sound : (x y : A) → same x y ≡ true → x ≡ y) (itself : (x : A) → same x x ≡ true) where
  back : (x y : A) → same x y ≡ false → same y x ≡ false
  back x y apart = by_test (same y x) refl
    where
      by_test : (b : Bool) → same y x ≡ b → b ≡ false
      by_test true e = absurd (true_false (ap (same x) (sound y x e) ∙ itself x) apart)
      by_test false e = refl

  any_push : (x : A) (xs : List A) (y : A) → list_any (same x) (xs ++ y ∷ []) ≡ (list_any (same x) xs || same x y)
  any_push x [] y = or_none (same x y)
    where
      or_none : (b : Bool) → (b || false) ≡ b
      or_none true = refl
      or_none false = refl
  any_push x (z ∷ xs) y = ap (λ b. same x z || b) (any_push x xs y) ∙ or_or (same x z) (list_any (same x) xs) (same x y)
    where
      or_or : (a b c : Bool) → (a || (b || c)) ≡ ((a || b) || c)
      or_or true b c = refl
      or_or false b c = refl

  any_new : (x : A) (xs : List A) (y : A) → list_any (same x) (with_new same xs y) ≡ (list_any (same x) xs || same x y)
  any_new x xs y = by_test (list_any (same y) xs) refl
    where
      absorbed : (b : Bool) → same x y ≡ b → list_any (same y) xs ≡ true → list_any (same x) xs ≡ (list_any (same x) xs || b)
      absorbed true e among = (let there : list_any (same x) xs ≡ true = ap (λ z. list_any (same z) xs) (sound x y e) ∙ among in there ∙ sym (ap (λ b. b || true) there))
      absorbed false e among = or_none (list_any (same x) xs)
        where
          or_none : (b : Bool) → b ≡ (b || false)
          or_none true = refl
          or_none false = refl

      by_test : (b : Bool) → list_any (same y) xs ≡ b → list_any (same x) (if b then xs else xs ++ y ∷ []) ≡ (list_any (same x) xs || same x y)
      by_test true among = absorbed (same x y) refl among
      by_test false among = any_push x xs y

  any_fold : (x : A) (seen xs : List A) → list_any (same x) (fold (with_new same) seen xs) ≡ (list_any (same x) seen || list_any (same x) xs)
  any_fold x seen [] = or_none (list_any (same x) seen)
    where
      or_none : (b : Bool) → b ≡ (b || false)
      or_none true = refl
      or_none false = refl
  any_fold x seen (y ∷ xs) = any_fold x (with_new same seen y) xs ∙ ap (λ b. b || list_any (same x) xs) (any_new x seen y) ∙ or_or (list_any (same x) seen) (same x y) (list_any (same x) xs)
    where
      or_or : (a b c : Bool) → ((a || b) || c) ≡ (a || (b || c))
      or_or true b c = refl
      or_or false b c = refl

  pub distinct_push : (xs : List A) (y : A) → are_distinct same xs ≡ true → list_any (same y) xs ≡ false → are_distinct same (xs ++ y ∷ []) ≡ true
  distinct_push [] y d apart = refl
  distinct_push (x ∷ xs) y d apart =
      let head : list_any (same x) xs ≡ false = grind arith in
      let tail : are_distinct same xs ≡ true = grind arith in
      let away : same y x ≡ false = grind arith in
      let others : list_any (same y) xs ≡ false = grind arith in
      let none : list_any (same x) (xs ++ y ∷ []) ≡ false = any_push x xs y ∙ (λ i. head i || back y x away i) in
      (λ i. not (none i) && distinct_push xs y tail others i)

  distinct_new : (xs : List A) (y : A) → are_distinct same xs ≡ true → are_distinct same (with_new same xs y) ≡ true
  distinct_new xs y d = by_test (list_any (same y) xs) refl
    where
      by_test : (b : Bool) → list_any (same y) xs ≡ b → are_distinct same (if b then xs else xs ++ y ∷ []) ≡ true
      by_test true among = d
      by_test false among = distinct_push xs y d among

  distinct_fold : (seen xs : List A) → are_distinct same seen ≡ true → are_distinct same (fold (with_new same) seen xs) ≡ true
  distinct_fold seen [] d = d
  distinct_fold seen (y ∷ xs) d = distinct_fold (with_new same seen y) xs (distinct_new seen y d)

  pub distinct_any : (x : A) (xs : List A) → list_any (same x) (distinct same xs) ≡ list_any (same x) xs
  distinct_any x xs = any_fold x [] xs

  pub distinct_is : (xs : List A) → are_distinct same (distinct same xs) ≡ true
  distinct_is xs = distinct_fold [] xs refl

counted : {A : Type 0} (test : A → Bool) (xs : List A) → list_any test xs ≡ true → 0 < length (filter test xs)
counted test [] e = absurd cc
counted {A} test (x ∷ xs) e = by_test (test x) refl e (counted test xs)
  where
    by_test : (b : Bool) → test x ≡ b → (b || list_any test xs) ≡ true → (list_any test xs ≡ true → 0 < length (filter test xs)) → 0 < length (cond b (x ∷ filter test xs) (filter test xs))
    by_test true is e rest = grind arith
    by_test false is e rest = rest e

-- ---- names of bodies

pub pid_sound : (p q : Pid) → same_pid p q ≡ true → p ≡ q
pid_sound p q e =
    let home : p.home ≡ q.home = eqb-true p.home q.home (grind arith) in
    let serial : p.serial ≡ q.serial = eqb-true p.serial q.serial (grind arith) in
    λ i. record { home = home i; serial = serial i }

pub pid_itself : (p : Pid) → same_pid p p ≡ true
pid_itself p = λ i. eq-eqb p.home p.home refl i && eq-eqb p.serial p.serial refl i

view_sound : (v w : View) → same_view v w ≡ true → v ≡ w
view_sound Committed Committed e = refl
view_sound (Own m) (Own n) e = ap (λ n. Own (record { 0 = n })) (eqb-true m.0 n.0 e)
view_sound (Kept s) (Kept t) e = ap (λ n. Kept (record { 0 = n })) (eqb-true s.0 t.0 e)
view_sound Committed (Own n) e = absurd cc
view_sound Committed (Kept t) e = absurd cc
view_sound (Own m) Committed e = absurd cc
view_sound (Own m) (Kept t) e = absurd cc
view_sound (Kept s) Committed e = absurd cc
view_sound (Kept s) (Own n) e = absurd cc

view_itself : (v : View) → same_view v v ≡ true
view_itself Committed = refl
view_itself (Own n) = eq-eqb n.0 n.0 refl
view_itself (Kept s) = eq-eqb s.0 s.0 refl

body_sound : (x y : Body) → same_body x y ≡ true → x ≡ y
body_sound x y e =
    let pid : x.pid ≡ y.pid = pid_sound x.pid y.pid (grind arith) in
    let view : x.view ≡ y.view = view_sound x.view y.view (grind arith) in
    λ i. record { pid = pid i; view = view i }

body_itself : (x : Body) → same_body x x ≡ true
body_itself x = λ i. pid_itself x.pid i && view_itself x.view i

pub bodies_right : BodiesAreAlwaysRight
bodies_right all = record {
  each = λ x. distinct_any same_body body_sound body_itself x all;
  distinct = distinct_is same_body body_sound body_itself all;
  entries = λ x among. counted (same_body x) all (sym (distinct_any same_body body_sound body_itself x all) ∙ among);
}
