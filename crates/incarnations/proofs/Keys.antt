-- The letters of a key tell it apart, and its test of equality tells the same.
use Rattle.std.proofs.Common.{ℕ, ◌≡◌, List, [], ◌∷◌, Bool, true, false, ◌==◌, refl, sym, ap, ◌∙◌}
use Rattle.std.specs.Prelude.{◌&&◌}
use Rattle.std.proofs.lemmas.Bool.{eqb-true, eq-eqb}
use Rattle.std.specs.declared.cmp.Ordering.{Ordering}
use Rattle.std.specs.Ordering.{nat_cmp, eq_by_cmp}
use Rattle.std.specs.Cmp.{on_total}
use Rattle.std.specs.Cmp.Lexicographic.{slice_cmp, nat_list_cmp_total}
use Rattle.std.specs.FinMap.{nat_cmp-IsAntisymmetric, slice_cmp-IsAntisymmetric}
use Rattle.pss_base.specs.declared.pid.Pid.{Pid}
use Rattle.pss_base.specs.declared.session.SessionNo.{SessionNo}
use Rattle.pss_machine.specs.declared.session.View.{View}
use Rattle.pss_machine.specs.declared.session.View.TheVariants.{Committed, Own, Kept}
use Rattle.pss_machine.specs.Same.{same_pid}
use Rattle.pss_machine.specs.Copies.{same_view}
use Rattle.incarnations.specs.declared.names.Slot.{Slot}
use Rattle.incarnations.specs.declared.names.BodyName.{BodyName}
use Rattle.incarnations.specs.declared.names.ObjectName.{ObjectName}
use Rattle.pss_machine.specs.contracts.session.ViewPartialEq.TheImpl.{eq-value as view-eq}
use Rattle.incarnations.specs.contracts.names.BodyNamePartialEq.TheImpl.{eq-value}
use Rattle.incarnations.specs.Keys.{session_letters, slot_letters, object_letters, body_letters, view_letters, session_cmp, slot_cmp, object_cmp, body_cmp}
use Rattle.incarnations.specs.Meaning.{same_slot, same_body}
use Rattle.recent_table.proofs.Maps.{IsKey, tied, tie_self}

-- a key with letters from which it is found again
key_of : {K : Type 0} (letters : K → List ℕ) (again : List ℕ → K) → ((a : K) → again (letters a) ≡ a) → IsKey (λ a b. slice_cmp nat_cmp (letters a) (letters b))
key_of letters again found = record {
  total = on_total letters nat_list_cmp_total;
  alike = λ a b e. sym (found a) ∙ ap again (slice_cmp-IsAntisymmetric nat_cmp-IsAntisymmetric _ _ e) ∙ found b;
}

session_again : List ℕ → SessionNo
session_again [] = record { 0 = 0 }
session_again (s ∷ _) = record { 0 = s }

slot_again : List ℕ → Slot
slot_again [] = record { session = record { 0 = 0 }; number = 0 }
slot_again (s ∷ []) = record { session = record { 0 = s }; number = 0 }
slot_again (s ∷ n ∷ _) = record { session = record { 0 = s }; number = n }

object_again : List ℕ → ObjectName
object_again (s ∷ h ∷ n ∷ _) = record { session = record { 0 = s }; pid = record { home = h; serial = n } }
object_again _ = record { session = record { 0 = 0 }; pid = record { home = 0; serial = 0 } }

view_again : List ℕ → View
view_again [] = Committed
view_again (n ∷ []) = Own (record { 0 = n })
view_again (_ ∷ s ∷ _) = Kept (record { 0 = s })

body_again : List ℕ → BodyName
body_again (h ∷ n ∷ v) = record { pid = record { home = h; serial = n }; view = view_again v }
body_again _ = record { pid = record { home = 0; serial = 0 }; view = Committed }

view_found : (v : View) → view_again (view_letters v) ≡ v
unfolding view_again
view_found Committed = refl
view_found (Own n) = refl
view_found (Kept s) = refl

session_found : (a : SessionNo) → session_again (session_letters a) ≡ a
unfolding session_again
session_found a = refl

slot_found : (a : Slot) → slot_again (slot_letters a) ≡ a
unfolding slot_again
slot_found a = refl

object_found : (a : ObjectName) → object_again (object_letters a) ≡ a
unfolding object_again
object_found a = refl

body_found : (a : BodyName) → body_again (body_letters a) ≡ a
unfolding body_again
body_found a = ap (λ v. record { pid = a.pid; view = v }) (view_found a.view)

pub session_key : IsKey session_cmp
session_key = key_of session_letters session_again session_found

pub slot_key : IsKey slot_cmp
slot_key = key_of slot_letters slot_again slot_found

pub object_key : IsKey object_cmp
object_key = key_of object_letters object_again object_found

pub body_key : IsKey body_cmp
body_key = key_of body_letters body_again body_found

-- ---- tests of equality

both : (a b : Bool) → (a && b) ≡ true → (a ≡ true) × (b ≡ true)
both true b e = (refl, e)
both false b e = absurd (cc)

-- a test that tells keys apart answers as their order does
pub ties : {K : Type 0} {R : K → K → Ordering} → IsKey R → (eq : K → K → Bool) → ((a : K) → eq a a ≡ true) → ((a b : K) → eq a b ≡ true → a ≡ b) → (a b : K) → eq_by_cmp R a b ≡ eq a b
ties {R = R} key eq self told a b = by (eq_by_cmp R a b) (eq a b) refl refl
  where
    by : (s t : Bool) → eq_by_cmp R a b ≡ s → eq a b ≡ t → s ≡ t
    by true t p q = sym (ap (eq a) (sym (tied key a b p)) ∙ self a) ∙ q
    by false true p q = sym p ∙ ap (eq_by_cmp R a) (sym (told a b q)) ∙ tie_self key a
    by false false p q = refl

same_number : (n : ℕ) → (n == n) ≡ true
same_number n = eq-eqb n n refl

and_true : (a b : Bool) → a ≡ true → b ≡ true → (a && b) ≡ true
and_true true b p q = q
and_true false b p q = absurd (cc)

pub pid_self : (p : Pid) → same_pid p p ≡ true
pid_self p = and_true _ _ (same_number p.home) (same_number p.serial)

pub pid_told : (p q : Pid) → same_pid p q ≡ true → p ≡ q
pid_told p q e = let h = both (p.home == q.home) (p.serial == q.serial) e in λ i. record { home = eqb-true p.home q.home h.0 i; serial = eqb-true p.serial q.serial h.1 i }

pub view_self : (v : View) → same_view v v ≡ true
view_self Committed = refl
view_self (Own n) = same_number n.0
view_self (Kept s) = same_number s.0

pub view_told : (v w : View) → same_view v w ≡ true → v ≡ w
view_told Committed Committed e = refl
view_told Committed (Own n) e = absurd (cc)
view_told Committed (Kept s) e = absurd (cc)
view_told (Own m) Committed e = absurd (cc)
view_told (Own m) (Own n) e = ap (λ k. Own (record { 0 = k })) (eqb-true m.0 n.0 e)
view_told (Own m) (Kept s) e = absurd (cc)
view_told (Kept s) Committed e = absurd (cc)
view_told (Kept s) (Own n) e = absurd (cc)
view_told (Kept s) (Kept t) e = ap (λ k. Kept (record { 0 = k })) (eqb-true s.0 t.0 e)

abbrev pub same_session : SessionNo → SessionNo → Bool
same_session a b = a.0 == b.0

abbrev pub same_object : ObjectName → ObjectName → Bool
same_object a b = (a.session.0 == b.session.0) && same_pid a.pid b.pid

-- as `==` is written for names of bodies
abbrev pub same_name : BodyName → BodyName → Bool
same_name a b = eq-value.it a b

derived : (p q : Pid) (v w : View) → same_name (record { pid = p; view = v }) (record { pid = q; view = w }) ≡ same_body (record { pid = p; view = v }) (record { pid = q; view = w })
derived p q Committed Committed = refl
derived p q Committed (Own n) = refl
derived p q Committed (Kept s) = refl
derived p q (Own m) Committed = refl
derived p q (Own m) (Own n) = refl
derived p q (Own m) (Kept s) = refl
derived p q (Kept s) Committed = refl
derived p q (Kept s) (Own n) = refl
derived p q (Kept s) (Kept t) = refl

pub session_told : (a b : SessionNo) → same_session a b ≡ true → a ≡ b
session_told a b e = ap (λ n. record { 0 = n }) (eqb-true a.0 b.0 e)

pub slot_told : (a b : Slot) → same_slot a b ≡ true → a ≡ b
slot_told a b e = let h = both (a.session.0 == b.session.0) (a.number == b.number) e in λ i. record { session = session_told a.session b.session h.0 i; number = eqb-true a.number b.number h.1 i }

pub object_told : (a b : ObjectName) → same_object a b ≡ true → a ≡ b
object_told a b e = let h = both (a.session.0 == b.session.0) (same_pid a.pid b.pid) e in λ i. record { session = session_told a.session b.session h.0 i; pid = pid_told a.pid b.pid h.1 i }

pub body_told : (a b : BodyName) → same_body a b ≡ true → a ≡ b
body_told a b e = let h = both (same_pid a.pid b.pid) (same_view a.view b.view) e in λ i. record { pid = pid_told a.pid b.pid h.0 i; view = view_told a.view b.view h.1 i }

pub slot_self : (a : Slot) → same_slot a a ≡ true
slot_self a = and_true _ _ (same_number a.session.0) (same_number a.number)

pub body_self : (a : BodyName) → same_body a a ≡ true
body_self a = and_true _ _ (pid_self a.pid) (view_self a.view)

pub session_ties : (a b : SessionNo) → eq_by_cmp session_cmp a b ≡ same_session a b
session_ties = ties session_key same_session (λ a. same_number a.0) session_told

pub slot_ties : (a b : Slot) → eq_by_cmp slot_cmp a b ≡ same_slot a b
slot_ties = ties slot_key same_slot slot_self slot_told

pub object_ties : (a b : ObjectName) → eq_by_cmp object_cmp a b ≡ same_object a b
object_ties = ties object_key same_object (λ a. and_true _ _ (same_number a.session.0) (pid_self a.pid)) object_told

pub name_ties : (a b : BodyName) → eq_by_cmp body_cmp a b ≡ same_name a b
name_ties a b = ties body_key same_body body_self body_told a b ∙ sym (derived a.pid b.pid a.view b.view)

-- as `==` is derived for views
pub derived_view : (v w : View) → view-eq.it v w ≡ same_view v w
derived_view Committed Committed = refl
derived_view Committed (Own n) = refl
derived_view Committed (Kept s) = refl
derived_view (Own m) Committed = refl
derived_view (Own m) (Own n) = refl
derived_view (Own m) (Kept s) = refl
derived_view (Kept s) Committed = refl
derived_view (Kept s) (Own n) = refl
derived_view (Kept s) (Kept t) = refl
