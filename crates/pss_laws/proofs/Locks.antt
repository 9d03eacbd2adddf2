-- Locks of owners side by side.
use Rattle.std.proofs.Common.{◌≡◌, ℕ, Bool, true, false, cond, not, ◌==◌, ◌&&◌, List, [], ◌∷◌, Option, Some, None, refl, sym, ap, ◌∙◌, inl, inr, arith}
use Rattle.std.specs.Prelude.{◌||◌, ◌⊎◌, find}
use Rattle.std.specs.List.{list_any}
use Rattle.std.specs.Option.{option_map}
use Rattle.std.specs.Ordering.{nat_cmp, eq_by_cmp}
use Rattle.std.specs.Cmp.{Equal-is}
use Rattle.std.proofs.lemmas.Cmp.{tied_itself}
use Rattle.std.specs.FinMap as finite
use Rattle.std.specs.FinMap.{get, entries, get-entries}
use Rattle.std.specs.FinSet as set
use Rattle.std.specs.FinSet.{contains, contains-union, contains-from_list, contains-items, contains-empty}
use Rattle.std.proofs.lemmas.Bool.{eqb-true, eq-eqb}
use Rattle.std.proofs.lemmas.Slice.Eq.{bytes_eq-Decides}
use Rattle.pss_base.specs.declared.owner.OwnerNo.{OwnerNo}
use Rattle.pss_machine.specs.declared.level.Level.{Level}
use Rattle.pss_machine.specs.declared.lock.Resource.{Resource}
use Rattle.pss_machine.specs.declared.lock.Resource.TheVariants as resource
use Rattle.pss_machine.specs.declared.lock.Mode.{Mode}
use Rattle.pss_machine.specs.declared.lock.Mode.TheVariants.{S as Read, M as Many, X as Write}
use Rattle.pss_machine.specs.declared.lock.Need.{Need}
use Rattle.pss_machine.specs.Needs.{need_cmp, same_resource, go_together, clash, hold_up}
use Rattle.pss_machine.specs.Owners.{Owner, Owners, new_owner, blocker, Step, stepped}
use Rattle.pss_machine.proofs.Maps.{tied}
use Rattle.pss_machine.proofs.NeedSets.{need_total, need_apart}
use Rattle.pss_laws.specs.Within.{Among, changing, to_change}
use Rattle.pss_laws.specs.Sound.{Holds}
use Rattle.pss_laws.proofs.Logic.{unlike, and_both, or_either, or_right, or_no_left, or_no_right}

-- ---- what an owner has locked after a step

among_listed : (xs : List Need) (x : Need) → Among xs x → list_any (eq_by_cmp need_cmp x) xs ≡ true
among_listed [] x h = absurd h
among_listed (y ∷ ys) x (inl e) =
    let itself : eq_by_cmp need_cmp x x ≡ true = (Equal-is (need_cmp x x)).1 (tied_itself need_total x) in
    ap (λ (b : Bool). b || list_any (eq_by_cmp need_cmp x) ys) (ap (eq_by_cmp need_cmp x) e ∙ itself)
among_listed (y ∷ ys) x (inr h) = or_right (eq_by_cmp need_cmp x y) (list_any (eq_by_cmp need_cmp x) ys) (among_listed ys x h)

listed_among : (xs : List Need) (x : Need) → list_any (eq_by_cmp need_cmp x) xs ≡ true → Among xs x
listed_among [] x e = unlike e
listed_among (y ∷ ys) x e = elim (or_either (eq_by_cmp need_cmp x y) (list_any (eq_by_cmp need_cmp x) ys) e) [ inl p ↦ inl (sym (need_apart x y ((Equal-is (need_cmp x y)).0 p))) | inr p ↦ inr (listed_among ys x p) ]

has_after : (step : Step) (owner : Owner) (x : Need) → contains (stepped step owner).locks x ≡ (contains owner.locks x || list_any (eq_by_cmp need_cmp x) step.needs)
has_after step owner x = contains-union need_total owner.locks (set.from_list step.needs) x ∙ ap (λ (b : Bool). contains owner.locks x || b) (contains-from_list need_total step.needs x)

pub holds_old : (step : Step) (owner : Owner) (x : Need) → Holds owner x → Holds (stepped step owner) x
holds_old step owner x h = has_after step owner x ∙ ap (λ (b : Bool). b || list_any (eq_by_cmp need_cmp x) step.needs) h

pub holds_new : (step : Step) (owner : Owner) (x : Need) → Among step.needs x → Holds (stepped step owner) x
holds_new step owner x h = has_after step owner x ∙ or_right (contains owner.locks x) (list_any (eq_by_cmp need_cmp x) step.needs) (among_listed step.needs x h)

pub holds_either : (step : Step) (owner : Owner) (x : Need) → Holds (stepped step owner) x → Holds owner x ⊎ Among step.needs x
holds_either step owner x h =
    elim (or_either (contains owner.locks x) (list_any (eq_by_cmp need_cmp x) step.needs) (sym (has_after step owner x) ∙ h)) [ inl p ↦ inl p | inr p ↦ inr (listed_among step.needs x p) ]

pub holds_none : (level : Level) (x : Need) → Holds (new_owner level) x → ⊥
holds_none level x h = unlike (sym (contains-empty need_cmp x) ∙ h)

-- ---- what clashes

same_self : (r : Resource) → same_resource r r ≡ true
same_self (resource.Object s) = eq-eqb s s refl
same_self (resource.Key k bytes) = and_both _ _ (eq-eqb k k refl) ((bytes_eq-Decides bytes bytes).1 refl)
same_self (resource.Extent h) = eq-eqb h h refl

apart_modes : (r : Resource) (mode : Mode) → (mode ≡ Many → ⊥) → go_together (changing r) mode ≡ false
apart_modes r Many differ = absurd (differ refl)
apart_modes (resource.Object s) Read differ = refl
apart_modes (resource.Object s) Write differ = refl
apart_modes (resource.Key k bytes) Read differ = refl
apart_modes (resource.Key k bytes) Write differ = refl
apart_modes (resource.Extent h) Read differ = refl
apart_modes (resource.Extent h) Write differ = refl

-- to be changed and to be read or written clash
pub changing_clashes : (r : Resource) (mode : Mode) → (mode ≡ Many → ⊥) → clash (to_change r) (record { resource = r; mode = mode }) ≡ true
changing_clashes r mode differ = and_both _ _ (same_self r) (ap not (apart_modes r mode differ))

-- ---- what holds up nobody

none_among : (test : Need → Bool) (x : Need) (xs : List Need) → list_any test xs ≡ false → Among xs x → test x ≡ false
none_among test x [] none h = absurd h
none_among test x (w ∷ ws) none (inl e) = ap test (sym e) ∙ or_no_left (test w) (list_any test ws) none
none_among test x (w ∷ ws) none (inr h) = none_among test x ws (or_no_right (test w) (list_any test ws) none) h

none_passes : {A : Type 0} (test : ℕ × A → Bool) (q : ℕ) (x : A) (es : List (ℕ × A)) → find test es ≡ None → finite.find nat_cmp q es ≡ Some x → test (q, x) ≡ false
none_passes test q x [] none there = absurd cc
none_passes {A} test q x (e ∷ es) none there = by_head (eq_by_cmp nat_cmp q e.0) refl there (test e) refl none (none_passes test q x es)
  where
    by_head : (t : Bool) → eq_by_cmp nat_cmp q e.0 ≡ t → cond t (Some e.1) (finite.find nat_cmp q es) ≡ Some x → (b : Bool) → test e ≡ b → cond b (Some e) (find test es) ≡ None
        → (find test es ≡ None → finite.find nat_cmp q es ≡ Some x → test (q, x) ≡ false) → test (q, x) ≡ false
    by_head t tie there true is none rest = absurd cc
    by_head false tie there false is none rest = rest none there
    by_head true tie there false is none rest =
        let key : q ≡ e.0 = tied q e.0 tie in
        let thing : x ≡ e.1 = grind arith in
        (λ i. test (key i, thing i)) ∙ is

pub unblocked : (owners : Owners) (n : OwnerNo) (wanted : List Need) → blocker owners n wanted ≡ None → (m : ℕ) (b : Owner) (y w : Need) → get owners m ≡ Some b → (m ≡ n.0 → ⊥) → Holds b y → Among wanted w → clash y w ≡ false
unblocked owners n wanted free m b y w there differ has among =
    let none : find (λ e. not (e.0 == n.0) && hold_up e.1.locks wanted) (entries owners) ≡ None = unmapped (find (λ e. not (e.0 == n.0) && hold_up e.1.locks wanted) (entries owners)) free in
    let passes : (not (m == n.0) && hold_up b.locks wanted) ≡ false = none_passes (λ e. not (e.0 == n.0) && hold_up e.1.locks wanted) m b (entries owners) none (sym (get-entries owners m) ∙ there) in
    let held : hold_up b.locks wanted ≡ false = only_second (m == n.0) (hold_up b.locks wanted) (λ same. differ (eqb-true m n.0 same)) passes in
    none_among (clash y) w wanted (none_among (λ x. list_any (clash x) wanted) y (set.items b.locks) held (listed_among (set.items b.locks) y (sym (contains-items b.locks y) ∙ has))) among
  where
    unmapped : (o : Option (ℕ × Owner)) → option_map {U = OwnerNo} (λ e. record { 0 = e.0 }) o ≡ None → o ≡ None
    unmapped None e = refl
    unmapped (Some x) e = absurd cc

    only_second : (s h : Bool) → (s ≡ true → ⊥) → (not s && h) ≡ false → h ≡ false
    only_second true h differ e = absurd (differ refl)
    only_second false h differ e = e

pub listed_holds : (xs : List Need) (x : Need) → Among xs x → contains (set.from_list {R = need_cmp} xs) x ≡ true
listed_holds xs x h = contains-from_list need_total xs x ∙ among_listed xs x h
