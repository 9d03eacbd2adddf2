-- Faults that are noted.
use Rattle.std.proofs.Common.{◌≡◌, ℕ, List, [], ◌∷◌, ◌++◌, Bool, true, false, cond, Option, Some, None, Ordering, Less, Equal, Greater, refl, sym, ap, ◌∙◌, arith, nat_lt, ◌==◌, ◌&&◌, ◌||◌}
use Rattle.std.specs.Ordering.{is_lt, ordering_reverse}
use Rattle.std.specs.Cmp.{IsTotalOrder}
use Rattle.pss_base.specs.declared.place.Place.{Place}
use Rattle.psdl_directory.specs.declared.fault.CheckFault.{CheckFault}
use Rattle.psdl_directory.specs.declared.fault.CheckKind.{CheckKind}
use Rattle.psdl_directory.specs.contracts.fault.CheckKindOrd.TheImpl.Laws.{total-law}
use Rattle.psdl_directory.specs.Fault.{is_before, is_after, fault, fault_if, lesser, least}
use Rattle.psdl_directory.specs.Noting.{noting, comes_first}

module _ {K : Type 0} (R : K → K → Ordering) (total : IsTotalOrder R) where
  is_less : (o : Ordering) → is_lt o ≡ true → o ≡ Less
  is_less Less h = refl
  is_less Equal h = absurd (cc)
  is_less Greater h = absurd (cc)

  pub less_both : (a b c : K) → is_lt (R a b) ≡ true → is_lt (R b c) ≡ true → is_lt (R a c) ≡ true
  less_both a b c p q = ap is_lt (total.trans a b c (is_less (R a b) p) (is_less (R b c) q))

  pub not_less_both : (a b c : K) → is_lt (R a b) ≡ false → is_lt (R b c) ≡ false → is_lt (R a c) ≡ false
  not_less_both a b c p q = by (R a b) refl (R a c) refl
    where
      by : (o : Ordering) → R a b ≡ o → (u : Ordering) → R a c ≡ u → is_lt u ≡ false
      by o e Equal f = refl
      by o e Greater f = refl
      by Less e Less f = sym (ap is_lt e) ∙ p
      by Equal e Less f = sym (ap is_lt f) ∙ ap is_lt (total.congr a b c e) ∙ q
      by Greater e Less f = sym (ap is_lt (total.trans b a c (total.antisymm b a ∙ ap ordering_reverse e) f)) ∙ q

before_both : (a b c : CheckKind) → is_before a b ≡ true → is_before b c ≡ true → is_before a c ≡ true
unfolding is_before
before_both a b c p q = less_both _ total-law a b c p q

not_before_both : (a b c : CheckKind) → is_before a b ≡ false → is_before b c ≡ false → is_before a c ≡ false
unfolding is_before
not_before_both a b c p q = not_less_both _ total-law a b c p q

-- by place p against place q, where the kind is before the other, or not
abbrev after : ℕ → ℕ → Bool → Bool
after p q before = nat_lt q p || ((q == p) && before)

after_both_plain : (p q r : ℕ) (x y z : Bool) → (x ≡ true → y ≡ true → z ≡ true) → after p q x ≡ true → after q r y ≡ true → after p r z ≡ true
after_both_plain p q r true true z both f g = rw (both refl refl) (grind arith)
after_both_plain p q r true false z both f g = grind arith
after_both_plain p q r false y z both f g = grind arith

not_after_both_plain : (p q r : ℕ) (x y z : Bool) → (x ≡ false → y ≡ false → z ≡ false) → after p q x ≡ false → after q r y ≡ false → after p r z ≡ false
not_after_both_plain p q r false false z both f g = rw (both refl refl) (grind arith)
not_after_both_plain p q r true y z both f g = grind arith
not_after_both_plain p q r false true z both f g = grind arith

after_both : (a b c : CheckFault) → is_after a b ≡ true → is_after b c ≡ true → is_after a c ≡ true
after_both a b c p q =
    after_both_plain a.place.offset b.place.offset c.place.offset (is_before b.kind a.kind) (is_before c.kind b.kind) (is_before c.kind a.kind) (λ x y. before_both c.kind b.kind a.kind y x) p q

pub not_after_both : (a b c : CheckFault) → is_after a b ≡ false → is_after b c ≡ false → is_after a c ≡ false
not_after_both a b c p q =
    not_after_both_plain a.place.offset b.place.offset c.place.offset (is_before b.kind a.kind) (is_before c.kind b.kind) (is_before c.kind a.kind) (λ x y. not_before_both c.kind b.kind a.kind y x) p q

-- a kind that is not before another, at one place
pub not_after_alike : (kind other : CheckKind) (place : Place) → is_before kind other ≡ false → is_after (fault other place) (fault kind place) ≡ false
not_after_alike kind other place late = rw late (grind arith)

of_three : (a b c : CheckFault) (x y : Bool) → is_after a b ≡ x → is_after b c ≡ y
    → lesser (cond x (Some b) (Some a)) (Some c) ≡ lesser (Some a) (cond y (Some c) (Some b))
of_three a b c true true p q = rw (q, after_both a b c p q) refl
of_three a b c true false p q = rw (q, p) refl
of_three a b c false true p q = refl
of_three a b c false false p q = rw (p, not_after_both a b c p q) refl

pub lesser-assoc : (a b c : Option CheckFault) → lesser (lesser a b) c ≡ lesser a (lesser b c)
lesser-assoc None b c = refl
lesser-assoc (Some a) None c = refl
lesser-assoc (Some a) (Some b) None = at_none (is_after a b)
  where
    at_none : (x : Bool) → lesser (cond x (Some b) (Some a)) None ≡ cond x (Some b) (Some a)
    at_none true = refl
    at_none false = refl
lesser-assoc (Some a) (Some b) (Some c) = of_three a b c (is_after a b) (is_after b c) refl refl

pub lesser_none : (o : Option CheckFault) → lesser o None ≡ o
lesser_none None = refl
lesser_none (Some f) = refl

pub noting-append : (first : Option CheckFault) (xs ys : List CheckFault) → noting first (xs ++ ys) ≡ noting (noting first xs) ys
noting-append first [] ys = refl
noting-append first (x ∷ xs) ys = noting-append (lesser first (Some x)) xs ys

noting_from : (first : Option CheckFault) (fs : List CheckFault) → noting first fs ≡ lesser first (least fs)
noting_from first [] = sym (lesser_none first)
noting_from first (f ∷ fs) = noting_from (lesser first (Some f)) fs ∙ lesser-assoc first (Some f) (least fs)

pub noting-least : (fs : List CheckFault) → noting None fs ≡ least fs
noting-least fs = noting_from None fs

pub late : (first : Option CheckFault) (kind : CheckKind) (place : Place) (holds : Bool) → comes_first first kind place ≡ false → noting first (fault_if holds kind place) ≡ first
late first kind place false no_first = refl
late None kind place true no_first = absurd (cc)
late (Some first) kind place true no_first = rw no_first refl
