-- The test of serials, and what it says.
use Rattle.std.proofs.Common.{ℕ, ◌≡◌, ◌↔◌, ◌&&◌, ◌+◌, ◌<◌, suc, Bool, true, false, IsTrue, nat_lt, List, [], ◌∷◌, ◌++◌, length, map, drop, get_or, refl, sym, ap, ◌∙◌, arith, rules, tests}
use Rattle.std.specs.List.{flat_map}
use Rattle.std.proofs.Math.Seq.{drop-cons}
use Rattle.std.proofs.lemmas.Bool.Decides.{nat_tests}
use Rattle.pss_base.specs.declared.pid.Pid.{Pid}
use Rattle.type_layout.specs.declared.value.Value.{Value}
use Rattle.type_layout.specs.Types.{PlainValue, values_of}
use Rattle.type_layout.specs.Views.{plain_value}
use Rattle.pss_catalog.specs.Catalog.{AreGiven, all_references, references}
use Rattle.pss_recovery.specs.inner.Below.{are_given, is_given}
use Rattle.pss_recovery.proofs.Sizes.{size, sizes}

pub all_of_them : (vs : List PlainValue) → all_references (values_of vs) ≡ flat_map references vs
all_of_them [] = refl
all_of_them (v ∷ vs) = ap (λ l. references v ++ l) (all_of_them vs)

and_assoc : (a b c : Bool) → (a && b) && c ≡ a && (b && c)
and_assoc true b c = refl
and_assoc false b c = refl

pub given_both : (next : ℕ) (ps qs : List Pid) → are_given next (ps ++ qs) ≡ (are_given next ps && are_given next qs)
given_both next [] qs = refl
given_both next (p ∷ ps) qs = ap (λ t. is_given next p.serial && t) (given_both next ps qs) ∙ sym (and_assoc (is_given next p.serial) (are_given next ps) (are_given next qs))

pub and_is : (a b : Bool) → IsTrue (a && b) → IsTrue a × IsTrue b
and_is true b h = (refl, h)
and_is false b h = grind (arith, nat_tests)

and_of : (a b : Bool) → IsTrue a → IsTrue b → IsTrue (a && b)
and_of a b h k = ap (λ t. t && b) h ∙ k

one : (next serial : ℕ) → IsTrue (is_given next serial) ↔ ((0 < serial) × (serial < next))
one next serial = ((λ h. let p = and_is (nat_lt 0 serial) (nat_lt serial next) h in (search (rules, tests), search (rules, tests))), (λ h. and_of (nat_lt 0 serial) (nat_lt serial next) (search (rules, tests)) (search (rules, tests))))

pub are_given_is : (next : ℕ) (ps : List Pid) → IsTrue (are_given next ps) ↔ AreGiven next ps
are_given_is next [] = (λ h. tt, λ h. refl)
are_given_is next (p ∷ ps) = (
  λ h. let parts = and_is (is_given next p.serial) (are_given next ps) h in ((one next p.serial).0 parts.0, (are_given_is next ps).0 parts.1),
  λ h. and_of (is_given next p.serial) (are_given next ps) ((one next p.serial).1 h.0) ((are_given_is next ps).1 h.1),
)

-- from a place on there is this value, and then those behind it
module _ (vs : List Value) (i : ℕ) (v : Value) (lt : i < length vs) (is : v ≡ get_or vs i v) where
  value_there : map plain_value (drop i vs) ≡ plain_value v ∷ map plain_value (drop (i + 1) vs)
  value_there =
      ap (map plain_value) (drop-cons vs i v lt) ∙ ap (λ x. plain_value x ∷ map plain_value (drop (suc i) vs)) (sym is) ∙ ap (λ n. plain_value v ∷ map plain_value (drop n vs)) (let e : suc i ≡ i + 1 = omega arith in e)

  pub sizes_there : sizes (values_of (map plain_value (drop i vs))) ≡ 1 + size (plain_value v) + sizes (values_of (map plain_value (drop (i + 1) vs)))
  sizes_there = ap (λ l. sizes (values_of l)) value_there

  pub given_there : (next : ℕ) → are_given next (all_references (values_of (map plain_value (drop i vs)))) ≡ (are_given next (references (plain_value v)) && are_given next (all_references (values_of (map plain_value (drop (i + 1) vs)))))
  given_there next = ap (λ l. are_given next (all_references (values_of l))) value_there ∙ given_both next (references (plain_value v)) (all_references (values_of (map plain_value (drop (i + 1) vs))))
