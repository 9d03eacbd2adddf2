-- Pages are touched by changes, one change after the other.
use Rattle.std.proofs.Common.{ℕ, ◌≡◌, ◌==◌, ◌||◌, Bool, true, false, cond, List, [], ◌∷◌, ◌++◌, Some, None, refl, sym, ap, ◌∙◌}
use Rattle.std.proofs.lemmas.Bool.{eqb-true, false≢true}
use Rattle.std.specs.FinMap as finite
use Rattle.std.specs.List.{list_any}
use Rattle.std.specs.declared.option.Option.{Option}
use Rattle.pss_base.specs.declared.put.Put.{Put}
use Rattle.page_store.specs.Placed.{is_noted, slot_under}
use Rattle.page_store.specs.Touched.{is_in, is_touched, under_serials}
use Rattle.page_store.proofs.ByKey.{get_entries}
use Rattle.page_store.proofs.Located.{touched_by}

or_joined : (a b c : Bool) → (a || (b || c)) ≡ ((a || b) || c)
or_joined true b c = refl
or_joined false b c = refl

or_none : (a : Bool) → (a || false) ≡ a
or_none true = refl
or_none false = refl

or_turned : (a b : Bool) → (a || b) ≡ (b || a)
or_turned true true = refl
or_turned true false = refl
or_turned false true = refl
or_turned false false = refl

any_last : {X : Type 0} (p : X → Bool) (xs : List X) (x : X) → list_any p (xs ++ x ∷ []) ≡ (list_any p xs || p x)
any_last p [] x = or_none (p x)
any_last p (y ∷ xs) x = ap (λ b. p y || b) (any_last p xs x) ∙ or_joined (p y) (list_any p xs) (p x)

in_slot : (s : ℕ) (o : Option ℕ) → is_in s o ≡ true → o ≡ Some s
in_slot s None is = absurd (false≢true is)
in_slot s (Some t) is = ap Some (eqb-true t s is)

-- a page is touched where it was, or where it holds the object of one more change
pub touched_more : (es : List (ℕ × ℕ)) (puts : List Put) (put : Put) (s : ℕ) (o : Option ℕ) (m : Bool) → o ≡ cond (is_noted put.serial puts) None (slot_under put.serial es)
    → (is_in s o || (is_touched (under_serials es) puts s || m)) ≡ (is_touched (under_serials es) (puts ++ put ∷ []) s || m)
touched_more es puts put s o m there = by (is_noted put.serial puts) refl there ∙ ap (λ b. b || m) (sym (any_last (λ (p : Put). is_in s (finite.get (under_serials es) p.serial)) puts put))
  where
    was : (b t : Bool) → (b ≡ true → t ≡ true) → (t || m) ≡ ((t || b) || m)
    was true t more = ap (λ c. c || m) (more refl ∙ ap (λ c. c || true) (sym (more refl)))
    was false t more = ap (λ c. c || m) (sym (or_none t))

    by : (n : Bool) → is_noted put.serial puts ≡ n → o ≡ cond n None (slot_under put.serial es)
        → (is_in s o || (is_touched (under_serials es) puts s || m)) ≡ ((is_touched (under_serials es) puts s || is_in s (finite.get (under_serials es) put.serial)) || m)
    by true noted gone =
        ap (λ p. is_in s p || (is_touched (under_serials es) puts s || m)) gone
        ∙ was (is_in s (finite.get (under_serials es) put.serial)) (is_touched (under_serials es) puts s) (λ is. touched_by (under_serials es) puts put.serial s (in_slot s (finite.get (under_serials es) put.serial) is) noted)
    by false new still =
        ap (λ p. is_in s p || (is_touched (under_serials es) puts s || m)) (still ∙ sym (get_entries es put.serial))
        ∙ or_joined (is_in s (finite.get (under_serials es) put.serial)) (is_touched (under_serials es) puts s) m
        ∙ ap (λ b. b || m) (or_turned (is_in s (finite.get (under_serials es) put.serial)) (is_touched (under_serials es) puts s))

-- an object has no place where it had none, or where it is that of one more change
pub noted_more : (puts : List Put) (put : Put) (q : ℕ) (o : Option ℕ) → cond (put.serial == q) None (cond (is_noted q puts) None o) ≡ cond (is_noted q (puts ++ put ∷ [])) None o
noted_more puts put q o = by (put.serial == q) (is_noted q puts) ∙ ap (λ b. cond b None o) (sym (any_last (λ (p : Put). p.serial == q) puts put))
  where
    by : (b n : Bool) → cond b None (cond n None o) ≡ cond (n || b) None o
    by true true = refl
    by true false = refl
    by false true = refl
    by false false = refl

-- where no objects are kept, no page is touched
pub none_touched : (es : List (ℕ × ℕ)) (puts : List Put) (s : ℕ) (m : Bool) → es ≡ [] → m ≡ (is_touched (under_serials es) puts s || m)
none_touched es puts s m none = sym (ap (λ (ps : List (ℕ × ℕ)). is_touched (under_serials ps) puts s || m) none ∙ ap (λ b. b || m) (by puts))
  where
    by : (ps : List Put) → is_touched (under_serials []) ps s ≡ false
    by [] = refl
    by (p ∷ ps) = ap (λ o. is_in s o || is_touched (under_serials []) ps s) (get_entries [] p.serial) ∙ by ps

-- and none of them has a place
pub none_placed : (es : List (ℕ × ℕ)) (puts : List Put) (q : ℕ) → es ≡ [] → slot_under q es ≡ cond (is_noted q puts) None (slot_under q es)
none_placed es puts q none = ap (slot_under q) none ∙ by (is_noted q puts) ∙ ap (λ (ps : List (ℕ × ℕ)). cond (is_noted q puts) None (slot_under q ps)) (sym none)
  where
    by : (b : Bool) → slot_under q [] ≡ cond b None (slot_under q [])
    by true = refl
    by false = refl
