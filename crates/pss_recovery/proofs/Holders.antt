-- Which keys are held.
use Rattle.std.proofs.Common.{ℕ, zero, suc, ◌≡◌, ◌+◌, ◌<◌, ◌==◌, ◌&&◌, ◌||◌, Bool, true, false, List, [], ◌∷◌, length, map, take, get_or, Option, None, Some, refl, sym, ap, ◌∙◌, subst, arith, eq-eqb}
use Rattle.std.proofs.lemmas.Bool.{false≢true}
use Rattle.std.proofs.lemmas.Slice.Eq.{bytes_eq-Decides}
use Rattle.std.specs.Option.{option_to_list}
use Rattle.std.specs.Str.{bytes_eq}
use Rattle.pss_base.specs.declared.pid.Pid.{Pid}
use Rattle.type_layout.specs.declared.key.KeyNo.{KeyNo}
use Rattle.type_layout.specs.declared.schema.Schema.{Schema}
use Rattle.pss_catalog.specs.Catalog.{Catalog, Object, holders}
use Rattle.storage_home.specs.declared.homes.Homes.{Homes}
use Rattle.storage_home.specs.Applied.{AreKeysOf}
use Rattle.storage_home.specs.Kept.{IsKept}
use Rattle.storage_home.specs.Indexes.{found_at, is_pair, lists}
use Rattle.storage_home.proofs.Finding.{holder_is}
use Rattle.storage_home.proofs.Places.{by_test, same_number}
use Rattle.pss_recovery.proofs.Givens.{and_is}
use Rattle.pss_recovery.specs.Loading.{IsFree}
use Rattle.pss_recovery.specs.inner.Held.{IsHeld, NoneHeld}

same_option : (a b : Option ℕ) → option_to_list a ≡ option_to_list b → a ≡ b
same_option None None e = refl
same_option None (Some y) e = cc
same_option (Some x) None e = cc
same_option (Some x) (Some y) e = cc

module _ (S : Schema) (M : Catalog) (homes : Homes) (kept : IsKept S M homes) (key : KeyNo) (bytes : List ℕ) where
  pub found_is : (found : Option ℕ) → map (λ (pid : Pid). pid.serial) (holders S M key bytes) ≡ option_to_list found → found_at homes.keys key.0 bytes ≡ found
  found_is found e = sym (same_option found (found_at homes.keys key.0 bytes) (sym e ∙ holder_is S M homes kept key bytes))

  pub held : (serial : ℕ) → map (λ (pid : Pid). pid.serial) (holders S M key bytes) ≡ option_to_list (Some serial) → IsHeld S M key bytes
  held serial e = (serial, (kept.keys key bytes serial).0 (found_is (Some serial) e))

  pub not_held : map (λ (pid : Pid). pid.serial) (holders S M key bytes) ≡ option_to_list {X = ℕ} None → IsHeld S M key bytes → ⊥
  not_held e h = let a = (kept.keys key bytes h.0).1 h.1 in let b = found_is None e in let no : Some h.0 ≡ None = sym a ∙ b in cc

pair_is : (pair : KeyNo × List ℕ) (key : KeyNo) (bytes : List ℕ) → is_pair pair key.0 bytes ≡ true → (pair.0 ≡ key) × (pair.1 ≡ bytes)
pair_is pair key bytes e =
    let parts = and_is (pair.0.0 == key.0) (bytes_eq bytes pair.1) e in
    ((λ i. record { 0 = same_number pair.0.0 key.0 parts.0 i }), sym ((bytes_eq-Decides bytes pair.1).0 parts.1))

module _ (S : Schema) (M : Catalog) where
  -- a listed pair is not held
  listed_free : (pairs : List (KeyNo × List ℕ)) (key : KeyNo) (bytes : List ℕ) → NoneHeld S M pairs → lists pairs key.0 bytes ≡ true → IsHeld S M key bytes → ⊥
  listed_free [] key bytes none e held = false≢true e
  listed_free (pair ∷ pairs) key bytes none e held =
      by_test (λ t. is_pair pair key.0 bytes ≡ t → (t || lists pairs key.0 bytes) ≡ true → ⊥) (is_pair pair key.0 bytes)
      (λ _ here _. let p = pair_is pair key bytes here in none.0 (subst (λ (k : KeyNo). IsHeld S M k pair.1) (sym p.0) (subst (λ (b : List ℕ). IsHeld S M key b) (sym p.1) held)))
      (λ _ _ there. listed_free pairs key bytes none.1 there held) refl e

  pub free_of : (object : Object) (pairs : List (KeyNo × List ℕ)) → AreKeysOf S (Some object) pairs → NoneHeld S M pairs → IsFree S M object
  free_of object pairs keys none = λ key bytes serial other there other_holds holds_it. listed_free pairs key bytes none (keys.listed key bytes ∙ holds_it) (serial, (other, there, other_holds))

  pub not_free : (object : Object) (pairs : List (KeyNo × List ℕ)) (pair : KeyNo × List ℕ) → AreKeysOf S (Some object) pairs → lists pairs pair.0.0 pair.1 ≡ true → IsHeld S M pair.0 pair.1 → IsFree S M object → ⊥
  not_free object pairs pair keys listed held free = free pair.0 pair.1 held.0 held.1.0 held.1.1 held.1.2 (sym (keys.listed pair.0 pair.1) ∙ listed)

  pub none_more : (pairs : List (KeyNo × List ℕ)) (i : ℕ) (pair : KeyNo × List ℕ) → i < length pairs → pair ≡ get_or pairs i pair → NoneHeld S M (take i pairs) → (IsHeld S M pair.0 pair.1 → ⊥) → NoneHeld S M (take (i + 1) pairs)
  none_more pairs i pair lt is none here = subst (λ n. NoneHeld S M (take n pairs)) (let e : suc i ≡ i + 1 = omega arith in e) (by pairs i lt is none)
    where
      by : (ps : List (KeyNo × List ℕ)) (i : ℕ) → i < length ps → pair ≡ get_or ps i pair → NoneHeld S M (take i ps) → NoneHeld S M (take (suc i) ps)
      by [] i lt is none = absurd (omega (arith, lt))
      by (p ∷ ps) zero lt is none = (subst (λ (q : KeyNo × List ℕ). IsHeld S M q.0 q.1 → ⊥) is here, tt)
      by (p ∷ ps) (suc i) lt is none = (none.0, by ps i (omega (arith, lt)) is none.1)

-- a pair is listed where it stands
pub listed_at : (pairs : List (KeyNo × List ℕ)) (i : ℕ) (pair : KeyNo × List ℕ) → i < length pairs → pair ≡ get_or pairs i pair → lists pairs pair.0.0 pair.1 ≡ true
listed_at [] i pair lt is = absurd (omega (arith, lt))
listed_at (p ∷ ps) zero pair lt is =
    ap (λ t. t || lists ps pair.0.0 pair.1) (ap (λ (q : KeyNo × List ℕ). is_pair q pair.0.0 pair.1) (sym is) ∙ ap (λ b. b && bytes_eq pair.1 pair.1) (eq-eqb pair.0.0 pair.0.0 refl) ∙ (bytes_eq-Decides pair.1 pair.1).1 refl)
listed_at (p ∷ ps) (suc i) pair lt is = ap (λ t. is_pair p pair.0.0 pair.1 || t) (listed_at ps i pair (omega (arith, lt)) is) ∙ or_true (is_pair p pair.0.0 pair.1)
  where
    or_true : (b : Bool) → (b || true) ≡ true
    or_true true = refl
    or_true false = refl
