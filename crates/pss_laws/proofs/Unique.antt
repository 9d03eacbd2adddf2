-- No operation gives a key a second holder, and none but a create gives an object.
use Rattle.std.proofs.Common.{◌≡◌, ℕ, Bool, true, false, cond, ◌==◌, List, [], ◌∷◌, length, Option, Some, None, refl, sym, ap, subst, ◌∙◌}
use Rattle.std.specs.Prelude.{find, nat_lt, ◌||◌, if◌then◌else◌}
use Rattle.std.specs.List.{list_any, flat_map}
use Rattle.std.specs.FinMap.{get}
use Rattle.std.specs.Str.{bytes_eq}
use Rattle.std.proofs.lemmas.Bool.{eqb-true, eq-eqb}
use Rattle.std.proofs.lemmas.Slice.Eq.{bytes_eq-Decides}
use Rattle.pss_base.specs.declared.pid.Pid.{Pid}
use Rattle.type_layout.specs.declared.key.KeyNo.{KeyNo}
use Rattle.type_layout.specs.declared.schema.Schema.{Schema}
use Rattle.type_layout.specs.Keys.{key_bytes}
use Rattle.type_layout.specs.Schemas.{given, home_at, has_key, keys_at}
use Rattle.pss_catalog.specs.Catalog.{Object, Catalog, holders, references, without, IsUnique, object_spelling}
use Rattle.pss_catalog.specs.Changes.{over}
use Rattle.pss_catalog.specs.Laws.{HasNoRival}
use Rattle.pss_catalog.proofs.Uniqueness.{unique_with, unique_without}
use Rattle.pss_machine.specs.Operations.{PlainOp, Create, Set, Destroy, Ask, PlainAnswer, Done, Found, Duplicate, TooLarge}
use Rattle.pss_machine.specs.Alone.{Outcome, answers, pid_at, object_of, first_gone, is_taken, first_taken, stored, with_member, alone}
use Rattle.pss_machine.proofs.Cases.{of_given, of_if}
use Rattle.pss_laws.specs.Operations.{IsApartFrom}
use Rattle.pss_laws.proofs.Logic.{unlike, and_left, and_right}
use Rattle.pss_laws.proofs.Listing.{no_others}
use Rattle.pss_laws.proofs.Footprint.{same_key, keyed, object_there, get_one}

find_none : (test : KeyNo → Bool) (ks : List KeyNo) (k : KeyNo) → find test ks ≡ None → list_any (λ j. j.0 == k.0) ks ≡ true → test k ≡ false
find_none test [] k none e = unlike e
find_none test (i ∷ ks) k none e = by_test (test i) refl none (λ none e. find_none test ks k none e)
  where
    by_key : (b : Bool) → (i.0 == k.0) ≡ b → (b || list_any (λ j. j.0 == k.0) ks) ≡ true → test i ≡ false → (list_any (λ j. j.0 == k.0) ks ≡ true → test k ≡ false) → test k ≡ false
    by_key true is e not_here rest = ap test (sym (same_key i k is)) ∙ not_here
    by_key false is e not_here rest = rest e

    by_test : (b : Bool) → test i ≡ b → cond b (Some i) (find test ks) ≡ None → (find test ks ≡ None → list_any (λ j. j.0 == k.0) ks ≡ true → test k ≡ false) → test k ≡ false
    by_test true is none rest = absurd cc
    by_test false is none rest = by_key (i.0 == k.0) refl e is (rest none)

module _ (S : Schema) (M : Catalog) where
  -- where no key is taken, none is held by another
  no_rival : (s : ℕ) (object : Object) → first_taken S M s object ≡ None → HasNoRival S M s object
  no_rival s object none k bytes passes =
      let there : list_any (λ j. j.0 == k.0) (keys_at S object.home) ≡ true = sym (keyed S object.home k) ∙ and_left (given (home_at S object.home) false (λ home. has_key home k)) (bytes_eq (key_bytes S k object.values) bytes) passes in
      let same : key_bytes S k object.values ≡ bytes = (bytes_eq-Decides (key_bytes S k object.values) bytes).0 (and_right (given (home_at S object.home) false (λ home. has_key home k)) (bytes_eq (key_bytes S k object.values) bytes) passes) in
      let free : is_taken S M s object k ≡ false = find_none (is_taken S M s object) (keys_at S object.home) k none there in
      subst (λ (b : List ℕ). without s (holders S M k b) ≡ []) same (no_others s (holders S M k (key_bytes S k object.values)) free)

  abbrev KeepsUnique : Outcome → Type 0
  KeepsUnique outcome = IsUnique S (over M outcome.changes)

  stored_unique : IsUnique S M → (s : ℕ) (object : Object) (done : PlainAnswer) → KeepsUnique (stored S M s object done)
  stored_unique unique s object done =
      by_taken (first_taken S M s object) refl
    where
      by_taken : (o : Option KeyNo) → first_taken S M s object ≡ o → KeepsUnique (given o (if nat_lt 8000 (length (object_spelling S object)) then answers TooLarge else record { changes = record { serial = s; state = Some object } ∷ []; answer = done }) (λ k. answers (Duplicate k)))
      by_taken (Some k) e = unique
      by_taken None e = of_if KeepsUnique (nat_lt 8000 (length (object_spelling S object))) _ _ unique ((unique_with S M s object).1 (unique_without S M s unique, no_rival s object e))

  pub stays_unique : (op : PlainOp) → IsUnique S M → KeepsUnique (alone S M op)
  stays_unique (Create serial object) unique = of_given KeepsUnique (first_gone M (flat_map references object.values)) _ _ (stored_unique unique serial object (Found (pid_at serial object))) (λ q e. unique)
  stays_unique (Set p member value) unique =
      of_given KeepsUnique (object_of M p) _ _ unique (λ object e. of_given KeepsUnique (first_gone M (references value)) _ _ (stored_unique unique p.serial (with_member object member value) Done) (λ q e. unique))
  stays_unique (Destroy p) unique = of_given KeepsUnique (object_of M p) _ _ unique (λ object e. unique_without S M p.serial unique)
  stays_unique (Ask question) unique = unique

-- ---- no object comes but by a create

module _ (S : Schema) (M : Catalog) (t : ℕ) (none : get M t ≡ None) where
  abbrev Stays : Outcome → Type 0
  Stays outcome = get (over M outcome.changes) t ≡ None

  one_stays : (s : ℕ) (x : Option Object) → (t == s) ≡ false → get (over M (record { serial = s; state = x } ∷ [])) t ≡ None
  one_stays s x apart = get_one S M s x t ∙ by_place (s == t) refl
    where
      by_place : (b : Bool) → (s == t) ≡ b → cond b x (get M t) ≡ None
      by_place false is = none
      by_place true is = unlike (sym apart ∙ eq-eqb t s (sym (eqb-true s t is)))

  stored_stays : (s : ℕ) (object : Object) (a : PlainAnswer) → (t == s) ≡ false → Stays (stored S M s object a)
  stored_stays s object a apart = of_given Stays (first_taken S M s object) _ _ (of_if Stays (nat_lt 8000 (length (object_spelling S object))) _ _ none (one_stays s (Some object) apart)) (λ k e. none)

  -- an object that is there has another serial
  there_apart : (p : Pid) (object : Object) → object_of M p ≡ Some object → (t == p.serial) ≡ false
  there_apart p object e = by_place (t == p.serial) refl
    where
      by_place : (b : Bool) → (t == p.serial) ≡ b → b ≡ false
      by_place false is = refl
      by_place true is = absurd (no (sym none ∙ ap (get M) (eqb-true t p.serial is) ∙ object_there M p object e))
        where
          no : None ≡ Some object → ⊥
          no e = cc

  pub stays_none : (op : PlainOp) → IsApartFrom t op → Stays (alone S M op)
  stays_none (Create serial object) apart = of_given Stays (first_gone M (flat_map references object.values)) _ _ (stored_stays serial object (Found (pid_at serial object)) apart) (λ q e. none)
  stays_none (Set p member value) apart =
      of_given Stays (object_of M p) _ _ none (λ object e. of_given Stays (first_gone M (references value)) _ _ (stored_stays p.serial (with_member object member value) Done (there_apart p object e)) (λ q f. none))
  stays_none (Destroy p) apart = of_given Stays (object_of M p) _ _ none (λ object e. one_stays p.serial None (there_apart p object e))
  stays_none (Ask question) apart = none
