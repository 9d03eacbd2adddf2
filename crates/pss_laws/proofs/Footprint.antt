-- An operation changes only what it needs to be changed.
use Rattle.std.proofs.Common.{◌≡◌, ℕ, Bool, true, false, cond, not, ◌==◌, ◌&&◌, List, [], ◌∷◌, ◌++◌, length, Option, Some, None, refl, sym, ap, subst, ◌∙◌, inl, inr}
use Rattle.std.specs.Prelude.{filter, nat_lt, ◌||◌, unwrap_or}
use Rattle.std.specs.List.{list_any, flat_map}
use Rattle.std.specs.FinMap.{get}
use Rattle.std.specs.Str.{bytes_eq}
use Rattle.std.proofs.lemmas.Bool.{eqb-true}
use Rattle.std.proofs.lemmas.Slice.Eq.{bytes_eq-Decides}
use Rattle.pss_base.specs.declared.pid.Pid.{Pid}
use Rattle.type_layout.specs.declared.home.HomeNo.{HomeNo}
use Rattle.type_layout.specs.declared.key.KeyNo.{KeyNo}
use Rattle.type_layout.specs.declared.schema.Home.{Home}
use Rattle.type_layout.specs.declared.schema.Schema.{Schema}
use Rattle.type_layout.specs.Types.{PlainValue}
use Rattle.type_layout.specs.Keys.{key_bytes}
use Rattle.type_layout.specs.Schemas.{given, home_at, has_key, keys_at}
use Rattle.pss_catalog.specs.Catalog.{Object, Catalog, holds, references, object_spelling}
use Rattle.pss_catalog.specs.Changes.{Change, over}
use Rattle.pss_catalog.proofs.Uniqueness.{found_over}
use Rattle.pss_machine.specs.declared.level.Level.{Level}
use Rattle.pss_machine.specs.declared.level.Level.TheVariants.{Serializable, ReadCommitted, Basic}
use Rattle.pss_machine.specs.declared.lock.Resource.{Resource}
use Rattle.pss_machine.specs.declared.lock.Resource.TheVariants as resource
use Rattle.pss_machine.specs.declared.lock.Mode.TheVariants.{M as Many, X as Write}
use Rattle.pss_machine.specs.declared.lock.Need.{Need}
use Rattle.pss_machine.specs.Operations.{PlainOp, Create, Set, Destroy, Ask, PlainAnswer, Done, Found, Gone}
use Rattle.pss_machine.specs.Alone.{Outcome, answers, pid_at, object_of, first_gone, first_taken, stored, unless_gone, with_member, alone}
use Rattle.pss_machine.specs.Needs.{object_need, key_need, extent_need, keys_written, changed_keys, set_needs, object_keys, writes, reads, needs}
use Rattle.pss_machine.proofs.Cases.{of_given, of_if}
use Rattle.pss_laws.specs.Alike.{home_where, is_of_home, Alike}
use Rattle.pss_laws.specs.Within.{Among, to_change, is_changed, LieWithin}
use Rattle.pss_laws.specs.Operations.{IsNewIn}
use Rattle.pss_laws.proofs.Logic.{unlike, and_left, and_right, or_right}
use Rattle.pss_laws.proofs.Overs.{alike_itself}

-- ---- what is among needs

pub among_left : (xs ys : List Need) (need : Need) → Among xs need → Among (xs ++ ys) need
among_left [] ys need h = absurd h
among_left (x ∷ xs) ys need (inl e) = inl e
among_left (x ∷ xs) ys need (inr h) = inr (among_left xs ys need h)

pub among_right : (xs ys : List Need) (need : Need) → Among ys need → Among (xs ++ ys) need
among_right [] ys need h = h
among_right (x ∷ xs) ys need h = inr (among_right xs ys need h)

pub same_key : (i k : KeyNo) → (i.0 == k.0) ≡ true → i ≡ k
same_key i k e = (let number : i.0 ≡ k.0 = eqb-true i.0 k.0 e in λ n. record { 0 = number n })

-- a home has the keys that are told of it
pub keyed : (S : Schema) (h : HomeNo) (k : KeyNo) → given (home_at S h) false (λ home. has_key home k) ≡ list_any (λ j. j.0 == k.0) (keys_at S h)
keyed S h k = by_home (home_at S h)
  where
    by_home : (o : Option Home) → given o false (λ home. has_key home k) ≡ list_any (λ j. j.0 == k.0) (given o [] (λ home. home.keys))
    by_home None = refl
    by_home (Some home) = refl

pub object_there : (M : Catalog) (p : Pid) (object : Object) → object_of M p ≡ Some object → get M p.serial ≡ Some object
object_there M p object e = by_found (get M p.serial) e
  where
    by_home : (o : Object) (b : Bool) → cond b (Some o) None ≡ Some object → Some o ≡ Some object
    by_home o true e = e
    by_home o false e = absurd cc

    by_found : (o : Option Object) → given o None (λ object. cond (object.home.0 == p.home) (Some object) None) ≡ Some object → o ≡ Some object
    by_found None e = absurd cc
    by_found (Some o) e = by_home o (o.home.0 == p.home) e

module _ (S : Schema) where
  key_locked : (ks : List KeyNo) (values : List PlainValue) (k : KeyNo) (bytes : List ℕ) → list_any (λ j. j.0 == k.0) ks ≡ true → key_bytes S k values ≡ bytes → Among (keys_written S ks values) (key_need Write k bytes)
  key_locked [] values k bytes e same = unlike e
  key_locked (i ∷ ks) values k bytes e same = by_head (i.0 == k.0) refl e (λ e. key_locked ks values k bytes e same)
    where
      by_head : (b : Bool) → (i.0 == k.0) ≡ b → (b || list_any (λ j. j.0 == k.0) ks) ≡ true → (list_any (λ j. j.0 == k.0) ks ≡ true → Among (keys_written S ks values) (key_need Write k bytes)) → Among (keys_written S (i ∷ ks) values) (key_need Write k bytes)
      by_head false is e rest = inr (rest e)
      by_head true is e rest =
          let one : i ≡ k = same_key i k is in
          inl ((λ n. key_need Write (one n) (key_bytes S (one n) values)) ∙ ap (key_need Write k) same)

  -- what holds a key has it locked with all its keys
  held_key : (k : KeyNo) (bytes : List ℕ) (object : Object) → (Among (keys_written S (keys_at S object.home) object.values) (key_need Write k bytes) → ⊥) → home_where (holds S k bytes) (Some object) ≡ None
  held_key k bytes object free = by_test (holds S k bytes object) refl
    where
      by_test : (b : Bool) → holds S k bytes object ≡ b → cond b (Some object.home) None ≡ None
      by_test false is = refl
      by_test true is =
          let there : list_any (λ j. j.0 == k.0) (keys_at S object.home) ≡ true = sym (keyed S object.home k) ∙ and_left (given (home_at S object.home) false (λ home. has_key home k)) (bytes_eq (key_bytes S k object.values) bytes) is in
          let same : key_bytes S k object.values ≡ bytes = (bytes_eq-Decides (key_bytes S k object.values) bytes).0 (and_right (given (home_at S object.home) false (λ home. has_key home k)) (bytes_eq (key_bytes S k object.values) bytes) is) in
          absurd (free (key_locked (keys_at S object.home) object.values k bytes there same))

  held_home : (h : ℕ) (object : Object) → (object.home.0 ≡ h → ⊥) → home_where (is_of_home h) (Some object) ≡ None
  held_home h object free = by_test (object.home.0 == h) refl
    where
      by_test : (b : Bool) → (object.home.0 == h) ≡ b → cond b (Some object.home) None ≡ None
      by_test false is = refl
      by_test true is = absurd (free (eqb-true object.home.0 h is))

  changed_key : (old new : List PlainValue) (ks : List KeyNo) (k : KeyNo) → list_any (λ j. j.0 == k.0) ks ≡ true → bytes_eq (key_bytes S k old) (key_bytes S k new) ≡ false
      → list_any (λ j. j.0 == k.0) (filter (λ k. not (bytes_eq (key_bytes S k old) (key_bytes S k new))) ks) ≡ true
  changed_key old new [] k e differ = e
  changed_key old new (i ∷ ks) k e differ = by_head (i.0 == k.0) refl e (λ e. changed_key old new ks k e differ)
    where
      rest_of : List KeyNo
      rest_of = filter (λ k. not (bytes_eq (key_bytes S k old) (key_bytes S k new))) ks

      later : (c : Bool) → list_any (λ j. j.0 == k.0) rest_of ≡ true → list_any (λ j. j.0 == k.0) (cond c (i ∷ rest_of) rest_of) ≡ true
      later true e = or_right (i.0 == k.0) _ e
      later false e = e

      by_head : (b : Bool) → (i.0 == k.0) ≡ b → (b || list_any (λ j. j.0 == k.0) ks) ≡ true → (list_any (λ j. j.0 == k.0) ks ≡ true → list_any (λ j. j.0 == k.0) rest_of ≡ true)
          → list_any (λ j. j.0 == k.0) (cond (not (bytes_eq (key_bytes S i old) (key_bytes S i new))) (i ∷ rest_of) rest_of) ≡ true
      by_head false is e rest = later _ (rest e)
      by_head true is e rest =
          let one : i ≡ k = same_key i k is in
          let here : bytes_eq (key_bytes S i old) (key_bytes S i new) ≡ false = ap (λ (j : KeyNo). bytes_eq (key_bytes S j old) (key_bytes S j new)) one ∙ differ in
          rw here (rw is refl)

  -- a set locks the old and the new bytes of the keys that change
  set_key : (object : Object) (new : List PlainValue) (k : KeyNo) (b : List ℕ) → (Among (set_needs S object new) (key_need Write k b) → ⊥)
      → home_where (holds S k b) (Some object) ≡ home_where (holds S k b) (Some (record { home = object.home; values = new }))
  set_key object new k b free =
      by_tests (given (home_at S object.home) false (λ home. has_key home k)) (bytes_eq (key_bytes S k object.values) b) (bytes_eq (key_bytes S k new) b) refl refl refl
    where
      ks : List KeyNo
      ks = changed_keys S object new

      differ : bytes_eq (key_bytes S k object.values) b ≡ not (bytes_eq (key_bytes S k new) b) → (c : Bool) → bytes_eq (key_bytes S k object.values) (key_bytes S k new) ≡ c → c ≡ false
      differ e false is = refl
      differ e true is =
          let alike : key_bytes S k object.values ≡ key_bytes S k new = (bytes_eq-Decides (key_bytes S k object.values) (key_bytes S k new)).0 is in
          absurd (clash (bytes_eq (key_bytes S k new) b) (ap (λ (x : List ℕ). bytes_eq x b) (sym alike) ∙ e))
        where
          clash : (c : Bool) → c ≡ not c → ⊥
          clash true e = unlike (sym e)
          clash false e = unlike e

      among_keys : given (home_at S object.home) false (λ home. has_key home k) ≡ true → bytes_eq (key_bytes S k object.values) (key_bytes S k new) ≡ false → list_any (λ j. j.0 == k.0) (changed_keys S object new) ≡ true
      among_keys a d = changed_key object.values new (keys_at S object.home) k (sym (keyed S object.home k) ∙ a) d

      by_tests : (in_home old_is new_is : Bool) → given (home_at S object.home) false (λ home. has_key home k) ≡ in_home → bytes_eq (key_bytes S k object.values) b ≡ old_is → bytes_eq (key_bytes S k new) b ≡ new_is
          → cond (in_home && old_is) (Some object.home) None ≡ cond (in_home && new_is) (Some object.home) None
      by_tests false old_is new_is a d e = refl
      by_tests true true true a d e = refl
      by_tests true false false a d e = refl
      by_tests true true false a d e =
          let key = among_keys a (differ (d ∙ ap not (sym e)) _ refl) in
          absurd (free (among_left (keys_written S (changed_keys S object new) object.values) (keys_written S (changed_keys S object new) new) (key_need Write k b)
          (key_locked (changed_keys S object new) object.values k b key ((bytes_eq-Decides (key_bytes S k object.values) b).0 d))))
      by_tests true false true a d e =
          let key = among_keys a (differ (d ∙ ap not (sym e)) _ refl) in
          absurd (free (among_right (keys_written S (changed_keys S object new) object.values) (keys_written S (changed_keys S object new) new) (key_need Write k b)
          (key_locked (changed_keys S object new) new k b key ((bytes_eq-Decides (key_bytes S k new) b).0 e))))

-- ---- one change, or none

module _ (S : Schema) (M : Catalog) where
  abbrev Fits : List Need → Outcome → Type 0
  Fits xs outcome = LieWithin S M outcome.changes (Among xs)

  pub nothing_changes : (Held : Need → Type 0) → LieWithin S M [] Held
  nothing_changes Held = record { objects = λ s e. unlike e; others = λ r free. alike_itself S M r }

  pub get_one : (s : ℕ) (x : Option Object) (t : ℕ) → get (over M (record { serial = s; state = x } ∷ [])) t ≡ cond (s == t) x (get M t)
  get_one s x t = found_over M (record { serial = s; state = x } ∷ []) t ∙ by_place (s == t)
    where
      by_place : (b : Bool) → unwrap_or (cond b (Some x) None) (get M t) ≡ cond b x (get M t)
      by_place true = refl
      by_place false = refl

  at_one : {A : Type 0} (f : Option Object → A) (s : ℕ) (x : Option Object) (t : ℕ) → f (get M s) ≡ f x → f (get M t) ≡ f (get (over M (record { serial = s; state = x } ∷ [])) t)
  at_one f s x t e = by_place (s == t) refl ∙ ap f (sym (get_one s x t))
    where
      by_place : (b : Bool) → (s == t) ≡ b → f (get M t) ≡ f (cond b x (get M t))
      by_place false is = refl
      by_place true is = ap (λ (t : ℕ). f (get M t)) (sym (eqb-true s t is)) ∙ e

  one_changes : (xs : List Need) (s : ℕ) (x : Option Object) (a : PlainAnswer) → Among xs (object_need Write s)
      → ((k : KeyNo) (b : List ℕ) → (Among xs (key_need Write k b) → ⊥) → home_where (holds S k b) (get M s) ≡ home_where (holds S k b) x)
      → ((h : ℕ) → (Among xs (to_change (resource.Extent h)) → ⊥) → home_where (is_of_home h) (get M s) ≡ home_where (is_of_home h) x)
      → Fits xs (record { changes = record { serial = s; state = x } ∷ []; answer = a })
  one_changes xs s x a locked keys homes = record { objects = objects; others = others }
    where
      objects : (t : ℕ) → is_changed (record { serial = s; state = x } ∷ []) t ≡ true → Among xs (to_change (resource.Object t))
      objects t e = by_place (s == t) refl e
        where
          by_place : (b : Bool) → (s == t) ≡ b → (b || false) ≡ true → Among xs (to_change (resource.Object t))
          by_place true is e = subst (λ (t : ℕ). Among xs (to_change (resource.Object t))) (eqb-true s t is) locked
          by_place false is e = unlike e

      others : (r : Resource) → (Among xs (to_change r) → ⊥) → Alike S M (over M (record { serial = s; state = x } ∷ [])) r
      others (resource.Object t) free = by_place (s == t) refl ∙ sym (get_one s x t)
        where
          by_place : (b : Bool) → (s == t) ≡ b → get M t ≡ cond b x (get M t)
          by_place false is = refl
          by_place true is = absurd (free (subst (λ (t : ℕ). Among xs (to_change (resource.Object t))) (eqb-true s t is) locked))
      others (resource.Key k b) free = λ t. at_one (home_where (holds S (record { 0 = k }) b)) s x t (keys (record { 0 = k }) b free)
      others (resource.Extent h) free = λ t. at_one (home_where (is_of_home h)) s x t (homes h free)

  stored_fits : (xs : List Need) (s : ℕ) (object : Object) (done : PlainAnswer) → Among xs (object_need Write s)
      → ((k : KeyNo) (b : List ℕ) → (Among xs (key_need Write k b) → ⊥) → home_where (holds S k b) (get M s) ≡ home_where (holds S k b) (Some object))
      → ((h : ℕ) → (Among xs (to_change (resource.Extent h)) → ⊥) → home_where (is_of_home h) (get M s) ≡ home_where (is_of_home h) (Some object))
      → Fits xs (stored S M s object done)
  stored_fits xs s object done locked keys homes =
      of_given (Fits xs) (first_taken S M s object) _ _ (of_if (Fits xs) (nat_lt 8000 (length (object_spelling S object))) _ _ (nothing_changes (Among xs)) (one_changes xs s (Some object) done locked keys homes)) (λ k e. nothing_changes (Among xs))

  unless_fits : (xs : List Need) (pids : List Pid) (outcome : Outcome) → Fits xs outcome → Fits xs (unless_gone M pids outcome)
  unless_fits xs pids outcome fits = of_given (Fits xs) (first_gone M pids) _ _ fits (λ q e. nothing_changes (Among xs))

  create_fits : (s : ℕ) (object : Object) → get M s ≡ None → Fits (writes S M (Create s object)) (alone S M (Create s object))
  create_fits s object fresh = unless_fits xs (flat_map references object.values) _ (stored_fits xs s object (Found (pid_at s object)) (inl refl) keys homes)
    where
      xs : List Need
      xs = object_need Write s ∷ object_keys S object

      keys : (k : KeyNo) (b : List ℕ) → (Among (object_need Write s ∷ object_keys S object) (key_need Write k b) → ⊥) → home_where (holds S k b) (get M s) ≡ home_where (holds S k b) (Some object)
      keys k b free =
          ap (home_where (holds S k b)) fresh
          ∙ sym (held_key S k b object (λ p. free (inr (among_left (keys_written S (keys_at S object.home) object.values) (extent_need Many object.home ∷ []) (key_need Write k b) p))))

      homes : (h : ℕ) → (Among (object_need Write s ∷ object_keys S object) (to_change (resource.Extent h)) → ⊥) → home_where (is_of_home h) (get M s) ≡ home_where (is_of_home h) (Some object)
      homes h free =
          ap (home_where (is_of_home h)) fresh
          ∙ sym (held_home S h object (λ e. free (inr (among_right (keys_written S (keys_at S object.home) object.values) (extent_need Many object.home ∷ []) (to_change (resource.Extent h)) (inl (ap (λ (h : ℕ). to_change (resource.Extent h)) e))))))

  destroy_fits : (p : Pid) (o : Option Object) → object_of M p ≡ o
      → Fits (object_need Write p.serial ∷ given o [] (object_keys S)) (given o (answers (Gone p)) (λ object. record { changes = record { serial = p.serial; state = None } ∷ []; answer = Done }))
  destroy_fits p None e = nothing_changes (Among (object_need Write p.serial ∷ []))
  destroy_fits p (Some object) e = one_changes (object_need Write p.serial ∷ object_keys S object) p.serial None Done (inl refl) keys homes
    where
      there : get M p.serial ≡ Some object
      there = object_there M p object e

      keys : (k : KeyNo) (b : List ℕ) → (Among (object_need Write p.serial ∷ object_keys S object) (key_need Write k b) → ⊥) → home_where (holds S k b) (get M p.serial) ≡ None
      keys k b free =
          ap (home_where (holds S k b)) there
          ∙ held_key S k b object (λ p. free (inr (among_left (keys_written S (keys_at S object.home) object.values) (extent_need Many object.home ∷ []) (key_need Write k b) p)))

      homes : (h : ℕ) → (Among (object_need Write p.serial ∷ object_keys S object) (to_change (resource.Extent h)) → ⊥) → home_where (is_of_home h) (get M p.serial) ≡ None
      homes h free =
          ap (home_where (is_of_home h)) there
          ∙ held_home S h object (λ e. free (inr (among_right (keys_written S (keys_at S object.home) object.values) (extent_need Many object.home ∷ []) (to_change (resource.Extent h)) (inl (ap (λ (h : ℕ). to_change (resource.Extent h)) e)))))

  set_fits : (p : Pid) (member : ℕ) (value : PlainValue) (o : Option Object) → object_of M p ≡ o
      → Fits (object_need Write p.serial ∷ given o [] (λ object. set_needs S object (with_member object member value).values)) (given o (answers (Gone p)) (λ object. unless_gone M (references value) (stored S M p.serial (with_member object member value) Done)))
  set_fits p member value None e = nothing_changes (Among (object_need Write p.serial ∷ []))
  set_fits p member value (Some object) e =
      let new : Object = with_member object member value in
      let there : get M p.serial ≡ Some object = object_there M p object e in
      let xs : List Need = object_need Write p.serial ∷ set_needs S object (with_member object member value).values in
      unless_fits xs (references value) _ (stored_fits xs p.serial (with_member object member value) Done (inl refl)
      (λ k b free. ap (home_where (holds S k b)) there ∙ set_key S object (with_member object member value).values k b (λ q. free (inr q)))
      (λ h free. ap (home_where (is_of_home h)) there))

  pub written : (op : PlainOp) → IsNewIn M op → Fits (writes S M op) (alone S M op)
  written (Create serial object) fresh = create_fits serial object fresh
  written (Set p member value) fresh = set_fits p member value (object_of M p) refl
  written (Destroy p) fresh = destroy_fits p (object_of M p) refl
  written (Ask question) fresh = nothing_changes (Among [])

  pub needed_more : (cs : List Change) (Held More : Need → Type 0) → ((need : Need) → Held need → More need) → LieWithin S M cs Held → LieWithin S M cs More
  needed_more cs Held More more within = record { objects = λ s e. more _ (within.objects s e); others = λ r free. within.others r (λ h. free (more _ h)) }

  writes_left : (level : Level) (op : PlainOp) (need : Need) → Among (writes S M op) need → Among (needs S level M op) need
  writes_left Serializable op need h = among_left (writes S M op) (reads S M op) need h
  writes_left ReadCommitted op need h = h
  writes_left Basic op need h = h

  pub footprint : (level : Level) (op : PlainOp) → IsNewIn M op → LieWithin S M (alone S M op).changes (Among (needs S level M op))
  footprint level op fresh = needed_more (alone S M op).changes (Among (writes S M op)) (Among (needs S level M op)) (writes_left level op) (written op fresh)
