-- Two catalogs that are alike in what is needed answer, change and need the same.
use Rattle.std.proofs.Common.{◌≡◌, ℕ, zero, suc, ◌+◌, Bool, true, false, cond, not, ◌==◌, List, [], ◌∷◌, ◌++◌, length, take, map, Option, Some, None, refl, sym, ap, subst, ◌∙◌, arith}
use Rattle.std.specs.Prelude.{filter, find, nat_lt, ◌||◌, if◌then◌else◌, IsSome}
use Rattle.std.specs.List.{list_any, flat_map, slice_get}
use Rattle.std.specs.FinMap.{get}
use Rattle.std.specs.Str.{bytes_eq}
use Rattle.std.proofs.lemmas.Bool.{eqb-true, eq-eqb}
use Rattle.std.proofs.lemmas.Slice.Eq.{bytes_eq-Decides}
use Rattle.pss_base.specs.declared.pid.Pid.{Pid}
use Rattle.type_layout.specs.declared.home.HomeNo.{HomeNo}
use Rattle.type_layout.specs.declared.key.KeyNo.{KeyNo}
use Rattle.type_layout.specs.declared.schema.Home.{Home}
use Rattle.type_layout.specs.declared.schema.Schema.{Schema}
use Rattle.type_layout.specs.Types.{PlainValue, Int, Character, Truth, Ordinal, Text, Items, Parts, Ref}
use Rattle.type_layout.specs.Keys.{key_bytes}
use Rattle.type_layout.specs.Schemas.{given, home_at, descends, descends_within, keys_at}
use Rattle.pss_catalog.specs.Catalog.{Object, Catalog, has, holds, holders, references, IsUnique, object_spelling}
use Rattle.pss_catalog.proofs.Listing.{only_listed}
use Rattle.pss_machine.specs.declared.level.Level.TheVariants.{Serializable}
use Rattle.pss_machine.specs.declared.lock.Mode.TheVariants.{S as Read, M as Many, X as Write}
use Rattle.pss_machine.specs.declared.lock.Need.{Need}
use Rattle.pss_machine.specs.Operations.{Question, FindKey, FindPid, FindShort, Exists, Get, Follow, Count, ListOf, PlainOp, Create, Set, Destroy, Ask, PlainAnswer, Done, Found, IsThere, Val, Number, Listing, NotFound, Gone, Duplicate, TooLarge}
use Rattle.pss_machine.specs.Homes.{numbers_from, all_homes, below, in_one_family, extent}
use Rattle.pss_machine.specs.Alone.{Outcome, answers, pid_at, object_of, first_gone, is_taken, first_taken, stored, unless_gone, with_member, followed, told, alone}
use Rattle.pss_machine.specs.Needs.{object_need, extent_need, keys_written, changed_keys, set_needs, object_keys, writes, targets, asks, reads, needs}
use Rattle.pss_laws.specs.Alike.{home_where, is_of_home, PassAlike, AllAlike}
use Rattle.pss_laws.specs.Operations.{AsksOfHomes}
use Rattle.pss_laws.proofs.Logic.{unlike, or_right}
use Rattle.pss_laws.proofs.Listing.{same_listed, none_other}
use Rattle.pss_laws.proofs.Footprint.{keyed, object_there}

module _ (S : Schema) (M N : Catalog) where
  alike_left : (xs ys : List Need) → AllAlike S M N (xs ++ ys) → AllAlike S M N xs
  alike_left [] ys h = tt
  alike_left (x ∷ xs) ys h = (h.0, alike_left xs ys h.1)

  alike_right : (xs ys : List Need) → AllAlike S M N (xs ++ ys) → AllAlike S M N ys
  alike_right [] ys h = h
  alike_right (x ∷ xs) ys h = alike_right xs ys h.1

  has_alike : (q : Pid) → get M q.serial ≡ get N q.serial → has M q ≡ has N q
  has_alike q h = ap (λ (o : Option Object). given o false (λ object. object.home.0 == q.home)) h

  object_alike : (p : Pid) → get M p.serial ≡ get N p.serial → object_of M p ≡ object_of N p
  object_alike p h = ap (λ (o : Option Object). given o None (λ object. if object.home.0 == p.home then Some object else None)) h

  gone_alike : (qs : List Pid) → AllAlike S M N (targets qs) → first_gone M qs ≡ first_gone N qs
  gone_alike [] h = refl
  gone_alike (q ∷ qs) h =
      ap (λ (b : Bool). cond (not b) (Some q) (first_gone M qs)) (has_alike q h.0) ∙ ap (λ (r : Option Pid). cond (not (has N q)) (Some q) r) (gone_alike qs h.1)

  holders_alike : (k : KeyNo) (bytes : List ℕ) → PassAlike (holds S k bytes) M N → holders S M k bytes ≡ holders S N k bytes
  holders_alike k bytes h = same_listed (holds S k bytes) M N h

  taken_alike : (s : ℕ) (object : Object) (ks : List KeyNo) → AllAlike S M N (keys_written S ks object.values) → find (is_taken S M s object) ks ≡ find (is_taken S N s object) ks
  taken_alike s object [] h = refl
  taken_alike s object (k ∷ ks) h =
      ap (λ (ps : List Pid). cond (list_any (λ p. not (p.serial == s)) ps) (Some k) (find (is_taken S M s object) ks)) (holders_alike k (key_bytes S k object.values) h.0)
      ∙ ap (λ (r : Option KeyNo). cond (is_taken S N s object k) (Some k) r) (taken_alike s object ks h.1)

  stored_alike : (s : ℕ) (object : Object) (done : PlainAnswer) → first_taken S M s object ≡ first_taken S N s object → stored S M s object done ≡ stored S N s object done
  stored_alike s object done e =
      ap (λ (o : Option KeyNo). given o (if nat_lt 8000 (length (object_spelling S object)) then answers TooLarge else record { changes = record { serial = s; state = Some object } ∷ []; answer = done }) (λ k. answers (Duplicate k))) e

  unless_alike : (qs : List Pid) (x y : Outcome) → AllAlike S M N (targets qs) → x ≡ y → unless_gone M qs x ≡ unless_gone N qs y
  unless_alike qs x y h e =
      ap (λ (o : Option Pid). given o x (λ q. answers (Gone q))) (gone_alike qs h) ∙ ap (λ (z : Outcome). given (first_gone N qs) z (λ q. answers (Gone q))) e

  create_alike : (s : ℕ) (object : Object) → AllAlike S M N (writes S M (Create s object)) → AllAlike S M N (targets (flat_map references object.values)) → alone S M (Create s object) ≡ alone S N (Create s object)
  create_alike s object w r =
      let keys = alike_left (keys_written S (keys_at S object.home) object.values) (extent_need Many object.home ∷ []) w.1 in
      unless_alike (flat_map references object.values) _ _ r (stored_alike s object (Found (pid_at s object)) (taken_alike s object (keys_at S object.home) keys))

  destroy_alike : (p : Pid) → get M p.serial ≡ get N p.serial → alone S M (Destroy p) ≡ alone S N (Destroy p)
  destroy_alike p h = ap (λ (o : Option Object). given o (answers (Gone p)) (λ object. record { changes = record { serial = p.serial; state = None } ∷ []; answer = Done })) (object_alike p h)

  -- ---- questions

  value_followed : (p : Pid) (v : PlainValue) → AllAlike S M N (targets (references v)) → followed M p v ≡ followed N p v
  value_followed p (Ref None) h = refl
  value_followed p (Ref (Some q)) h = ap (λ (b : Bool). if b then Found q else Gone q) (has_alike q h.0)
  value_followed p (Int z) h = refl
  value_followed p (Character c) h = refl
  value_followed p (Truth b) h = refl
  value_followed p (Ordinal n) h = refl
  value_followed p (Text bytes) h = refl
  value_followed p (Items vs) h = refl
  value_followed p (Parts vs) h = refl

  member_followed : (p : Pid) (v : Option PlainValue) → AllAlike S M N (given v [] (λ value. targets (references value))) → given v (Gone p) (followed M p) ≡ given v (Gone p) (followed N p)
  member_followed p None h = refl
  member_followed p (Some v) h = value_followed p v h

  follow_found : (p : Pid) (member : ℕ) (o : Option Object) → AllAlike S M N (given o [] (λ object. given (slice_get object.values member) [] (λ value. targets (references value))))
      → given o (Gone p) (λ object. given (slice_get object.values member) (Gone p) (followed M p)) ≡ given o (Gone p) (λ object. given (slice_get object.values member) (Gone p) (followed N p))
  follow_found p member None h = refl
  follow_found p member (Some object) h = member_followed p (slice_get object.values member) h

-- ---- extents

-- a home from which one that is there descends, or which is that one, is there
descends_there : (S : Schema) (n : ℕ) (g h : HomeNo) → IsSome (home_at S h) → descends_within (suc n) S g h ≡ true → IsSome (home_at S g)
descends_there S n g h there e = by_home (home_at S g) refl
  where
    by_same : (b : Bool) → (g.0 == h.0) ≡ b → (b || false) ≡ true → IsSome (home_at S g)
    by_same true is e = (let number : g.0 ≡ h.0 = eqb-true g.0 h.0 is in subst (λ (i : HomeNo). IsSome (home_at S i)) (λ i. record { 0 = sym number i }) there)
    by_same false is e = unlike e

    by_home : (o : Option Home) → home_at S g ≡ o → IsSome (home_at S g)
    by_home (Some home) is = rw is refl
    by_home None is = by_same (g.0 == h.0) refl (ap (λ (o : Option Home). (g.0 == h.0) || given (given o None (λ home. home.base)) false (λ b. descends_within n S b h)) (sym is) ∙ e)

numbered : (n i : ℕ) (homes : List Home) → IsSome (slice_get homes i) → list_any (λ j. j.0 == n + i) (numbers_from n homes) ≡ true
numbered n i [] there = unlike there
numbered n zero (home ∷ homes) there = (let e : (n == n + 0) ≡ true = eq-eqb n (n + 0) (omega arith) in rw e refl)
numbered n (suc i) (home ∷ homes) there =
    or_right (n == n + suc i) (list_any (λ j. j.0 == n + suc i) (numbers_from (n + 1) homes)) (subst (λ (m : ℕ). list_any (λ j. j.0 == m) (numbers_from (n + 1) homes) ≡ true) (omega arith) (numbered (n + 1) i homes there))

is_numbered : (S : Schema) (g : HomeNo) → IsSome (home_at S g) → list_any (λ j. j.0 == g.0) (all_homes S) ≡ true
is_numbered S g there = by_number g.0 there
  where
    by_number : (n : ℕ) → IsSome (home_at S (record { 0 = n })) → list_any (λ j. j.0 == n) (numbers_from 1 S.homes) ≡ true
    by_number zero there = unlike there
    by_number (suc i) there = subst (λ (m : ℕ). list_any (λ j. j.0 == m) (numbers_from 1 S.homes) ≡ true) (omega arith) (numbered 1 i S.homes there)

module _ (S : Schema) (M N : Catalog) (h : HomeNo) where
  below_alike : (gs : List HomeNo) (g : HomeNo) → list_any (λ j. j.0 == g.0) gs ≡ true → descends S g h ≡ true → AllAlike S M N (map (extent_need Read) (filter (λ g. descends S g h) gs)) → PassAlike (is_of_home g.0) M N
  below_alike [] g e down agree = unlike e
  below_alike (i ∷ gs) g e down agree = by_head (i.0 == g.0) refl e (descends S i h) refl agree (λ e agree. below_alike gs g e down agree)
    where
      by_head : (b : Bool) → (i.0 == g.0) ≡ b → (b || list_any (λ j. j.0 == g.0) gs) ≡ true → (d : Bool) → descends S i h ≡ d
          → AllAlike S M N (map (extent_need Read) (cond d (i ∷ filter (λ g. descends S g h) gs) (filter (λ g. descends S g h) gs)))
          → (list_any (λ j. j.0 == g.0) gs ≡ true → AllAlike S M N (map (extent_need Read) (filter (λ g. descends S g h) gs)) → PassAlike (is_of_home g.0) M N) → PassAlike (is_of_home g.0) M N
      by_head true is e true d agree rest = subst (λ (n : ℕ). PassAlike (is_of_home n) M N) (eqb-true i.0 g.0 is) agree.0
      by_head true is e false d agree rest = unlike (sym d ∙ ap (λ (j : HomeNo). descends S j h) (same_home i g is) ∙ down)
        where
          same_home : (i g : HomeNo) → (i.0 == g.0) ≡ true → i ≡ g
          same_home i g e = (let number : i.0 ≡ g.0 = eqb-true i.0 g.0 e in λ n. record { 0 = number n })
      by_head false is e true d agree rest = rest e agree.1
      by_head false is e false d agree rest = rest e agree

-- what one catalog has of the homes below, so has the other
passes_over : (S : Schema) (M N : Catalog) (h : HomeNo) → IsSome (home_at S h) → ((g : HomeNo) → IsSome (home_at S g) → descends S g h ≡ true → PassAlike (is_of_home g.0) M N)
    → (t : ℕ) (g : HomeNo) → home_where (λ object. descends S object.home h) (get M t) ≡ Some g → home_where (λ object. descends S object.home h) (get N t) ≡ Some g
passes_over S M N h there alike t g e = by_first (get M t) refl e
  where
    by_second : (x : Object) → descends S x.home h ≡ true → x.home ≡ g → (o : Option Object) → home_where (is_of_home x.home.0) o ≡ Some x.home → home_where (λ object. descends S object.home h) o ≡ Some g
    by_second x down same None e = absurd cc
    by_second x down same (Some y) e = by_place (y.home.0 == x.home.0) refl e
      where
        by_place : (b : Bool) → (y.home.0 == x.home.0) ≡ b → cond b (Some y.home) None ≡ Some x.home → home_where (λ object. descends S object.home h) (Some y) ≡ Some g
        by_place false is e = absurd cc
        by_place true is e =
            let number : y.home.0 ≡ x.home.0 = eqb-true y.home.0 x.home.0 is in
            let one : y.home ≡ x.home = λ n. record { 0 = number n } in
            rw (ap (λ (i : HomeNo). descends S i h) one ∙ down) (ap Some (one ∙ same))

    by_test : (x : Object) (b : Bool) → descends S x.home h ≡ b → get M t ≡ Some x → cond b (Some x.home) None ≡ Some g → home_where (λ object. descends S object.home h) (get N t) ≡ Some g
    by_test x false down at e = absurd cc
    by_test x true down at e =
        let same : x.home ≡ g = cc in
        let is_there : IsSome (home_at S x.home) = descends_there S (length S.homes) x.home h there down in
        let here : home_where (is_of_home x.home.0) (get M t) ≡ Some x.home = ap (home_where (is_of_home x.home.0)) at ∙ ap (λ (b : Bool). cond b (Some x.home) None) (eq-eqb x.home.0 x.home.0 refl) in
        by_second x down same (get N t) (sym (alike x.home is_there down t) ∙ here)

    by_first : (o : Option Object) → get M t ≡ o → home_where (λ object. descends S object.home h) o ≡ Some g → home_where (λ object. descends S object.home h) (get N t) ≡ Some g
    by_first None at e = absurd cc
    by_first (Some x) at e = by_test x (descends S x.home h) refl at e

same_options : {A : Type 0} (a b : Option A) → ((x : A) → a ≡ Some x → b ≡ Some x) → ((x : A) → b ≡ Some x → a ≡ Some x) → a ≡ b
same_options None None f g = refl
same_options None (Some x) f g = g x refl
same_options (Some x) b f g = sym (f x refl)

extent_alike : (S : Schema) (M N : Catalog) (h : HomeNo) → IsSome (home_at S h) → AllAlike S M N (map (extent_need Read) (below S h)) → extent S M h ≡ extent S N h
extent_alike S M N h there agree =
    same_listed (λ object. descends S object.home h) M N
    (λ t. same_options (home_where (λ object. descends S object.home h) (get M t)) (home_where (λ object. descends S object.home h) (get N t)) (passes_over S M N h there alike t) (passes_over S N M h there (λ g is down t. sym (alike g is down t)) t))
  where
    alike : (g : HomeNo) → IsSome (home_at S g) → descends S g h ≡ true → PassAlike (is_of_home g.0) M N
    alike g is down = below_alike S M N h (all_homes S) g (is_numbered S g is) down agree

module _ (S : Schema) (M N : Catalog) where
  told_alike : (q : Question) → AsksOfHomes S (Ask q) → AllAlike S M N (asks S M q) → told S M q ≡ told S N q
  told_alike (FindKey h k bytes) there agree = ap (λ (ps : List Pid). given (find (λ p. descends S (record { 0 = p.home }) h) ps) NotFound Found) (holders_alike S M N k bytes agree.0)
  told_alike (FindPid p) there agree = ap (λ (b : Bool). if b then Found p else NotFound) (has_alike S M N p agree.0)
  told_alike (FindShort h s) there agree = ap (λ (o : Option Object). given o NotFound (λ object. if in_one_family S object.home h then Found (pid_at s object) else NotFound)) agree.0
  told_alike (Exists p) there agree = ap IsThere (has_alike S M N p agree.0)
  told_alike (Get p i) there agree = ap (λ (o : Option Object). given o (Gone p) (λ object. given (slice_get object.values i) (Gone p) Val)) (object_alike S M N p agree.0)
  told_alike (Follow p i) there agree =
      follow_found S M N p i (object_of M p) agree.1 ∙ ap (λ (o : Option Object). given o (Gone p) (λ object. given (slice_get object.values i) (Gone p) (followed N p))) (object_alike S M N p agree.0)
  told_alike (Count h) there agree = ap (λ (ps : List Pid). Number (length ps)) (extent_alike S M N h there agree)
  told_alike (ListOf h) there agree = ap (λ (ps : List Pid). Listing (length ps) (take 256 ps)) (extent_alike S M N h there agree)

  asks_alike : (q : Question) → AllAlike S M N (asks S M q) → asks S M q ≡ asks S N q
  asks_alike (Follow p i) agree =
      ap (λ (o : Option Object). object_need Read p.serial ∷ given o [] (λ object. given (slice_get object.values i) [] (λ value. targets (references value)))) (object_alike S M N p agree.0)
  asks_alike (FindKey h k bytes) agree = refl
  asks_alike (FindPid p) agree = refl
  asks_alike (FindShort h s) agree = refl
  asks_alike (Exists p) agree = refl
  asks_alike (Get p i) agree = refl
  asks_alike (Count h) agree = refl
  asks_alike (ListOf h) agree = refl

-- ---- a set

abbrev Keeps : List KeyNo → List KeyNo → Type 0
Keeps all [] = Unit {0}
Keeps all (k ∷ ks) = (list_any (λ j. j.0 == k.0) all ≡ true) × Keeps all ks

keeps_more : (x : KeyNo) (all ks : List KeyNo) → Keeps all ks → Keeps (x ∷ all) ks
keeps_more x all [] h = tt
keeps_more x all (k ∷ ks) h = (or_right (x.0 == k.0) (list_any (λ j. j.0 == k.0) all) h.0, keeps_more x all ks h.1)

keeps_all : (all : List KeyNo) → Keeps all all
keeps_all [] = tt
keeps_all (x ∷ all) = (rw (eq-eqb x.0 x.0 refl) refl, keeps_more x all all (keeps_all all))

module _ (S : Schema) (M N : Catalog) (unique_m : IsUnique S M) (unique_n : IsUnique S N) where
  -- an object's own key is held by no other
  own_key : (C : Catalog) → IsUnique S C → (s : ℕ) (object new : Object) (k : KeyNo) → get C s ≡ Some object → list_any (λ j. j.0 == k.0) (keys_at S object.home) ≡ true → key_bytes S k object.values ≡ key_bytes S k new.values → is_taken S C s new k ≡ false
  own_key C unique s object new k there key bytes =
      let passes : holds S k (key_bytes S k new.values) object ≡ true = rw (keyed S object.home k, key) ((bytes_eq-Decides (key_bytes S k object.values) (key_bytes S k new.values)).1 bytes) in
      none_other s (holders S C k (key_bytes S k new.values)) ((only_listed (holds S k (key_bytes S k new.values)) C s).1 (λ t x found p. unique k (key_bytes S k new.values) t s x object found there p passes))

  set_keys : (s : ℕ) (object new : Object) (ks : List KeyNo) → get M s ≡ Some object → get N s ≡ Some object → Keeps (keys_at S object.home) ks
      → AllAlike S M N (keys_written S (filter (λ k. not (bytes_eq (key_bytes S k object.values) (key_bytes S k new.values))) ks) new.values) → find (is_taken S M s new) ks ≡ find (is_taken S N s new) ks
  set_keys s object new [] there_m there_n keeps agree = refl
  set_keys s object new (k ∷ ks) there_m there_n keeps agree =
      by_test (bytes_eq (key_bytes S k object.values) (key_bytes S k new.values)) refl agree (λ rest. set_keys s object new ks there_m there_n keeps.1 rest)
    where
      rest_of : List KeyNo
      rest_of = filter (λ k. not (bytes_eq (key_bytes S k object.values) (key_bytes S k new.values))) ks

      same_test : is_taken S M s new k ≡ is_taken S N s new k → (find (is_taken S M s new) ks ≡ find (is_taken S N s new) ks) → find (is_taken S M s new) (k ∷ ks) ≡ find (is_taken S N s new) (k ∷ ks)
      same_test e ih = ap (λ (b : Bool). cond b (Some k) (find (is_taken S M s new) ks)) e ∙ ap (λ (r : Option KeyNo). cond (is_taken S N s new k) (Some k) r) ih

      by_test : (b : Bool) → bytes_eq (key_bytes S k object.values) (key_bytes S k new.values) ≡ b → AllAlike S M N (keys_written S (cond (not b) (k ∷ rest_of) rest_of) new.values)
          → (AllAlike S M N (keys_written S rest_of new.values) → find (is_taken S M s new) ks ≡ find (is_taken S N s new) ks) → find (is_taken S M s new) (k ∷ ks) ≡ find (is_taken S N s new) (k ∷ ks)
      by_test false same agree ih = same_test (ap (λ (ps : List Pid). list_any (λ p. not (p.serial == s)) ps) (holders_alike S M N k (key_bytes S k new.values) agree.0)) (ih agree.1)
      by_test true same agree ih =
          let bytes = (bytes_eq-Decides (key_bytes S k object.values) (key_bytes S k new.values)).0 same in
          same_test (own_key M unique_m s object new k there_m keeps.0 bytes ∙ sym (own_key N unique_n s object new k there_n keeps.0 bytes)) (ih agree)

  set_found : (p : Pid) (member : ℕ) (value : PlainValue) (o : Option Object) → object_of M p ≡ o → get M p.serial ≡ get N p.serial → AllAlike S M N (given o [] (λ object. set_needs S object (with_member object member value).values)) → AllAlike S M N (targets (references value))
      → given o (answers (Gone p)) (λ object. unless_gone M (references value) (stored S M p.serial (with_member object member value) Done)) ≡ given o (answers (Gone p)) (λ object. unless_gone N (references value) (stored S N p.serial (with_member object member value) Done))
  set_found p member value None is same agree rest = refl
  set_found p member value (Some object) is same agree rest =
      let new : Object = with_member object member value in
      let there_m : get M p.serial ≡ Some object = object_there M p object is in
      let there_n : get N p.serial ≡ Some object = sym same ∙ there_m in
      let ks : List KeyNo = changed_keys S object new.values in
      let news = alike_right S M N (keys_written S ks object.values) (keys_written S ks new.values) agree in
      unless_alike S M N (references value) _ _ rest (stored_alike S M N p.serial new Done (set_keys p.serial object new (keys_at S object.home) there_m there_n (keeps_all (keys_at S object.home)) news))

  set_alike : (p : Pid) (member : ℕ) (value : PlainValue) → AllAlike S M N (writes S M (Set p member value)) → AllAlike S M N (targets (references value)) → alone S M (Set p member value) ≡ alone S N (Set p member value)
  set_alike p member value agree rest =
      set_found p member value (object_of M p) refl agree.0 agree.1 rest
      ∙ ap (λ (o : Option Object). given o (answers (Gone p)) (λ object. unless_gone N (references value) (stored S N p.serial (with_member object member value) Done))) (object_alike S M N p agree.0)

  alike : (op : PlainOp) → AsksOfHomes S op → AllAlike S M N (writes S M op) → AllAlike S M N (reads S M op) → alone S M op ≡ alone S N op
  alike (Create s object) there w r = create_alike S M N s object w r
  alike (Set p i v) there w r = set_alike p i v w r
  alike (Destroy p) there w r = destroy_alike S M N p w.0
  alike (Ask q) there w r = ap answers (told_alike S M N q there r)

  alike_needs : (op : PlainOp) → AllAlike S M N (writes S M op) → AllAlike S M N (reads S M op) → needs S Serializable M op ≡ needs S Serializable N op
  alike_needs (Create s object) w r = refl
  alike_needs (Set p i v) w r =
      ap (λ (o : Option Object). object_need Write p.serial ∷ (given o [] (λ object. set_needs S object (with_member object i v).values) ++ targets (references v))) (object_alike S M N p w.0)
  alike_needs (Destroy p) w r = ap (λ (o : Option Object). object_need Write p.serial ∷ (given o [] (object_keys S) ++ [])) (object_alike S M N p w.0)
  alike_needs (Ask q) w r = asks_alike S M N q r

  pub answering : (op : PlainOp) → AsksOfHomes S op → AllAlike S M N (needs S Serializable M op) → (alone S M op ≡ alone S N op) × (needs S Serializable M op ≡ needs S Serializable N op)
  answering op there agree =
      let w = alike_left S M N (writes S M op) (reads S M op) agree in
      let r = alike_right S M N (writes S M op) (reads S M op) agree in
      (alike op there w r, alike_needs op w r)
