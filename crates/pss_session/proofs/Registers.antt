-- What the sessions stand for, and how that follows what is stored.
use Rattle.std.proofs.Common.{ℕ, ◌≡◌, ◌<◌, List, [], ◌∷◌, ◌++◌, length, map, find, Option, Some, None, IsSome, Bool, true, false, cond, ◌==◌, refl, sym, ap, ◌∙◌, arith, rules}
use Rattle.std.specs.Option.{option_map}
use Rattle.std.specs.Map.{lookup, keys_of}
use Rattle.std.specs.declared.cmp.Ordering.{Ordering}
use Rattle.std.specs.declared.cmp.Ordering.TheVariants.{Less, Equal, Greater}
use Rattle.std.specs.Ordering.{nat_cmp, eq_by_cmp, is_lt}
use Rattle.std.specs.Cmp.{nat_cmp_total, unsigned_tied}
use Rattle.std.proofs.lemmas.Map.Keys.{ge_from_not_lt}
use Rattle.std.specs.FinMap as finite
use Rattle.std.specs.FinMap.{nat_cmp-IsAntisymmetric, get, insert, remove, entries, from_entries, put, get-from_entries, get-entries, entries-insert, len-entries, from_entries_push}
use Rattle.std.specs.FinMap.Entries.{below_all, is_sorted, by_order}
use Rattle.pss_base.specs.declared.owner.OwnerNo.{OwnerNo}
use Rattle.pss_base.specs.declared.session.SessionNo.{SessionNo}
use Rattle.type_layout.specs.Schemas.{given}
use Rattle.pss_machine.specs.Maps as machine
use Rattle.pss_machine.specs.Sessions.{Session, Sessions, is_owner, open_in, without_transaction}
use Rattle.recent_table.specs.Maps.{each}
use Rattle.recent_table.proofs.Maps.{IsKey, alike_maps, get_each, len_each, entries_each, each_insert, each_remove}
use Rattle.recent_table.proofs.Hashed.{get_table, inserted, removed}
use Rattle.pss_session.specs.declared.register.SessionRecord.{SessionRecord}
use Rattle.pss_session.specs.inner.Rows.{session_of, row_at, is_open_row, left_row, Turns}
use Rattle.pss_session.specs.inner.Register.{rows_of, sessions_of}
use Rattle.pss_session.proofs.Orders.{both_true, and_true}

pub nat_key : IsKey nat_cmp
nat_key = record { total = nat_cmp_total; alike = nat_cmp-IsAntisymmetric }

-- ---- maps

module _ (es : List (ℕ × SessionRecord)) where
  pub get_rows : (n : ℕ) → get (rows_of es) n ≡ row_at es n
  get_rows n = get_table nat_key (λ a b. a == b) unsigned_tied es n

  pub get_session : (n : ℕ) → get (sessions_of es) n ≡ option_map session_of (row_at es n)
  get_session n = get_each session_of (rows_of es) n ∙ ap (option_map session_of) (get_rows n)

  pub pushed : (k : ℕ) (r : SessionRecord) → row_at es k ≡ None → sessions_of (es ++ (k, r) ∷ []) ≡ insert (sessions_of es) k (session_of r)
  pushed k r none =
      ap (each session_of) (from_entries_push nat_cmp_total nat_cmp-IsAntisymmetric es k r (sym (get-from_entries nat_cmp_total es k) ∙ get_rows k ∙ none)) ∙ each_insert session_of nat_key (rows_of es) k r

  pub turned_some : (fs : List (ℕ × SessionRecord)) (k : ℕ) (r : SessionRecord) → Turns es fs k (Some r) → sessions_of fs ≡ insert (sessions_of es) k (session_of r)
  turned_some fs k r turns = ap (each session_of) (inserted nat_key (λ a b. a == b) unsigned_tied es fs k r turns) ∙ each_insert session_of nat_key (rows_of es) k r

  pub turned_none : (fs : List (ℕ × SessionRecord)) (k : ℕ) → Turns es fs k None → sessions_of fs ≡ remove (sessions_of es) k
  turned_none fs k turns = ap (each session_of) (removed nat_key (λ a b. a == b) unsigned_tied es fs k turns) ∙ each_remove session_of nat_key (rows_of es) k

-- ---- order

first_put : {X : Type 0} (k : ℕ) (v : X) (es : List (ℕ × X)) → below_all nat_cmp k es ≡ true → put nat_cmp k v es ≡ (k, v) ∷ es
first_put k v [] h = refl
first_put k v (e ∷ es) h = by (nat_cmp k e.0) (both_true (is_lt (nat_cmp k e.0)) (below_all nat_cmp k es) h).0
  where
    by : (o : Ordering) → is_lt o ≡ true → by_order o ((k, v) ∷ e ∷ es) ((e.0, v) ∷ es) (e ∷ put nat_cmp k v es) ≡ (k, v) ∷ e ∷ es
    by Less lt = refl
    by Equal lt = absurd (cc)
    by Greater lt = absurd (cc)

no_length : {A : Type 0} (xs : List A) → length xs ≡ 0 → xs ≡ []
no_length [] h = refl
no_length (x ∷ xs) h = absurd (omega (arith, h))

-- the entries of a map are those that were put in, where they were in order
pub in_order : {X : Type 0} (es : List (ℕ × X)) → is_sorted nat_cmp es ≡ true → entries (from_entries {R = nat_cmp} es) ≡ es
in_order {X} [] h = no_length _ (sym (len-entries (finite.empty {X = X} {R = nat_cmp})) ∙ finite.len-empty nat_cmp X)
in_order (e ∷ es) h =
    let s = both_true (below_all nat_cmp e.0 es) (is_sorted nat_cmp es) h in
    entries-insert nat_cmp_total (from_entries es) e.0 e.1 ∙ ap (put nat_cmp e.0 e.1) (in_order es s.1) ∙ first_put e.0 e.1 es s.0

lesser : (a b : ℕ) → a < b → is_lt (nat_cmp a b) ≡ true
lesser a b lt = by (is_lt (nat_cmp a b)) refl
  where
    by : (t : Bool) → is_lt (nat_cmp a b) ≡ t → t ≡ true
    by true e = refl
    by false e = absurd (omega (arith, lt, ge_from_not_lt a b e))

module _ {X : Type 0} (k : ℕ) (v : X) where
  below_push : (x : ℕ) (es : List (ℕ × X)) → below_all nat_cmp x es ≡ true → x < k → below_all nat_cmp x (es ++ (k, v) ∷ []) ≡ true
  below_push x [] h lt = and_true (is_lt (nat_cmp x k)) true (lesser x k lt) refl
  below_push x (e ∷ es) h lt = let s = both_true (is_lt (nat_cmp x e.0)) (below_all nat_cmp x es) h in and_true (is_lt (nat_cmp x e.0)) _ s.0 (below_push x es s.1 lt)

  same_nat : (n : ℕ) → (n == n) ≡ true
  same_nat n = search rules

  pub sorted_push : (es : List (ℕ × X)) → is_sorted nat_cmp es ≡ true → ((n : ℕ) → IsSome (lookup (λ m. n == m) es) → n < k) → is_sorted nat_cmp (es ++ (k, v) ∷ []) ≡ true
  sorted_push [] h under = refl
  sorted_push (e ∷ es) h under =
      let s = both_true (below_all nat_cmp e.0 es) (is_sorted nat_cmp es) h in
      and_true (below_all nat_cmp e.0 (es ++ (k, v) ∷ [])) _ (below_push e.0 es s.0 (under e.0 (here (e.0 == e.0) (same_nat e.0)))) (sorted_push es s.1 (λ n some. under n (there n (n == e.0) some)))
    where
      here : (b : Bool) → b ≡ true → IsSome (cond b (Some e.1) (lookup (λ m. e.0 == m) es))
      here true is = search rules
      here false is = absurd (cc)

      there : (n : ℕ) (b : Bool) → IsSome (lookup (λ m. n == m) es) → IsSome (cond b (Some e.1) (lookup (λ m. n == m) es))
      there n true some = search rules
      there n false some = some

-- ---- what is found

find_map : {A B : Type 0} (f : A → B) (test : B → Bool) (xs : List A) → find test (map f xs) ≡ option_map f (find (λ x. test (f x)) xs)
find_map f test [] = refl
find_map f test (x ∷ xs) = by (test (f x)) (find_map f test xs)
  where
    by : (b : Bool) → find test (map f xs) ≡ option_map f (find (λ x. test (f x)) xs) → cond b (Some (f x)) (find test (map f xs)) ≡ option_map f (cond b (Some x) (find (λ x. test (f x)) xs))
    by true h = refl
    by false h = h

pub entries_are : (es : List (ℕ × SessionRecord)) → is_sorted nat_cmp es ≡ true → entries (sessions_of es) ≡ map (λ e. (e.0, session_of e.1)) es
entries_are es sorted = entries_each session_of (rows_of es) ∙ ap (map (λ e. (e.0, session_of e.1))) (in_order es sorted)

pub count_is : (es : List (ℕ × SessionRecord)) → is_sorted nat_cmp es ≡ true → finite.len (sessions_of es) ≡ length es
count_is es sorted = len_each session_of (rows_of es) ∙ len-entries (rows_of es) ∙ ap length (in_order es sorted)

pub first_is : (es : List (ℕ × SessionRecord)) → is_sorted nat_cmp es ≡ true → (n : OwnerNo)
    → option_map {U = SessionNo} (λ (e : ℕ × SessionRecord). record { 0 = e.0 }) (find (is_open_row n) es) ≡ option_map {U = SessionNo} (λ (e : ℕ × Session). record { 0 = e.0 }) (find (λ (e : ℕ × Session). is_owner n (open_in e.1.association)) (entries (sessions_of es)))
first_is es sorted n =
    sym
    (ap (λ l. option_map {U = SessionNo} (λ (e : ℕ × Session). record { 0 = e.0 }) (find (λ (e : ℕ × Session). is_owner n (open_in e.1.association)) l)) (entries_are es sorted)
    ∙ ap (option_map {U = SessionNo} (λ (e : ℕ × Session). record { 0 = e.0 })) (find_map (λ (e : ℕ × SessionRecord). (e.0, session_of e.1)) (λ (e : ℕ × Session). is_owner n (open_in e.1.association)) es) ∙ twice (find (is_open_row n) es))
  where
    twice : (o : Option (ℕ × SessionRecord)) → option_map {U = SessionNo} (λ (e : ℕ × Session). record { 0 = e.0 }) (option_map (λ (e : ℕ × SessionRecord). (e.0, session_of e.1)) o) ≡ option_map (λ (e : ℕ × SessionRecord). record { 0 = e.0 }) o
    twice None = refl
    twice (Some e) = refl

-- ---- associations

pub set_is : (m : Sessions) (k : ℕ) (f : Session → Session) (x : Session) → get m k ≡ Some x → insert m k (f x) ≡ machine.with_at m k f
set_is m k f x at = sym (ap (λ o. given o m (λ y. insert m k (f y))) at)

row_map : (f : SessionRecord → SessionRecord) (es : List (ℕ × SessionRecord)) (q : ℕ) → row_at (map (λ e. (e.0, f e.1)) es) q ≡ option_map f (row_at es q)
row_map f [] q = refl
row_map f (e ∷ es) q = by (q == e.0) (row_map f es q)
  where
    by : (b : Bool) → row_at (map (λ e. (e.0, f e.1)) es) q ≡ option_map f (row_at es q) → cond b (Some (f e.1)) (row_at (map (λ e. (e.0, f e.1)) es) q) ≡ option_map f (cond b (Some e.1) (row_at es q))
    by true h = refl
    by false h = h

find_each : (f : Session → Session) (es : List (ℕ × Session)) (q : ℕ) → finite.find nat_cmp q (map (λ e. (e.0, f e.1)) es) ≡ option_map f (finite.find nat_cmp q es)
find_each f [] q = refl
find_each f (e ∷ es) q = by (eq_by_cmp nat_cmp q e.0) (find_each f es q)
  where
    by : (b : Bool) → finite.find nat_cmp q (map (λ e. (e.0, f e.1)) es) ≡ option_map f (finite.find nat_cmp q es) → cond b (Some (f e.1)) (finite.find nat_cmp q (map (λ e. (e.0, f e.1)) es)) ≡ option_map f (cond b (Some e.1) (finite.find nat_cmp q es))
    by true h = refl
    by false h = h

pub left_is : (n : OwnerNo) (es : List (ℕ × SessionRecord)) → sessions_of (map (λ e. (e.0, left_row n e.1)) es) ≡ machine.each (λ s session. without_transaction n session) (sessions_of es)
left_is n es = alike_maps nat_key _ _ (λ q. get_session (map (λ e. (e.0, left_row n e.1)) es) q ∙ ap (option_map session_of) (row_map (left_row n) es q) ∙ turn (row_at es q) ∙ ap (option_map (without_transaction n)) (sym (get_session es q) ∙ get-entries (sessions_of es) q)
    ∙ sym (find_each (without_transaction n) (entries (sessions_of es)) q) ∙ sym (get-from_entries nat_cmp_total (map (λ e. (e.0, without_transaction n e.1)) (entries (sessions_of es))) q))
  where
    turn : (o : Option SessionRecord) → option_map session_of (option_map (left_row n) o) ≡ option_map (without_transaction n) (option_map session_of o)
    turn None = refl
    turn (Some r) = refl

pub left_row_is : (n : OwnerNo) (es : List (ℕ × SessionRecord)) (q : ℕ) → row_at (map (λ e. (e.0, left_row n e.1)) es) q ≡ option_map (left_row n) (row_at es q)
left_row_is n es q = row_map (left_row n) es q

pub left_keys : (n : OwnerNo) (es : List (ℕ × SessionRecord)) → keys_of (map (λ e. (e.0, left_row n e.1)) es) ≡ keys_of es
left_keys n [] = refl
left_keys n (e ∷ es) = ap (λ l. e.0 ∷ l) (left_keys n es)

pub get_finished : (n : OwnerNo) (m : Sessions) (q : ℕ) → get (machine.each (λ s session. without_transaction n session) m) q ≡ option_map (without_transaction n) (get m q)
get_finished n m q = get-from_entries nat_cmp_total (map (λ e. (e.0, without_transaction n e.1)) (entries m)) q ∙ find_each (without_transaction n) (entries m) q ∙ ap (option_map (without_transaction n)) (sym (get-entries m q))
