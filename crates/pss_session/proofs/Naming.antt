-- How names follow the sessions.
use Rattle.std.proofs.Common.{ℕ, ◌≡◌, List, [], ◌∷◌, find, Option, Some, None, Bool, true, false, cond, ◌==◌, refl, sym, ap, ◌∙◌, subst}
use Rattle.std.specs.Prelude.{IsSomeAnd}
use Rattle.std.specs.Option.{option_map}
use Rattle.std.specs.Str.{bytes_eq}
use Rattle.std.proofs.lemmas.Bool.{eqb-true, eq-eqb}
use Rattle.std.specs.Ordering.{nat_cmp, eq_by_cmp}
use Rattle.std.specs.FinMap as finite
use Rattle.std.specs.FinMap.{entries, get-entries}
use Rattle.pss_base.specs.declared.session.SessionNo.{SessionNo}
use Rattle.pss_machine.specs.Sessions.{Session}
use Rattle.recent_table.proofs.Maps.{no_value, one_value, tied}
use Rattle.pss_machine.proofs.Found.{found_there}
use Rattle.pss_session.specs.declared.register.SessionRecord.{SessionRecord}
use Rattle.pss_session.specs.inner.Rows.{session_of, row_at}
use Rattle.pss_session.specs.inner.Register.{AreNamed, sessions_of}
use Rattle.pss_session.proofs.Called.{same_bytes, bytes_same, by_test}
use Rattle.pss_session.proofs.Registers.{nat_key, get_session}

unlike : {A : Type 0} {b : Bool} → b ≡ true → b ≡ false → A
unlike p q = absurd (cc)

abbrev number : SessionNo → ℕ
number s = s.0

-- what an option has
record Has {A : Type 0} (o : Option A) (P : A → Type 0) : Type 0 where
  pub value : A
  pub is : o ≡ Some value
  pub holds : P value

has : {A : Type 0} {P : A → Type 0} (o : Option A) → IsSomeAnd o P → Has o P
has None h = absurd h
has (Some v) h = record { value = v; is = refl; holds = h }

have : {A : Type 0} (P : A → Type 0) (o : Option A) (v : A) → o ≡ Some v → P v → IsSomeAnd o P
have P o v is p = subst (λ x. IsSomeAnd x P) (sym is) p

module _ (row : ℕ → Option SessionRecord) (names : List ℕ → Option SessionNo) (named : AreNamed row names) where
  -- a session comes under a free name
  pub named_open : (row2 : ℕ → Option SessionRecord) (names2 : List ℕ → Option SessionNo) (k : ℕ) (r : SessionRecord) → names r.name ≡ None → row k ≡ None → ((q : ℕ) → row2 q ≡ cond (k == q) (Some r) (row q))
      → ((q : List ℕ) → names2 q ≡ cond (bytes_eq q r.name) (Some (record { 0 = k })) (names q)) → AreNamed row2 names2
  named_open row2 names2 k r free none rows turns = record { found = λ n s e. found n s (k == n) refl (sym (rows n) ∙ e); only = λ name s e. only name s (bytes_eq name r.name) refl (sym (turns name) ∙ e) }
    where
      found : (n : ℕ) (s : SessionRecord) (b : Bool) → (k == n) ≡ b → cond (k == n) (Some r) (row n) ≡ Some s → names2 s.name ≡ Some (record { 0 = n })
      found n s true is e =
          let same : r ≡ s = one_value (sym (ap (λ b. cond b (Some r) (row n)) is) ∙ e) in
          ap (λ (z : SessionRecord). names2 z.name) (sym same) ∙ turns r.name ∙ ap (λ b. cond b (Some (record { 0 = k })) (names r.name)) (bytes_same r.name) ∙ ap (λ m. Some (record { 0 = m })) (eqb-true k n is)
      found n s false is e =
          let at : row n ≡ Some s = sym (ap (λ b. cond b (Some r) (row n)) is) ∙ e in
          let old = named.found n s at in
          by_test (λ b. bytes_eq s.name r.name ≡ b → names2 s.name ≡ Some (record { 0 = n })) (bytes_eq s.name r.name)
          (λ t same. no_value _ (sym free ∙ ap names (sym (same_bytes s.name r.name same)) ∙ old))
          (λ t apart. turns s.name ∙ ap (λ b. cond b (Some (record { 0 = k })) (names s.name)) apart ∙ old) refl

      only : (name : List ℕ) (s : SessionNo) (b : Bool) → bytes_eq name r.name ≡ b → cond (bytes_eq name r.name) (Some (record { 0 = k })) (names name) ≡ Some s → IsSomeAnd (row2 s.0) (λ z. z.name ≡ name)
      only name s true is e =
          let same : record { 0 = k } ≡ s = one_value (sym (ap (λ b. cond b (Some (record { 0 = k })) (names name)) is) ∙ e) in
          have _ (row2 s.0) r (ap (λ (z : SessionNo). row2 z.0) (sym same) ∙ rows k ∙ ap (λ b. cond b (Some r) (row k)) (eq-eqb k k refl)) (sym (same_bytes name r.name is))
      only name s false is e =
          let old = has (row s.0) (named.only name s (sym (ap (λ b. cond b (Some (record { 0 = k })) (names name)) is) ∙ e)) in
          by_test (λ b. (k == s.0) ≡ b → IsSomeAnd (row2 s.0) (λ z. z.name ≡ name)) (k == s.0)
          (λ t same. no_value old.value (sym none ∙ ap row (eqb-true k s.0 same) ∙ old.is))
          (λ t apart. have _ (row2 s.0) old.value (rows s.0 ∙ ap (λ b. cond b (Some r) (row s.0)) apart ∙ old.is) old.holds) refl

  -- a session goes, and its name with it
  pub named_close : (row2 : ℕ → Option SessionRecord) (names2 : List ℕ → Option SessionNo) (k : ℕ) (r : SessionRecord) → row k ≡ Some r → ((q : ℕ) → row2 q ≡ cond (k == q) None (row q))
      → ((q : List ℕ) → names2 q ≡ cond (bytes_eq q r.name) None (names q)) → AreNamed row2 names2
  named_close row2 names2 k r at rows turns = record { found = λ n s e. found n s (k == n) refl (sym (rows n) ∙ e); only = λ name s e. only name s (bytes_eq name r.name) refl (sym (turns name) ∙ e) }
    where
      found : (n : ℕ) (s : SessionRecord) (b : Bool) → (k == n) ≡ b → cond (k == n) None (row n) ≡ Some s → names2 s.name ≡ Some (record { 0 = n })
      found n s true is e = no_value s (sym (ap (λ b. cond b None (row n)) is) ∙ e)
      found n s false is e =
          let there : row n ≡ Some s = sym (ap (λ b. cond b None (row n)) is) ∙ e in
          let old = named.found n s there in
          by_test (λ b. bytes_eq s.name r.name ≡ b → names2 s.name ≡ Some (record { 0 = n })) (bytes_eq s.name r.name)
          (λ t same. unlike (eq-eqb k n (ap number (one_value (sym (named.found k r at) ∙ ap names (sym (same_bytes s.name r.name same)) ∙ old)))) is)
          (λ t apart. turns s.name ∙ ap (λ b. cond b None (names s.name)) apart ∙ old) refl

      only : (name : List ℕ) (s : SessionNo) (b : Bool) → bytes_eq name r.name ≡ b → cond (bytes_eq name r.name) None (names name) ≡ Some s → IsSomeAnd (row2 s.0) (λ z. z.name ≡ name)
      only name s true is e = no_value s (sym (ap (λ b. cond b None (names name)) is) ∙ e)
      only name s false is e =
          let old = has (row s.0) (named.only name s (sym (ap (λ b. cond b None (names name)) is) ∙ e)) in
          by_test (λ b. (k == s.0) ≡ b → IsSomeAnd (row2 s.0) (λ z. z.name ≡ name)) (k == s.0)
          (λ t same.
          let one : r ≡ old.value = one_value (sym at ∙ ap row (eqb-true k s.0 same) ∙ old.is) in
          unlike (ap (λ l. bytes_eq l r.name) (sym old.holds ∙ ap (λ (z : SessionRecord). z.name) (sym one)) ∙ bytes_same r.name) is)
          (λ t apart. have _ (row2 s.0) old.value (rows s.0 ∙ ap (λ b. cond b None (row s.0)) apart ∙ old.is) old.holds) refl

  -- sessions change but for their names
  pub named_same : (row2 : ℕ → Option SessionRecord) → ((n : ℕ) → option_map (λ r. r.name) (row2 n) ≡ option_map (λ r. r.name) (row n)) → AreNamed row2 names
  named_same row2 same = record {
    found = λ n r e. let h = back (row n) (sym (same n) ∙ ap (option_map (λ (z : SessionRecord). z.name)) e) in ap names (sym h.holds) ∙ named.found n h.value h.is;
    only = λ name s e. let h = has (row s.0) (named.only name s e) in let g = back (row2 s.0) (same s.0 ∙ ap (option_map (λ (z : SessionRecord). z.name)) h.is) in have _ (row2 s.0) g.value g.is (g.holds ∙ h.holds);
  }
    where
      back : (o : Option SessionRecord) {name : List ℕ} → option_map (λ r. r.name) o ≡ Some name → Has o (λ r. r.name ≡ name)
      back None {name} e = no_value name e
      back (Some r) e = record { value = r; is = refl; holds = one_value e }

-- ---- the session of a name

module _ {X : Type 0} (test : ℕ × X → Bool) where
  find_passes : (es : List (ℕ × X)) (e : ℕ × X) → find test es ≡ Some e → test e ≡ true
  find_passes [] e is = no_value e is
  find_passes (x ∷ es) e is = by (test x) refl is (find_passes es e)
    where
      by : (b : Bool) → test x ≡ b → cond b (Some x) (find test es) ≡ Some e → (find test es ≡ Some e → test e ≡ true) → test e ≡ true
      by true t is rest = ap test (sym (one_value is)) ∙ t
      by false t is rest = rest is

  none_passes : (es : List (ℕ × X)) (k : ℕ) (v : X) → finite.find nat_cmp k es ≡ Some v → find test es ≡ None → test (k, v) ≡ false
  none_passes [] k v at none = no_value v at
  none_passes (e ∷ es) k v at none = by (test e) refl (eq_by_cmp nat_cmp k e.0) refl at none (none_passes es k v)
    where
      by : (b : Bool) → test e ≡ b → (t : Bool) → eq_by_cmp nat_cmp k e.0 ≡ t → cond t (Some e.1) (finite.find nat_cmp k es) ≡ Some v → cond b (Some e) (find test es) ≡ None → (finite.find nat_cmp k es ≡ Some v → find test es ≡ None → test (k, v) ≡ false) → test (k, v) ≡ false
      by true p t tie at none rest = no_value e (sym none)
      by false p true tie at none rest = (λ i. test (tied nat_key k e.0 tie i, sym (one_value at) i)) ∙ p
      by false p false tie at none rest = rest at none

module _ (es : List (ℕ × SessionRecord)) (names : List ℕ → Option SessionNo) (named : AreNamed (row_at es) names) (name : List ℕ) where
  abbrev test : ℕ × Session → Bool
  test e = bytes_eq e.1.name name

  pub named_is : option_map (λ e. record { 0 = e.0 }) (find test (entries (sessions_of es))) ≡ names name
  named_is = by (find test (entries (sessions_of es))) refl
    where
      row_of : (o : Option SessionRecord) (x : Session) → option_map session_of o ≡ Some x → Has o (λ r. session_of r ≡ x)
      row_of None x e = no_value x e
      row_of (Some r) x e = record { value = r; is = refl; holds = one_value e }

      nobody : (o : Option SessionNo) → names name ≡ o → find test (entries (sessions_of es)) ≡ None → None ≡ o
      nobody None is none = refl
      nobody (Some s) is none =
          let h = has (row_at es s.0) (named.only name s is) in
          let at : finite.find nat_cmp s.0 (entries (sessions_of es)) ≡ Some (session_of h.value) = sym (get-entries (sessions_of es) s.0) ∙ get_session es s.0 ∙ ap (option_map session_of) h.is in
          unlike (ap (λ l. bytes_eq l name) h.holds ∙ bytes_same name) (none_passes test (entries (sessions_of es)) s.0 (session_of h.value) at none)

      by : (o : Option (ℕ × Session)) → find test (entries (sessions_of es)) ≡ o → option_map (λ e. record { 0 = e.0 }) o ≡ names name
      by None is = nobody (names name) refl is
      by (Some e) is =
          let h = row_of (row_at es e.0) e.1 (sym (get_session es e.0) ∙ found_there test (sessions_of es) e is) in
          sym (ap names (sym (same_bytes e.1.name name (find_passes test (entries (sessions_of es)) e is)) ∙ ap (λ (x : Session). x.name) (sym h.holds)) ∙ named.found e.0 h.value h.is)
